-- The records that a step loses are of events in slots.
use Rattle.std.specs.Prelude.{◌≡◌, ℕ, ◌+◌, ◌<◌, ◌≤◌, ◌==◌, Bool, true, false, cond, ⊤, nat_le, if◌then◌else◌, List, [], ◌∷◌, filter, find, flat_map, count_by, IfSome, Option, Some, None}
use Rattle.std.proofs.{Common.{arith, refl}, lemmas.{Bool.Decides.{nat_tests}, List.Sums.{sum_by-cons}}}
use Rattle.perf_base.specs.declared.{lines.{CpuLine.{CpuLine}, Work.{Work}}, numbers.{CpuNo.{CpuNo}, EventNo.{EventNo}, RingNo.{RingNo}}}
use Rattle.perf_base.specs.declared.lines.CpuLine.TheVariants as cpu_line
use Rattle.stage_spec.specs.{declared.instance.Instance.{Instance}, Hardware.{Hardware}, History.{Step, CpuStep, ToolStep, SeenStep}}
use Rattle.stage_spec.specs.{Stage.{Stage, all_instances, is_original, original_of}, Verdict.{on_instances}}
use Rattle.stage_spec.proofs.Each.{Each, none-Each, cons-Each, head-Each, tail-Each, append-Each, map-Each, filter-Each, replicate-Each}
use Rattle.ring_spec.specs.Account.{RingEvent, Sends, Looks, Account, lost_by, lost_among, ring_step, is_event, need_of, room_of}
use Rattle.ring_spec.specs.{Rings.{is_to, looks_at, sends_to, events_by}, Running.{Running}}
use Rattle.ring_spec.specs.Sending.{SentSample, to_ring, sent_by_family, sent_by_line, sent_by_step, fields_of, overflows_by, sent_of}
use Rattle.world_spec.specs.Stepping.{losses_by}

-- a slot of an event, of a record that is sent, and of what happens to a ring
abbrev Low : EventNo → Type 0
Low e = e.0 < 256

abbrev LowSent : RingNo × SentSample → Type 0
LowSent q = Low q.1.event

abbrev LowEvent : RingEvent → Type 0
LowEvent (Sends sent) = Low sent.event
LowEvent (Looks place) = ⊤

each-all : {X Y : Type 0} (Q : Y → Type 0) (f : X → List Y) → ((x : X) → Each Q (f x)) → (xs : List X) → Each Q (flat_map f xs)
each-all Q f h [] = none-Each Q
each-all Q f h (x ∷ xs) = append-Each Q (f x) (flat_map f xs) (h x) (each-all Q f h xs)

-- what is found is one of them
found : {X : Type 0} (P : X → Type 0) (p : X → Bool) (xs : List X) → Each P xs → IfSome (find p xs) P
found P p [] h = tt
found P p (x ∷ xs) h = one (p x) (found P p xs (tail-Each P x xs h))
  where
    one : (b : Bool) → IfSome (find p xs) P → IfSome (cond b (Some x) (find p xs)) P
    one true rest = head-Each P x xs h
    one false rest = rest

to-ring : (o : Option RingNo) (n : ℕ) (sent : SentSample) → Low sent.event → Each LowSent (to_ring o n sent)
to-ring None n sent low = none-Each LowSent
to-ring (Some ring) n sent low = replicate-Each LowSent n (ring, sent) low

by-family : (o : Option Instance) (s : Stage) (cpu : CpuNo) (w : Work) (clock count : ℕ) (i : Instance) → IfSome o (λ j. Low j.event)
    → Each LowSent (sent_by_family o s cpu w clock count i)
by-family None s cpu w clock count i low = none-Each LowSent
by-family (Some original) s cpu w clock count i low = to-ring original.ring count (sent_of original w i (fields_of s cpu w clock original.id i)) low

by-line : (hw : Hardware) (s : Stage) (left : ℕ → ℕ) (clock : ℕ) (cpu : CpuNo) (line : CpuLine) → Each (λ i. Low i.event) (all_instances s)
    → Each LowSent (sent_by_line hw s left clock cpu line)
by-line hw s left clock cpu (cpu_line.Switch to) low = none-Each LowSent
by-line hw s left clock cpu (cpu_line.Work w) low =
    each-all LowSent (λ i. sent_by_family (original_of s i.event) s cpu w (clock + w.length) (overflows_by w (left i.id) i) i)
    (λ i. by-family (original_of s i.event) s cpu w (clock + w.length) (overflows_by w (left i.id) i) i (found (λ j. Low j.event) (is_original i.event) (all_instances s) low))
    (on_instances hw s cpu)
by-line hw s left clock cpu cpu_line.Tick low = none-Each LowSent
by-line hw s left clock cpu (cpu_line.Fork child) low = none-Each LowSent
by-line hw s left clock cpu cpu_line.Exit low = none-Each LowSent

by-step : (hw : Hardware) (s : Stage) (left : ℕ → ℕ) (clock : CpuNo → ℕ) (x : Step) → Each (λ i. Low i.event) (all_instances s)
    → Each LowSent (sent_by_step hw s left clock x)
by-step hw s left clock (CpuStep cpu line) low = by-line hw s left (clock cpu) cpu line low
by-step hw s left clock (ToolStep line) low = none-Each LowSent
by-step hw s left clock (SeenStep ring place) low = none-Each LowSent

looks-low : (ring : RingNo) (x : Step) → Each LowEvent (looks_at ring x)
looks-low ring (CpuStep cpu line) = none-Each LowEvent
looks-low ring (ToolStep line) = none-Each LowEvent
looks-low ring (SeenStep other place) = one (other.0 == ring.0)
  where
    one : (b : Bool) → Each LowEvent (if b then Looks place ∷ [] else [])
    one true = cons-Each LowEvent (Looks place) [] tt (none-Each LowEvent)
    one false = none-Each LowEvent

events-low : (x : Step) (sents : List (RingNo × SentSample)) (ring : RingNo) → Each LowSent sents → Each LowEvent (events_by x sents ring)
events-low x sents ring low =
    append-Each LowEvent (looks_at ring x) (sends_to ring sents) (looks-low ring x)
    (map-Each LowSent LowEvent (λ sent. Sends sent.1) (λ sent h. h) (filter (is_to ring) sents) (filter-Each LowSent (is_to ring) sents low))

one-lost : (bytes : ℕ) (a : Account) (e : RingEvent) → LowEvent e → Each Low (lost_by bytes a e)
one-lost bytes a (Looks place) low = none-Each Low
one-lost bytes a (Sends sent) low = one (nat_le (need_of a sent) (room_of bytes a))
  where
    one : (b : Bool) → Each Low (elim b as (λ _. List EventNo) [ true ↦ [] | false ↦ sent.event ∷ [] ])
    one true = none-Each Low
    one false = cons-Each Low sent.event [] low (none-Each Low)

lost-low : (bytes : ℕ) (a : Account) (events : List RingEvent) → Each LowEvent events → Each Low (lost_among bytes a events)
lost-low bytes a [] low = none-Each Low
lost-low bytes a (e ∷ events) low =
    append-Each Low (lost_by bytes a e) (lost_among bytes (ring_step bytes a e) events) (one-lost bytes a e (head-Each LowEvent e events low))
    (lost-low bytes (ring_step bytes a e) events (tail-Each LowEvent e events low))

none-past : (e : EventNo) (losses : List EventNo) → 256 ≤ e.0 → Each Low losses → count_by (is_event e) losses ≡ 0
none-past e [] past low = refl
none-past e (f ∷ losses) past low = grind (arith, nat_tests, head-Each, tail-Each, sum_by-cons, none-past e losses past (tail-Each Low f losses low))

-- no record is lost of a slot that there is not
pub past-none : (hw : Hardware) (r : Running) (x : Step) (e : EventNo) → Each (λ i. Low i.event) (all_instances r.stage) → 256 ≤ e.0 → count_by (is_event e) (losses_by hw r x) ≡ 0
past-none hw r x e low past = search (nat_tests, none-past, each-all, lost-low, events-low, by-step)
