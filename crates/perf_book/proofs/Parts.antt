-- What readers took until their ends met.
use Rattle.std.specs.Prelude.{◌≡◌, ℕ, ◌+◌, ◌*◌, ◌<◌, ◌≤◌, ◌==◌, Bool, true, false, All, List, [], ◌∷◌, ◌++◌, fold, length, map, take, if◌then◌else◌, Option, Some, slice_get, slice_index_or, slice_set}
use Rattle.std.proofs.{Common.{arith, refl, sym, ap, subst, ◌∙◌, append_assoc, append-nil, inl, inr}, lemmas.Bool.{cases_eq, Decides.{nat_tests}}}
use Rattle.std.proofs.lemmas.{List.{get_or_default, Sums.{fold-append}}, Option.{slice_get-get_or, slice_get_cases}}
use Rattle.perf_base.specs.{declared.{acts.Act.{Act}, numbers.RingNo.{RingNo}}, Scripts.{Scripted}}
use Rattle.perf_base.specs.declared.acts.Act.TheVariants as act
use Rattle.stage_spec.specs.{Hardware.{Hardware, hardware_of}, History.{Step, SeenStep, history, opening_stage}, Stage.{Stage}}
use Rattle.stage_spec.specs.Order.{last_seen, seen_at}
use Rattle.ring_spec.specs.{Account.{Account, Looks, ring_step}, Records.{words_of}, Rings.{account_in, account_of, bytes_of, events_after}}
use Rattle.ring_spec.{specs.Sending.{sent_after}, proofs.Rings.{account_of-push}}
use Rattle.sample_ring.specs.{InEnds.{InEnd}, Taking.{with_tail}, Lending.{with_out}, OutEnds.{OutEnd}}
use Rattle.sample_ring.specs.RingLists.{InList, OutList, ring_index, with_slot}
use Rattle.machine.specs.Readers.{AreBehind, AreReaders, HasMet, IsBehind, out_of, records_taken, records_of_slot, released_in, released_of_slot}
use Rattle.run_end.specs.Ended.{words_of_slot}
use Rattle.run_end.specs.Ended.{words_in}
use Rattle.machine.proofs.{History.{history-grows}, Behind.{MeetsEnd, MeetsReader, place-of-nth}, Pairs.{paired-set}, Places.{set-here, set-other}}
use Rattle.ring_laws.{specs.Growing.{AreLooks}, proofs.{Tails.{seen_tail}, Taken.{few-taken-of}}}
use Rattle.perf_book.{specs.Ending.{AreParts}, proofs.Looked.{IsNext, Looked, Rising, no_ring}}

-- The readers have taken and released the same, ring by ring.
pub record SameReaders (before after : InList) : Type 0 where
  pub numbers : after.numbers ≡ before.numbers
  pub words : (place : ℕ) → words_of_slot (slice_get after.readers place) ≡ words_of_slot (slice_get before.readers place)
  pub records : (place : ℕ) → records_of_slot (slice_get after.readers place) ≡ records_of_slot (slice_get before.readers place)
  pub released : (place : ℕ) → released_of_slot (slice_get after.readers place) ≡ released_of_slot (slice_get before.readers place)

pub same-self : (ins : InList) → SameReaders ins ins
same-self ins = record { numbers = refl; words = λ place. refl; records = λ place. refl; released = λ place. refl }

pub same-then : (ins now later : InList) → SameReaders ins now → SameReaders now later → SameReaders ins later
same-then ins now later g h = grind (arith, nat_tests)

same-slot : {X : Type 0} (f : Option (Option InEnd) → X) (readers : List (Option InEnd)) (n : ℕ) (i j : InEnd) → slice_get readers n ≡ Some (Some i) → f (Some (Some j)) ≡ f (Some (Some i))
    → (place : ℕ) → f (slice_get (slice_set readers n (Some j)) place) ≡ f (slice_get readers place)
same-slot f readers n i j at e place = grind (arith, nat_tests, set-here, set-other)

pub same-met : (o : OutEnd) (ins later : InList) (n : ℕ) (i j : InEnd) → slice_get ins.readers n ≡ Some (Some i) → HasMet o i j → later ≡ with_slot ins n (Some j) → SameReaders ins later
same-met o ins later n i j at met e =
    subst (SameReaders ins) (sym e)
    (record {
      numbers = refl;
      words = same-slot words_of_slot ins.readers n i j at (ap (λ (x : InEnd). x.words) met.reader);
      records = same-slot records_of_slot ins.readers n i j at (ap (λ (x : InEnd). x.records) met.reader);
      released = same-slot released_of_slot ins.readers n i j at (ap (λ (x : InEnd). 8 * x.consumer.released) met.reader);
    })

pub same-words : (ins later : InList) (ring : RingNo) → SameReaders ins later → words_in later ring ≡ words_in ins ring
same-words ins later ring h = ap (λ numbers. words_of_slot (slice_get later.readers (ring_index numbers ring))) h.numbers ∙ h.words (ring_index ins.numbers ring)

pub same-records : (ins later : InList) (ring : RingNo) → SameReaders ins later → records_taken later ring ≡ records_taken ins ring
same-records ins later ring h = ap (λ numbers. records_of_slot (slice_get later.readers (ring_index numbers ring))) h.numbers ∙ h.records (ring_index ins.numbers ring)

pub same-released : (ins later : InList) (ring : RingNo) → SameReaders ins later → released_in later ring ≡ released_in ins ring
same-released ins later ring h = ap (λ numbers. released_of_slot (slice_get later.readers (ring_index numbers ring))) h.numbers ∙ h.released (ring_index ins.numbers ring)

-- a look writes nothing
look-written : (bytes : ℕ) (ring : RingNo) (hw : Hardware) (st : Stage) (a : Account) (before : List Step) (other : RingNo) (place : ℕ)
    → (fold (ring_step bytes) a (events_after hw st ring before (SeenStep other place))).written ≡ a.written
unfolding sent_after
look-written bytes ring hw st a before other place = one (other.0 == ring.0)
  where
    one : (b : Bool) → (fold (ring_step bytes) a ((if b then Looks place ∷ [] else []) ++ [])).written ≡ a.written
    one true = refl
    one false = refl

written-look : (s : Scripted) (acts : List Act) (ring : RingNo × ℕ) (other : RingNo) (place : ℕ) → (account_in s (acts ++ act.Seen other place ∷ []) ring).written ≡ (account_in s acts ring).written
written-look s acts ring other place =
    ap (λ steps. (account_of (hardware_of s) (opening_stage s) steps ring).written) (history-grows s acts (act.Seen other place))
    ∙ (ap (λ (a : Account). a.written) (account_of-push (hardware_of s) (opening_stage s) (history s acts) (SeenStep other place) ring)
    ∙ look-written ring.1 ring.0 (hardware_of s) (opening_stage s) (account_of (hardware_of s) (opening_stage s) (history s acts) ring) (history s acts) other place)

written-looks : (s : Scripted) (from : ℕ) (before acts looks : List Act) (ring : RingNo × ℕ) → AreLooks from before looks → (account_in s (acts ++ looks) ring).written ≡ (account_in s acts ring).written
written-looks s from before acts [] ring h = ap (λ o. (account_in s o ring).written) (append-nil acts)
written-looks s from before acts (act.Processor cpu ∷ looks) ring h = absurd h
written-looks s from before acts (act.Tool tool ∷ looks) ring h = absurd h
written-looks s from before acts (act.Seen other place ∷ looks) ring h =
    ap (λ o. (account_in s o ring).written) (sym (append_assoc acts (act.Seen other place ∷ []) looks))
    ∙ (written-looks s (other.0 + 1) before (acts ++ act.Seen other place ∷ []) looks ring h.2 ∙ written-look s acts ring other place)

pub written-looked : (s : Scripted) (k : ℕ) (before items : List Act) (ring : RingNo × ℕ) → Looked s.rings k before items → (account_in s items ring).written ≡ (account_in s before ring).written
written-looked s k before items ring h = ap (λ o. (account_in s o ring).written) h.is ∙ written-looks s 0 before before h.looks ring h.are

-- and is none of another ring
last-other : (acts : List Act) (ring other : RingNo) (place : ℕ) → (other.0 ≡ ring.0 → ⊥) → last_seen ring (acts ++ act.Seen other place ∷ []) ≡ last_seen ring acts
last-other acts ring other place off = fold-append (seen_at ring) 0 acts (act.Seen other place ∷ []) ∙ one (other.0 == ring.0) refl
  where
    one : (b : Bool) → (other.0 == ring.0) ≡ b → (if b then place else last_seen ring acts) ≡ last_seen ring acts
    one true e = absurd (off (grind (arith, nat_tests, e)))
    one false e = refl

-- The last look at each of the first rings saw what its reader has released, and the reader's words are those of the
-- first records that were written.
abbrev pub IsPart : Scripted → (before items : List Act) → InList → RingNo → Type 0
IsPart s before items ins ring =
    (last_seen ring items ≡ released_in ins ring) × (words_in ins ring ≡ words_of (take (records_taken ins ring) (account_in s before (ring, bytes_of s ring)).written))

abbrev pub PartsTo : ℕ → Scripted → (before items : List Act) → InList → Type 0
PartsTo k s before items ins = (j : ℕ) → j < k → j < length s.rings → IsPart s before items ins (slice_index_or s.rings j no_ring).0

pub parts-more : (k : ℕ) (s : Scripted) (before items later : List Act) (ins : InList) → Rising s.rings → k < length s.rings → IsNext s.rings k items later
    → PartsTo k s before items ins → IsPart s before later ins (slice_index_or s.rings k no_ring).0 → PartsTo (k + 1) s before later ins
parts-more k s before items later ins rise low next parts own j below inside = elim (cases_eq j k) [
  | inl e ↦ subst (λ n. IsPart s before later ins (slice_index_or s.rings n no_ring).0) (sym e) own
  | inr off ↦
      let ring : RingNo = (slice_index_or s.rings j no_ring).0 in
      let part = parts j (omega (arith, below, off)) inside in
      let less : ring.0 < (slice_index_or s.rings k no_ring).0.0 = rise j k no_ring (omega (arith, below, off)) low in
      let last : last_seen ring later ≡ last_seen ring items = still ring less next in
      (last ∙ part.0, part.1)
]
  where
    still : (ring : RingNo) → ring.0 < (slice_index_or s.rings k no_ring).0.0 → IsNext s.rings k items later → last_seen ring later ≡ last_seen ring items
    still ring less (inl same) = ap (last_seen ring) same
    still ring less (inr look) = ap (last_seen ring) look.2 ∙ last-other items ring (slice_index_or s.rings k no_ring).0 look.0 (λ e. omega (arith, less, e))

-- Where a reader is behind its end, the place that it has released is the last tail seen; and once the ends of one ring
-- have met, all readers are still behind.
pub met-still : (words k : ℕ) (ring : RingNo) (outs later_outs : OutList) (ins later_ins : InList) (o : OutEnd) → out_of outs ring ≡ Some o → ring_index outs.numbers ring ≡ k
    → MeetsEnd ring outs later_outs ins → MeetsReader ring outs ins later_ins → AreBehind words outs ins
    → (released_in ins ring ≡ o.producer.last_tail) × AreBehind words later_outs later_ins
met-still words k ring outs later_outs ins later_ins o at place end reader h =
    let here : slice_get outs.outs k ≡ Some o = ap (slice_get outs.outs) (sym place) ∙ at in
    let there = h.each k o here in
    let i : InEnd = there.0 in
    let same : ring_index ins.numbers ring ≡ k = ap (λ n. ring_index n ring) h.numbers ∙ place in
    let slot : slice_get ins.readers (ring_index ins.numbers ring) ≡ Some (Some i) = ap (slice_get ins.readers) same ∙ there.1 in
    let met = reader o i at slot in
    let p : OutEnd = with_tail o (8 * i.consumer.released) (o.producer.loads + 1) in
    let is_out : with_out outs k p ≡ later_outs = sym (end o at ∙ (λ n. with_out outs (place n) (with_tail o (ap released_of_slot slot n) (o.producer.loads + 1)))) in
    let is_in : with_slot ins k (Some met.0) ≡ later_ins = sym (met.2 ∙ ap (λ n. with_slot ins n (Some met.0)) same) in
    let behind : IsBehind words p met.0 = record {
      ring = ap (λ (x : InEnd). x.consumer.ring) met.1.reader ∙ there.2.ring;
      released = ap (λ (x : InEnd). 8 * x.consumer.released) met.1.reader;
      room = omega (arith, there.2.room, ap (λ (x : InEnd). x.room) met.1.reader);
    } in (
      ap released_of_slot slot ∙ there.2.released,
      subst (λ (outs : OutList). AreBehind words outs later_ins) is_out
          (subst (AreBehind words (with_out outs k p)) is_in
          (record { numbers = h.numbers; each = paired-set (IsBehind words) outs.outs ins.readers k o p i met.0 h.each here there.1 behind })),
    )

-- the reader that a ring's ends leave where they meet is the same but for what it has seen
pub met-same : (words k : ℕ) (ring : RingNo) (outs : OutList) (ins later : InList) (o : OutEnd) → out_of outs ring ≡ Some o → ring_index outs.numbers ring ≡ k → MeetsReader ring outs ins later
    → AreReaders words outs ins → SameReaders ins later
met-same words k ring outs ins later o at place reader h =
    let there = h.each k o (ap (slice_get outs.outs) (sym place) ∙ at) in
    let same : ring_index ins.numbers ring ≡ k = ap (λ n. ring_index n ring) h.numbers ∙ place in
    let slot : slice_get ins.readers (ring_index ins.numbers ring) ≡ Some (Some there.0) = ap (slice_get ins.readers) same ∙ there.1 in
    let met = reader o there.0 at slot in
    same-met o ins later (ring_index ins.numbers ring) there.0 met.0 slot met.1 met.2

-- a look that sees no more than the last one is none
pub no-look : (rings : List (RingNo × ℕ)) (k : ℕ) (items later : List Act) → IsNext rings k items later → last_seen (slice_index_or rings k no_ring).0 later ≡ last_seen (slice_index_or rings k no_ring).0 items
    → later ≡ items
no-look rings k items later (inl same) e = same
no-look rings k items later (inr look) e =
    let ring : RingNo = (slice_index_or rings k no_ring).0 in
    absurd (omega (arith, look.1, e, ap (last_seen ring) look.2, last-own items ring look.0))
  where
    last-own : (acts : List Act) (ring : RingNo) (place : ℕ) → last_seen ring (acts ++ act.Seen ring place ∷ []) ≡ place
    last-own acts ring place = fold-append (seen_at ring) 0 acts (act.Seen ring place ∷ []) ∙ one (ring.0 == ring.0) refl
      where
        one : (b : Bool) → (ring.0 == ring.0) ≡ b → (if b then place else last_seen ring acts) ≡ place
        one true e = refl
        one false e = absurd (grind (arith, nat_tests, e))

-- a reader has taken what it has released
released-words : (words : ℕ) (outs : OutList) (ins : InList) (ring : RingNo) (k : ℕ) → ring_index outs.numbers ring ≡ k → k < length outs.outs → AreReaders words outs ins
    → released_in ins ring ≤ 8 * length (words_in ins ring)
released-words words outs ins ring k place low h = elim (slice_get_cases outs.outs k).1 [
  | inl (o, _, at, _) ↦ grind (arith, nat_tests, o, at)
  | inr (past, _) ↦ absurd (omega (arith, past, low))
]

-- What the last looks saw is what the readers had released, and no more records stand before them than the readers had
-- taken.
pub all-parts : (k : ℕ) (s : Scripted) (words : ℕ) (before items : List Act) (outs : OutList) (ins : InList) → All (λ r. bytes_of s r.0 ≡ r.1) s.rings → length s.rings ≤ k
    → outs.numbers ≡ map (λ r. r.0) s.rings → length outs.outs ≡ length s.rings → Rising s.rings → AreReaders words outs ins → Looked s.rings k before items → PartsTo k s before items ins
    → AreParts s items ins
all-parts k s words before items outs ins declared past numbers ends rise readers looked parts j d low =
    let r : RingNo × ℕ = slice_index_or s.rings j d in
    let same : slice_index_or s.rings j no_ring ≡ r = get_or_default s.rings j no_ring d low in
    let part : IsPart s before items ins r.0 = subst (λ (x : RingNo × ℕ). IsPart s before items ins x.0) same (parts j (omega (arith, past, low)) low) in
    let bytes : bytes_of s r.0 ≡ r.1 = declared j d low in
    let written : (account_in s items r).written ≡ (account_in s before (r.0, bytes_of s r.0)).written =
    written-looked s k before items r looked ∙ ap (λ n. (account_in s before (r.0, n)).written) (sym bytes) in
    let tail : (account_in s items r).tail ≡ last_seen r.0 items = seen_tail s items r.0 r.1 in
    let place : ring_index outs.numbers r.0 ≡ j = grind (arith, nat_tests, place-of-nth, slice_get-get_or) in
    let released : released_in ins r.0 ≤ 8 * length (words_in ins r.0) = released-words words outs ins r.0 j place (omega (arith, ends, low)) readers in
    let few = few-taken-of s items r (records_taken ins r.0)
    (omega (arith, tail, part.0, released, ap length part.1, ap (λ records. length (words_of (take (records_taken ins r.0) records))) written)) in
    (part.0, few)
