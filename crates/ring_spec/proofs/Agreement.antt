-- Records that agree go on agreeing, and answer alike.
use Rattle.std.specs.Prelude.{◌↔◌, ◌≡◌, ℕ, ◌+◌, ◌==◌, ◌⊎◌, Bool, true, false, List, [], ◌∷◌, map, fold, flat_map, length, nat_le, Option, Some, None, drop}
use Rattle.std.{specs.List.{list_any}, proofs.{Common.{arith, refl, sym, ap, subst, ◌∙◌, inl, inr, get_or}, lemmas.Bool.Decides.{nat_tests}}}
use Rattle.std.proofs.lemmas.List.{length-append}
use Rattle.perf_base.specs.declared.{numbers.{CpuNo.{CpuNo}, EventNo.{EventNo}, RingNo.{RingNo}}, lines.{CpuLine.{CpuLine}, ToolLine.{ToolLine}}}
use Rattle.perf_base.specs.declared.{lines.Work.{Work}, reasons.Reason.{Reason}, reply.{Reply.{Reply}, Sums.{Sums}}}
use Rattle.perf_base.specs.declared.lines.CpuLine.TheVariants as cpu_line
use Rattle.perf_base.specs.declared.lines.ToolLine.TheVariants as tool_line
use Rattle.perf_base.specs.declared.reply.Reply.TheVariants as reply
use Rattle.stage_spec.specs.{declared.instance.Instance.{Instance}, Hardware.{Hardware}}
use Rattle.stage_spec.specs.Stage.{Stage, Group, members_of, all_groups, all_instances, is_original, is_open, original_of, group_of}
use Rattle.stage_spec.specs.{Verdict.{on_instances}, Opening.{is_used}, History.{Step, CpuStep, ToolStep, SeenStep, tool_refusal, stage_step}}
use Rattle.stage_spec.specs.{Families.{plus_each, leaving}, Remainders.{left_by, left_by_hits, left_by_period, new_period, instance_of}}
use Rattle.stage_spec.specs.Reading.{read_words, read_words_of, words_in, words_by, words_of_group, words_of_member, words_unless_error, has_format, is_error}
use Rattle.stage_spec.specs.{Effective.{state_in}, Replies.{IsAnswerAt, IsToolReply, UnlessRefused}}
use Rattle.stage_spec.proofs.{Each.{Each, flat_map-same, head-Each, weaker-Each, filter-Each, InGroup, InStage}, Carried.{IsOfName, step-in}}
use Rattle.stage_spec.proofs.{Inside.{all_instances-in, InStage-from_all}, Parts.{joined-Each}}
use Rattle.stage_spec.proofs.{Present.{on_instances-in, leaving-in, Found, any-found, find-holds, find-any, each_at, each_there}, Drawn.{step-draws}}
use Rattle.ring_spec.specs.Sending.{SentSample, sent_by_step, sent_by_line, sent_at, length_by}
use Rattle.ring_spec.specs.Account.{RingEvent, Sends, Looks, Account, ring_step, lost_by, lost_among, written_to, lost_to, need_of, room_of}
use Rattle.ring_spec.specs.{Rings.{events_by}, Running.{RingAccount, Running, ring_after, losses_on, record_after, family_by, IsAnswerBy}}
use Rattle.ring_spec.specs.Agreement.{lives, IsCurrentId, IsCurrentSlot, RingView, view_of, Agree, StepAgreesLaw, AreFamiliesOpen, AnswerAgreesLaw}
use Rattle.ring_spec.proofs.Running.{lost-more}

-- functions that give the same of each element
plus_each-same : (f g : Instance → Sums) (xs : List Instance) → Each (λ i. f i ≡ g i) xs → plus_each f xs ≡ plus_each g xs
unfolding Each
plus_each-same f g [] h = refl
plus_each-same f g (x ∷ xs) h = rw (h.0, plus_each-same f g xs h.1) refl

-- each instance has a current id
all_live : (s : Stage) → Each (λ i. lives s i.id ≡ true) (all_instances s)
all_live s = weaker-Each (λ i. (i.id == i.id) ≡ true → lives s i.id ≡ true) (λ i. lives s i.id ≡ true) (λ i h. h (grind (arith, nat_tests))) (all_instances s)
    (each_there (λ i j. j.id == i.id) (all_instances s))

-- An id that is current after a step was so before it.
abbrev OldOrNew : Stage → Instance → Type 0
OldOrNew s i = IsCurrentId s i.id

id-named : (s : Stage) → IsOfName (OldOrNew s)
id-named s = record { holds = λ i j id event copy h. subst (IsCurrentId s) id h }

earlier_id : (hw : Hardware) (s : Stage) (x : Step) (id : ℕ) → IsCurrentId (stage_step hw s x) id → IsCurrentId s id
earlier_id hw s x id (inr low) = inr (omega (arith, low, (step-draws hw s x).ids))
earlier_id hw s x id (inl live) =
    let next : Stage = stage_step hw s x in
    let before : Each (OldOrNew s) (all_instances s) = weaker-Each (λ i. lives s i.id ≡ true) (OldOrNew s) (λ i h. inl h) (all_instances s) (all_live s) in
    let after : Each (OldOrNew s) (all_instances next) = all_instances-in (OldOrNew s) next (step-in (OldOrNew s) (id-named s) hw s x (λ i l h. inr l) (InStage-from_all (OldOrNew s) s before)) in
    let found : Found (OldOrNew s) (λ i. i.id == id) = any-found (OldOrNew s) (λ i. i.id == id) (all_instances next) after live in
    let number : found.it.id ≡ id = grind (arith, nat_tests, found.passes) in
    subst (IsCurrentId s) number found.holds

-- and so a slot
abbrev OfSlot : Stage → Instance → Type 0
OfSlot s i = (i.copy ≡ true) ⊎ IsCurrentSlot s i.event

slot-named : (s : Stage) → IsOfName (OfSlot s)
slot-named s = record { holds = λ i j id event copy h. one i j event copy h }
  where
    one : (i j : Instance) → i.event ≡ j.event → i.copy ≡ j.copy → OfSlot s i → OfSlot s j
    one i j event copy (inl h) = inl (sym copy ∙ h)
    one i j event copy (inr h) = inr (subst (IsCurrentSlot s) event h)

slot_of : (s : Stage) (i : Instance) → (is_original i.event i ≡ true → is_open s i.event ≡ true) → OfSlot s i
slot_of s i h = one i.copy refl
  where
    one : (b : Bool) → i.copy ≡ b → OfSlot s i
    one true e = inl e
    one false e = inr (inl (h (grind (arith, nat_tests, e))))

new_slot : (s : Stage) (i : Instance) → (i.copy ≡ true) ⊎ (is_used s i.event ≡ false) → OfSlot s i
new_slot s i (inl h) = inl h
new_slot s i (inr h) = inr (inr h)

of_original : (s : Stage) (e : EventNo) (i : Instance) → is_original e i ≡ true → OfSlot s i → IsCurrentSlot s e
of_original s e i p (inl copy) = absurd (grind (arith, nat_tests, copy, p))
of_original s e i p (inr h) =
    let number : i.event.0 ≡ e.0 = grind (arith, nat_tests, p) in
    subst (IsCurrentSlot s) (ap (λ n. let f : EventNo = record { 0 = n } in f) number) h

earlier_slot : (hw : Hardware) (s : Stage) (x : Step) (e : EventNo) → IsCurrentSlot (stage_step hw s x) e → IsCurrentSlot s e
earlier_slot hw s x e (inr unused) = inr ((step-draws hw s x).slots e unused)
earlier_slot hw s x e (inl opened) =
    let next : Stage = stage_step hw s x in
    let before : Each (OfSlot s) (all_instances s) =
    weaker-Each (λ i. is_original i.event i ≡ true → is_open s i.event ≡ true) (OfSlot s) (slot_of s) (all_instances s) (each_there (λ i j. is_original i.event j) (all_instances s)) in
    let after : Each (OfSlot s) (all_instances next) = all_instances-in (OfSlot s) next (step-in (OfSlot s) (slot-named s) hw s x (λ i l h. new_slot s i h) (InStage-from_all (OfSlot s) s before)) in
    let found : Found (OfSlot s) (is_original e) = any-found (OfSlot s) (is_original e) (all_instances next) after opened in
    of_original s e found.it found.passes found.holds

-- the records that a step sends
hits-same : (hw : Hardware) (s : Stage) (left other : ℕ → ℕ) (clock : ℕ) (cpu : CpuNo) (w : Work) → Each (λ i. left i.id ≡ other i.id) (on_instances hw s cpu)
    → sent_at hw s left clock cpu w ≡ sent_at hw s other clock cpu w
hits-same hw s left other clock cpu w h = grind (arith, nat_tests, flat_map-same, weaker-Each)

line-same : (hw : Hardware) (s : Stage) (left other : ℕ → ℕ) (clock now : ℕ) (cpu : CpuNo) (line : CpuLine) → Each (λ i. left i.id ≡ other i.id) (on_instances hw s cpu) → clock ≡ now
    → sent_by_line hw s left clock cpu line ≡ sent_by_line hw s other now cpu line
line-same hw s left other clock now cpu (cpu_line.Switch to) h e = refl
line-same hw s left other clock now cpu (cpu_line.Work w) h e = rw e (hits-same hw s left other (now + w.length) cpu w h)
line-same hw s left other clock now cpu cpu_line.Tick h e = refl
line-same hw s left other clock now cpu (cpu_line.Fork child) h e = refl
line-same hw s left other clock now cpu cpu_line.Exit h e = refl

sent-same : (hw : Hardware) (s : Stage) (left other : ℕ → ℕ) (clock now : CpuNo → ℕ) (x : Step) → ((id : ℕ) → lives s id ≡ true → left id ≡ other id) → ((cpu : CpuNo) → clock cpu ≡ now cpu)
    → sent_by_step hw s left clock x ≡ sent_by_step hw s other now x
sent-same hw s left other clock now (CpuStep cpu line) h e =
    let P : Instance → Type 0 = λ i. left i.id ≡ other i.id in
    let each : InStage P s = InStage-from_all P s (weaker-Each (λ i. lives s i.id ≡ true) P (λ i k. h i.id k) (all_instances s) (all_live s)) in
    line-same hw s left other (clock cpu) (now cpu) cpu line (on_instances-in P hw s cpu each) (e cpu)
sent-same hw s left other clock now (ToolStep line) h e = refl
sent-same hw s left other clock now (SeenStep ring place) h e = refl

-- what is left of a period
left-same : (hw : Hardware) (s : Stage) (x : Step) (id n m : ℕ) → (lives s id ≡ true → n ≡ m) → left_by hw s x id n ≡ left_by hw s x id m
left-same hw s x id n m h = by_period (new_period s x id)
  where
    by_hits : (o : Option Instance) → instance_of s id ≡ o → left_by_hits hw s x id o n ≡ left_by_hits hw s x id o m
    by_hits None e = refl
    by_hits (Some i) e = ap (λ k. left_by_hits hw s x id (Some i) k) (h (find-any (λ j. j.id == id) (all_instances s) i e))

    by_period : (o : Option ℕ) → left_by_period hw s x id o n ≡ left_by_period hw s x id o m
    by_period (Some period) = refl
    by_period None = by_hits (instance_of s id) refl

-- an account without the names of those whose records were lost
abbrev nameless : Account → Account
nameless a = record a { lost = [] }

step-nameless : (bytes : ℕ) (a : Account) (x : RingEvent) → nameless (ring_step bytes a x) ≡ nameless (ring_step bytes (nameless a) x)
step-nameless bytes a (Looks place) = refl
step-nameless bytes a (Sends sent) = one (nat_le (need_of a sent) (room_of bytes a))
  where
    one : (b : Bool) → nameless (elim b as (λ x. Account) [ true ↦ written_to a sent | false ↦ lost_to a sent ]) ≡ nameless (elim b as (λ x. Account) [ true ↦ written_to (nameless a) sent | false ↦ lost_to (nameless a) sent ])
    one true = refl
    one false = refl

lost-nameless : (bytes : ℕ) (a : Account) (x : RingEvent) → lost_by bytes a x ≡ lost_by bytes (nameless a) x
lost-nameless bytes a (Looks place) = refl
lost-nameless bytes a (Sends sent) = refl

fold-nameless : (bytes : ℕ) (a : Account) (events : List RingEvent) → nameless (fold (ring_step bytes) a events) ≡ nameless (fold (ring_step bytes) (nameless a) events)
fold-nameless bytes a [] = refl
fold-nameless bytes a (x ∷ events) =
    grind (arith, nat_tests, fold-nameless bytes (ring_step bytes a x) events, fold-nameless bytes (ring_step bytes (nameless a) x) events)

among-nameless : (bytes : ℕ) (a : Account) (events : List RingEvent) → lost_among bytes a events ≡ lost_among bytes (nameless a) events
among-nameless bytes a [] = refl
among-nameless bytes a (x ∷ events) =
    let rest : lost_among bytes (ring_step bytes a x) events ≡ lost_among bytes (ring_step bytes (nameless a) x) events =
    among-nameless bytes (ring_step bytes a x) events ∙ (ap (λ b. lost_among bytes b events) (step-nameless bytes a x) ∙ sym (among-nameless bytes (ring_step bytes (nameless a) x) events)) in
    rw (lost-nameless bytes a x, rest) refl

-- rings that show the same go on showing the same, and lose the same
abbrev shown : RingView → Account
shown v = record { written = v.written; pending = v.pending; lost = []; tail = v.tail }

ring-view : (x : Step) (sents : List (RingNo × SentSample)) (a : RingAccount)
    → let v : RingView = view_of a in
    let events : List RingEvent = events_by x sents v.ring in
    let after : Account = nameless (fold (ring_step v.bytes) (shown v) events) in
    let now : RingView = record { ring = v.ring; bytes = v.bytes; written = after.written; pending = after.pending; lost = v.lost + length (lost_among v.bytes (shown v) events); tail = after.tail } in
    view_of (ring_after x sents a) ≡ now
ring-view x sents a = grind (arith, nat_tests, fold-nameless, lost-more, length-append, among-nameless)

after-same : (x : Step) (sents : List (RingNo × SentSample)) (a b : RingAccount) → view_of a ≡ view_of b → view_of (ring_after x sents a) ≡ view_of (ring_after x sents b)
after-same x sents a b e = grind (arith, nat_tests, ring-view)

losses-same : (x : Step) (sents : List (RingNo × SentSample)) (a b : RingAccount) → view_of a ≡ view_of b → losses_on x sents a ≡ losses_on x sents b
losses-same x sents a b e = grind (arith, nat_tests, among-nameless)

-- so for all rings
head_view : (a b : RingAccount) (rs qs : List RingAccount) → map view_of (a ∷ rs) ≡ map view_of (b ∷ qs) → view_of a ≡ view_of b
head_view a b rs qs e = ap (λ (l : List RingView). get_or l 0 (view_of a)) e

tail_views : (a b : RingAccount) (rs qs : List RingAccount) → map view_of (a ∷ rs) ≡ map view_of (b ∷ qs) → map view_of rs ≡ map view_of qs
tail_views a b rs qs e = ap (drop 1) e

rings-same : (x : Step) (sents : List (RingNo × SentSample)) (rs qs : List RingAccount) → map view_of rs ≡ map view_of qs → map view_of (map (ring_after x sents) rs) ≡ map view_of (map (ring_after x sents) qs)
rings-same x sents [] [] e = refl
rings-same x sents [] (b ∷ qs) e = absurd (omega (arith, ap length e))
rings-same x sents (a ∷ rs) [] e = absurd (omega (arith, ap length e))
rings-same x sents (a ∷ rs) (b ∷ qs) e = search (nat_tests, after-same, head_view, tail_views, rings-same x sents rs qs (tail_views a b rs qs e))

all_losses-same : (x : Step) (sents : List (RingNo × SentSample)) (rs qs : List RingAccount) → map view_of rs ≡ map view_of qs → flat_map (losses_on x sents) rs ≡ flat_map (losses_on x sents) qs
all_losses-same x sents [] [] e = refl
all_losses-same x sents [] (b ∷ qs) e = absurd (omega (arith, ap length e))
all_losses-same x sents (a ∷ rs) [] e = absurd (omega (arith, ap length e))
all_losses-same x sents (a ∷ rs) (b ∷ qs) e = rw (losses-same x sents a b (head_view a b rs qs e), all_losses-same x sents rs qs (tail_views a b rs qs e)) refl

-- one step, where the stage is the same
sums-in : (r q : Running) (s : Stage) (xs : List Instance) → ((id : ℕ) → IsCurrentId s id → r.sums id ≡ q.sums id) → Each (λ i. lives s i.id ≡ true) xs → Each (λ i. r.sums i.id ≡ q.sums i.id) xs
sums-in r q s xs h k = weaker-Each (λ i. lives s i.id ≡ true) (λ i. r.sums i.id ≡ q.sums i.id) (λ i l. h i.id (inl l)) xs k

abbrev staged : Stage → Running → Running
staged s q = record q { stage = s }

step-same : (hw : Hardware) (r q : Running) (x : Step) → Agree r (staged r.stage q) → Agree (record_after hw r x) (record_after hw (staged r.stage q) x)
step-same hw r q x h =
    let s : Stage = r.stage in
    let P : Instance → Type 0 = λ i. r.sums i.id ≡ q.sums i.id in
    let each : InStage P s = InStage-from_all P s (sums-in r q s (all_instances s) h.sums (all_live s)) in
    let sents : sent_by_step hw s r.left r.clock x ≡ sent_by_step hw s q.left q.clock x = sent-same hw s r.left q.left r.clock q.clock x h.left h.clock in
    record {
      stage = refl;
      sums = λ id k. rw (h.sums id (earlier_id hw s x id k)) refl;
      left = λ id k. left-same hw s x id (r.left id) (q.left id) (h.left id);
      folded = λ e k. rw (h.folded e (earlier_slot hw s x e k), plus_each-same (λ i. r.sums i.id) (λ i. q.sums i.id) (leaving s x e) (leaving-in P s x e each)) refl;
      lost = λ e k. rw (h.lost e (earlier_slot hw s x e k), sents, all_losses-same x (sent_by_step hw s q.left q.clock x) r.rings q.rings h.rings) refl;
      clock = λ cpu. ap (λ n. n + length_by cpu x) (h.clock cpu);
      rings = rw sents (rings-same x (sent_by_step hw s q.left q.clock x) r.rings q.rings h.rings);
    }

pub step_agrees : StepAgreesLaw
step_agrees hw r q x h =
    let same : staged r.stage q ≡ q = ap (λ s. staged s q) h.stage in
    subst (λ p. Agree (record_after hw r x) (record_after hw p x)) same (step-same hw r q x (subst (Agree r) (sym same) h))

-- answers
abbrev Alike : (EventNo → Sums) → (EventNo → Sums) → (EventNo → ℕ) → (EventNo → ℕ) → Instance → Type 0
Alike f g l m i = (f i.event ≡ g i.event) × (l i.event ≡ m i.event)

member_words : (format : ℕ) (f g : EventNo → Sums) (l m : EventNo → ℕ) (i : Instance) → Alike f g l m i → words_of_member format (f i.event) i.id (l i.event) ≡ words_of_member format (g i.event) i.id (m i.event)
member_words format f g l m i h = rw (h.0, h.1) refl

group_words : (format : ℕ) (f g : EventNo → Sums) (l m : EventNo → ℕ) (group : Group) → InGroup (Alike f g l m) group → words_of_group format f l group ≡ words_of_group format g m group
group_words format f g l m group h =
    let members : flat_map (λ i. words_of_member format (f i.event) i.id (l i.event)) (members_of group) ≡ flat_map (λ i. words_of_member format (g i.event) i.id (m i.event)) (members_of group) =
    flat_map-same (λ i. words_of_member format (f i.event) i.id (l i.event)) (λ i. words_of_member format (g i.event) i.id (m i.event)) (members_of group)
    (weaker-Each (Alike f g l m) (λ i. words_of_member format (f i.event) i.id (l i.event) ≡ words_of_member format (g i.event) i.id (m i.event)) (member_words format f g l m) (members_of group) h) in
    let leader : f group.leader.event ≡ g group.leader.event = (head-Each (Alike f g l m) group.leader group.siblings h).0 in
    rw (members, leader) refl

words-same : (f g : EventNo → Sums) (l m : EventNo → ℕ) (group : Group) (i : Instance) → InGroup (Alike f g l m) group → Alike f g l m i → words_in f l group i ≡ words_in g m group i
words-same f g l m group i h k = one (has_format 8 i.attr.format)
  where
    one : (b : Bool) → words_by b f l group i ≡ words_by b g m group i
    one true = group_words i.attr.format f g l m group h
    one false = rw (k.0, k.1) refl

read-same : (f g : EventNo → Sums) (l m : EventNo → ℕ) (s : Stage) (e : EventNo) → InStage (Alike f g l m) s → read_words f l s e ≡ read_words g m s e
unfolding read_words
read-same f g l m s e h = one (group_of s e) (original_of s e) refl refl
  where
    one : (group : Option Group) (i : Option Instance) → group_of s e ≡ group → original_of s e ≡ i → read_words_of f l group i ≡ read_words_of g m group i
    one None i p q = refl
    one (Some group) None p q = refl
    one (Some group) (Some i) p q =
        let all : Each (Alike f g l m) (all_instances s) = all_instances-in (Alike f g l m) s h in
        let here : InGroup (Alike f g l m) group =
        find-holds (InGroup (Alike f g l m)) (λ k. list_any (is_original e) (members_of k)) (all_groups s) group (joined-Each (Alike f g l m) members_of (all_groups s) all) p in
        ap (words_unless_error (is_error (state_in group i))) (words-same f g l m group i here (find-holds (Alike f g l m) (is_original e) (all_instances s) i all q))

pub unless-same : (refusal : Option Reason) (a : Reply) (P Q : Type 0) → (P → Q) → UnlessRefused refusal a P → UnlessRefused refusal a Q
unless-same (Some r) a P Q f h = h
unless-same None a P Q f h = f h

done-same : (hw : Hardware) (s : Stage) (f g : EventNo → Sums) (l m : EventNo → ℕ) (line : ToolLine) (a : Reply) → InStage (Alike f g l m) s → IsToolReply hw s f l line a → IsToolReply hw s g m line a
done-same hw s f g l m (tool_line.Open slot attr leader) a h d = d
done-same hw s f g l m (tool_line.Enable event group) a h d = d
done-same hw s f g l m (tool_line.Disable event group) a h d = d
done-same hw s f g l m (tool_line.Reset event group) a h d = d
done-same hw s f g l m (tool_line.Period event period) a h d = d
done-same hw s f g l m (tool_line.Read event size) a h d = d ∙ ap reply.Read (read-same f g l m s event h)
done-same hw s f g l m (tool_line.Map event ring) a h d = d
done-same hw s f g l m (tool_line.Output event target) a h d = d
done-same hw s f g l m (tool_line.Close event) a h d = d
done-same hw s f g l m (tool_line.Why event) a h d = d
done-same hw s f g l m (tool_line.Seats cpu) a h d = d

answer-same : (hw : Hardware) (s : Stage) (f g : EventNo → Sums) (l m : EventNo → ℕ) (x : Step) (a : Reply) → InStage (Alike f g l m) s → IsAnswerAt hw s f l x a → IsAnswerAt hw s g m x a
answer-same hw s f g l m (CpuStep cpu line) a h d = d
answer-same hw s f g l m (ToolStep line) a h d = unless-same (tool_refusal hw s line) a (IsToolReply hw s f l line a) (IsToolReply hw s g m line a) (done-same hw s f g l m line a h) d
answer-same hw s f g l m (SeenStep ring place) a h d = d

-- the numbers of each family that is there
families-same : (r q : Running) → AreFamiliesOpen r.stage → Agree r (staged r.stage q) → InStage (Alike (family_by r) (family_by (staged r.stage q)) r.lost q.lost) r.stage
families-same r q opened h =
    let s : Stage = r.stage in
    let P : Instance → Type 0 = λ i. r.sums i.id ≡ q.sums i.id in
    let each : Each P (all_instances s) = sums-in r q s (all_instances s) h.sums (all_live s) in
    let one : (i : Instance) → is_open s i.event ≡ true → Alike (family_by r) (family_by (staged s q)) r.lost q.lost i =
    grind (arith, nat_tests, plus_each-same, filter-Each) in
    grind (arith, nat_tests, InStage-from_all, s, weaker-Each, one, each_at)

back_again : (f g : EventNo → Sums) (l m : EventNo → ℕ) (s : Stage) → InStage (Alike f g l m) s → InStage (Alike g f m l) s
back_again f g l m s h = InStage-from_all (Alike g f m l) s (weaker-Each (Alike f g l m) (Alike g f m l) (λ i k. (sym k.0, sym k.1)) (all_instances s) (all_instances-in (Alike f g l m) s h))

pub answer_agrees : AnswerAgreesLaw
answer_agrees hw r q x a opened h =
    let same : staged r.stage q ≡ q = ap (λ s. staged s q) h.stage in
    let alike : InStage (Alike (family_by r) (family_by (staged r.stage q)) r.lost q.lost) r.stage = families-same r q opened (subst (Agree r) (sym same) h) in
    let both : (IsAnswerBy hw r x a ↔ IsAnswerBy hw (staged r.stage q) x a) = grind (arith, nat_tests, answer-same, back_again) in
    subst (λ p. IsAnswerBy hw r x a ↔ IsAnswerBy hw p x a) same both
