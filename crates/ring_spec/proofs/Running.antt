-- The record kept step by step is that of the history, and replies by it are the definitions'.
use Rattle.std.specs.Prelude.{◌↔◌, ◌≡◌, ℕ, ◌+◌, List, [], ◌∷◌, ◌++◌, map, fold, flat_map, sum_by, count_by, cond}
use Rattle.std.proofs.{Common.{arith, refl, sym, ap, ◌∙◌, append_assoc, append-nil}, Math.Path.{fun_ext}}
use Rattle.std.proofs.lemmas.List.Sums.{sum_by-append, sum_by-cons}
use Rattle.perf_base.specs.declared.{numbers.{CpuNo.{CpuNo}, EventNo.{EventNo}, RingNo.{RingNo}}, reply.{Reply.{Reply}, Sums.{Sums}}}
use Rattle.stage_spec.specs.{Hardware.{Hardware}, Stage.{Stage}, History.{Step, SeenStep, stage_step, stage_after}}
use Rattle.stage_spec.specs.{Sums.{sums_of, count_of, enabled_of, running_of}, Remainders.{remainder_of, remainder_from}}
use Rattle.stage_spec.specs.{Families.{folded_of, folded_from, family_sums}, Replies.{IsAnswerAt, IsReply, AreReplies}}
use Rattle.stage_spec.proofs.{Recurrence.{stage_after-push, sums_of-push, folded_of-push}, Remainders.{remainder_of-push}}
use Rattle.ring_spec.specs.Sending.{SentSample, sent_by_step, sent_after, length_by, clock_of}
use Rattle.ring_spec.specs.Account.{RingEvent, Account, account, ring_step, lost_among, lost_of, is_event}
use Rattle.ring_spec.specs.Rings.{events_by, events_of, events_from, account_of, lost_count}
use Rattle.ring_spec.specs.Running.{RingAccount, Running, first_record, empty_ring, ring_after, losses_on, record_after, record_of, family_by, IsAnswerBy, AreRepliesBy, RecordLaw, RepliesLaw}
use Rattle.ring_spec.proofs.Rings.{account_of-push}

pub map-map : {X Y Z : Type 0} (f : X → Y) (g : Y → Z) (xs : List X) → map g (map f xs) ≡ map (λ x. g (f x)) xs
map-map f g [] = refl
map-map f g (x ∷ xs) = ap (λ ys. g (f x) ∷ ys) (map-map f g xs)

pub lost-more : (bytes : ℕ) (a : Account) (events : List RingEvent) → (fold (ring_step bytes) a events).lost ≡ a.lost ++ lost_among bytes a events
lost-more bytes a [] = sym (append-nil a.lost)
lost-more bytes a (x ∷ events) = grind (arith, append_assoc, lost-more bytes (ring_step bytes a x) events)

count_by-append : (e : EventNo) (xs ys : List EventNo) → count_by (is_event e) (xs ++ ys) ≡ count_by (is_event e) xs + count_by (is_event e) ys
count_by-append e xs ys = sum_by-append (λ f. cond (is_event e f) 1 0) xs ys

-- all rings together
rings-lost : (e : EventNo) (x : Step) (sents : List (RingNo × SentSample)) (rings : List RingAccount)
    → sum_by (λ (a : RingAccount). lost_of e a.account) (map (ring_after x sents) rings) ≡ sum_by (λ (a : RingAccount). lost_of e a.account) rings + count_by (is_event e) (flat_map (losses_on x sents) rings)
rings-lost e x sents [] = refl
rings-lost e x sents (a ∷ rings) =
    let events : List RingEvent = events_by x sents a.ring in
    let here : lost_of e (ring_after x sents a).account ≡ lost_of e a.account + count_by (is_event e) (losses_on x sents a) =
    ap (count_by (is_event e)) (lost-more a.bytes a.account events) ∙ count_by-append e a.account.lost (losses_on x sents a) in
    omega (
      arith,
      here,
      rings-lost e x sents rings,
      count_by-append e (losses_on x sents a) (flat_map (losses_on x sents) rings),
      sum_by-cons (λ (a : RingAccount). lost_of e a.account) (ring_after x sents a) (map (ring_after x sents) rings),
      sum_by-cons (λ (a : RingAccount). lost_of e a.account) a rings,
    )

-- a record with its fields as functions
pub record IsKept (hw : Hardware) (s : Stage) (declared : List (RingNo × ℕ)) (before : List Step) (r : Running) : Type 0 where
  pub stage : r.stage ≡ stage_after hw s before
  pub sums : r.sums ≡ sums_of hw s before
  pub left : r.left ≡ remainder_of hw s before
  pub folded : r.folded ≡ folded_of hw s before
  pub lost : (e : EventNo) → r.lost e ≡ sum_by (λ (a : RingAccount). lost_of e a.account) r.rings
  pub clock : r.clock ≡ clock_of before
  pub rings : r.rings ≡ map (λ ring. record { ring = ring.0; bytes = ring.1; account = account_of hw s before ring }) declared

none_lost : (e : EventNo) (rings : List (RingNo × ℕ)) → 0 ≡ sum_by (λ (a : RingAccount). lost_of e a.account) (map empty_ring rings)
none_lost e [] = refl
none_lost e (ring ∷ rings) = omega (arith, none_lost e rings, sum_by-cons (λ (a : RingAccount). lost_of e a.account) (empty_ring ring) (map empty_ring rings))

pub kept-first : (hw : Hardware) (s : Stage) (rings : List (RingNo × ℕ)) → IsKept hw s rings [] (first_record s rings)
unfolding stage_after sums_of count_of enabled_of running_of folded_of folded_from remainder_of remainder_from account_of account events_of events_from
kept-first hw s rings = grind (arith, fun_ext, none_lost)

clock_of-push : (before : List Step) (x : Step) (cpu : CpuNo) → clock_of (before ++ x ∷ []) cpu ≡ clock_of before cpu + length_by cpu x
clock_of-push before x cpu = omega (arith, sum_by-append (length_by cpu) before (x ∷ []))

ring-grows : (hw : Hardware) (s : Stage) (before : List Step) (x : Step) (ring : RingNo × ℕ)
    → fold (ring_step ring.1) (account_of hw s before ring) (events_by x (sent_by_step hw (stage_after hw s before) (remainder_of hw s before) (clock_of before) x) ring.0)
    ≡ account_of hw s (before ++ x ∷ []) ring
unfolding sent_after
ring-grows hw s before x ring = sym (account_of-push hw s before x ring)

pub kept-step : (hw : Hardware) (s : Stage) (rings : List (RingNo × ℕ)) (before : List Step) (r : Running) (x : Step)
    → IsKept hw s rings before r → IsKept hw s rings (before ++ x ∷ []) (record_after hw r x)
kept-step hw s rings before r x h =
    let sents : List (RingNo × SentSample) = sent_by_step hw (stage_after hw s before) (remainder_of hw s before) (clock_of before) x in
    record {
      stage = ap (λ t. stage_step hw t x) h.stage ∙ sym (stage_after-push hw s before x);
      sums = fun_ext (λ id. rw (h.stage, h.sums) (sym (sums_of-push hw s before x id)));
      left = fun_ext (λ id. rw (h.stage, h.left) (sym (remainder_of-push hw s before x id)));
      folded = fun_ext (λ e. rw (h.stage, h.sums, h.folded) (sym (folded_of-push hw s before x e)));
      lost = λ e. ap (λ n. n + count_by (is_event e) (flat_map (losses_on x (sent_by_step hw r.stage r.left r.clock x)) r.rings)) (h.lost e)
          ∙ sym (rings-lost e x (sent_by_step hw r.stage r.left r.clock x) r.rings);
      clock = fun_ext (λ cpu. rw h.clock (sym (clock_of-push before x cpu)));
      rings = rw (h.stage, h.left, h.clock, h.rings)
          (map-map (λ ring. record { ring = ring.0; bytes = ring.1; account = account_of hw s before ring }) (ring_after x sents) rings
          ∙ ap (λ (f : RingNo × ℕ → RingAccount). map f rings) (fun_ext (λ ring. ap (λ a. record { ring = ring.0; bytes = ring.1; account = a }) (ring-grows hw s before x ring))));
    }

kept-over : (hw : Hardware) (s : Stage) (rings : List (RingNo × ℕ)) (before : List Step) (r : Running) → IsKept hw s rings before r
    → (steps : List Step) → IsKept hw s rings (before ++ steps) (fold (record_after hw) r steps)
kept-over hw s rings before r h [] = rw append-nil h
kept-over hw s rings before r h (x ∷ steps) =
    grind (arith, append_assoc, kept-step, kept-over hw s rings (before ++ x ∷ []) (record_after hw r x) (kept-step hw s rings before r x h) steps)

pub kept : (hw : Hardware) (s : Stage) (rings : List (RingNo × ℕ)) (steps : List Step) → IsKept hw s rings steps (record_of hw s rings steps)
unfolding record_of
kept hw s rings steps = kept-over hw s rings [] (first_record s rings) (kept-first hw s rings) steps

abbrev pub in_account : (RingNo × ℕ → Account) → RingNo × ℕ → RingAccount
in_account f ring = record { ring = ring.0; bytes = ring.1; account = f ring }

lost_sum : (e : EventNo) (f : RingNo × ℕ → Account) (rings : List (RingNo × ℕ))
    → sum_by (λ (a : RingAccount). lost_of e a.account) (map (in_account f) rings) ≡ sum_by (λ ring. lost_of e (f ring)) rings
lost_sum e f [] = refl
lost_sum e f (ring ∷ rings) = search (sum_by-cons, lost_sum e f rings)

pub kept-lost : (hw : Hardware) (s : Stage) (rings : List (RingNo × ℕ)) (before : List Step) (r : Running) → IsKept hw s rings before r
    → (e : EventNo) → r.lost e ≡ lost_count hw s rings before e
unfolding lost_count
kept-lost hw s rings before r h e = h.lost e ∙ (ap (sum_by (λ (a : RingAccount). lost_of e a.account)) h.rings ∙ lost_sum e (account_of hw s before) rings)

pub record_law : RecordLaw
record_law hw s rings steps =
    let r : Running = record_of hw s rings steps in
    let h : IsKept hw s rings steps r = kept hw s rings steps in
    grind (arith, kept-lost, r, h)

-- the answer to a step by a record of the history
family-is : (hw : Hardware) (s : Stage) (rings : List (RingNo × ℕ)) (before : List Step) (r : Running) → IsKept hw s rings before r → family_by r ≡ family_sums hw s before
unfolding family_sums
family-is hw s rings before r h = fun_ext (λ e. rw (h.stage, h.sums, h.folded) refl)

pub same_answer : (hw : Hardware) (s t : Stage) (sums f : EventNo → Sums) (lost l : EventNo → ℕ) (x : Step) (a : Reply) → s ≡ t → sums ≡ f → lost ≡ l
    → IsAnswerAt hw s sums lost x a → IsAnswerAt hw t f l x a
same_answer hw s t sums f lost l x a p q r h = rw (← p, ← q, ← r) h

pub answer_is : (hw : Hardware) (s : Stage) (rings : List (RingNo × ℕ)) (before : List Step) (r : Running) (x : Step) (a : Reply) → IsKept hw s rings before r
    → (IsAnswerBy hw r x a ↔ IsReply hw s before (lost_count hw s rings before) x a)
unfolding IsReply
answer_is hw s rings before r x a h =
    let sums : family_by r ≡ family_sums hw s before = family-is hw s rings before r h in
    let lost : r.lost ≡ lost_count hw s rings before = fun_ext (kept-lost hw s rings before r h) in
    grind (arith, same_answer, sums, lost)

answers_are : (hw : Hardware) (s : Stage) (rings : List (RingNo × ℕ)) (before : List Step) (r : Running) → IsKept hw s rings before r
    → (steps : List Step) (replies : List Reply) → (AreRepliesBy hw r steps replies ↔ AreReplies hw s (lost_count hw s rings) before steps replies)
unfolding AreRepliesBy AreReplies
answers_are hw s rings before r h [] [] = (λ g. g, λ g. g)
answers_are hw s rings before r h [] (a ∷ replies) = (λ g. g, λ g. g)
answers_are hw s rings before r h (SeenStep ring place ∷ steps) replies =
    answers_are hw s rings (before ++ SeenStep ring place ∷ []) (record_after hw r (SeenStep ring place)) (kept-step hw s rings before r (SeenStep ring place) h) steps replies
answers_are hw s rings before r h (x ∷ steps) [] = (λ g. g, λ g. g)
answers_are hw s rings before r h (x ∷ steps) (a ∷ replies) =
    let now : (IsAnswerBy hw r x a ↔ IsReply hw s before (lost_count hw s rings before) x a) = answer_is hw s rings before r x a h in
    let rest : (AreRepliesBy hw (record_after hw r x) steps replies ↔ AreReplies hw s (lost_count hw s rings) (before ++ x ∷ []) steps replies) =
    answers_are hw s rings (before ++ x ∷ []) (record_after hw r x) (kept-step hw s rings before r x h) steps replies in
    (λ g. (now.0 g.0, rest.0 g.1), λ g. (now.1 g.0, rest.1 g.1))

pub replies_law : RepliesLaw
replies_law hw s rings before steps replies = answers_are hw s rings before (record_of hw s rings before) (kept hw s rings before) steps replies
