-- A script whose order is answered step by step is answered as the definitions say.
use Rattle.std.specs.Prelude.{◌≡◌, ℕ, ◌+◌, ◌==◌, nat_le, Bool, true, false, ◌&&◌, ◌||◌, List, [], ◌∷◌, ◌++◌, map, fold, find, length, take, drop, sum, Option, Some, None, option_map, unwrap_or, suc, cond}
use Rattle.std.proofs.{Common.{arith, refl, sym, ap, ◌∙◌, inl, inr, append_assoc, append-nil, get_or}, lemmas.List.{length-append}}
use Rattle.std.proofs.lemmas.{Option.{none-some}, Bool.{and_parts, false≢true, or_cases, leb-true, Decides.{nat_tests}}}
use Rattle.perf_base.specs.{declared.{numbers.RingNo.{RingNo}, acts.Act.{Act}, reply.Reply.{Reply}}, Scripts.{Scripted}}
use Rattle.perf_base.specs.declared.acts.Act.TheVariants as act
use Rattle.stage_spec.specs.{Hardware.{Hardware, hardware_of}, Stage.{Stage}, Order.{IsLawfulAct, IsLawfulSeen}}
use Rattle.stage_spec.specs.{History.{Step, CpuStep, ToolStep, SeenStep, steps_of, steps_from, history, opening_stage}, Replies.{AreReplies}}
use Rattle.stage_spec.proofs.Recurrence.{steps-push}
use Rattle.ring_spec.specs.{Records.{record_size}, Rings.{account_of, bytes_of, bytes_in, sizes_in, lost_count}}
use Rattle.ring_spec.{specs.Running.{RingAccount, Running, record_after, IsAnswerBy}, proofs.Running.{IsKept, kept-step, answer_is, in_account}}
use Rattle.ring_laws.proofs.Tails.{seen_tail}
use Rattle.ring_spec.proofs.Sizes.{sum_from}

-- whether a place stands behind some of the records of these sizes
abbrev pub is_behind : (at place : ℕ) → List ℕ → Bool
is_behind at place [] = at == place
is_behind at place (n ∷ sizes) = at == place || is_behind (at + n) place sizes

abbrev pub looks_lawful : List ℕ → (last place : ℕ) → Bool
looks_lawful sizes last place = nat_le last place && is_behind 0 place sizes

abbrev pub lawful_at : Option RingAccount → ℕ → Bool
lawful_at None place = false
lawful_at (Some a) place = looks_lawful (map record_size a.account.written) a.account.tail place

abbrev pub is_ring : RingNo → RingAccount → Bool
is_ring ring a = a.ring.0 == ring.0

abbrev pub look_ok : List RingAccount → Step → Bool
look_ok accounts (CpuStep cpu line) = true
look_ok accounts (ToolStep line) = true
look_ok accounts (SeenStep ring place) = lawful_at (find (is_ring ring) accounts) place

-- each line answered at what the steps before it leave, each look at a tail lawful, and something said of the end
unfoldable pub RunRings : Hardware → (Running → Type 0) → Running → List Step → List Reply → Type 0
RunRings hw End k [] [] = End k
RunRings hw End k [] (a ∷ replies) = ⊥
RunRings hw End k (SeenStep ring place ∷ steps) replies = (look_ok k.rings (SeenStep ring place) ≡ true) × RunRings hw End (record_after hw k (SeenStep ring place)) steps replies
RunRings hw End k (x ∷ steps) [] = ⊥
RunRings hw End k (x ∷ steps) (a ∷ replies) = IsAnswerBy hw k x a × RunRings hw End (record_after hw k x) steps replies

-- what is behind
pub sum-cons : (x : ℕ) (xs : List ℕ) → sum (x ∷ xs) ≡ x + sum xs
sum-cons x xs = sum_from (0 + x) xs ∙ omega arith

behind_more : (at place n : ℕ) (sizes : List ℕ) → (m : ℕ) × (place ≡ (at + n) + sum (take m sizes)) → (m : ℕ) × (place ≡ at + sum (take m (n ∷ sizes)))
behind_more at place n sizes h = (suc h.0, omega (arith, h.1, sum-cons n (take h.0 sizes)))

behind_some : (at place : ℕ) (sizes : List ℕ) → is_behind at place sizes ≡ true → (n : ℕ) × (place ≡ at + sum (take n sizes))
behind_some at place [] h = (0, grind (arith, nat_tests, h))
behind_some at place (n ∷ sizes) h = elim (or_cases (at == place) (is_behind (at + n) place sizes) h) [
  | inl e ↦ (0, grind (arith, nat_tests, e))
  | inr e ↦ behind_more at place n sizes (behind_some (at + n) place sizes e)
]

pub lawful_seen : (sizes : List ℕ) (last place : ℕ) → looks_lawful sizes last place ≡ true → IsLawfulSeen sizes last place
lawful_seen sizes last place h =
    let some : (n : ℕ) × (place ≡ 0 + sum (take n sizes)) = behind_some 0 place sizes (and_parts (nat_le last place) (is_behind 0 place sizes) h).1 in
    record {
      above = leb-true last place (and_parts (nat_le last place) (is_behind 0 place sizes) h).0;
      behind = (some.0, omega (arith, some.1));
    }

-- the looks among steps, each lawful
abbrev pub declared : List (RingNo × ℕ) → RingNo → RingNo × ℕ
declared rings ring = (ring, bytes_in (find (λ r. r.0.0 == ring.0) rings))

abbrev pub LawfulStep : Hardware → Stage → List (RingNo × ℕ) → List Step → Step → Type 0
LawfulStep hw s rings before (CpuStep cpu line) = Unit {0}
LawfulStep hw s rings before (ToolStep line) = Unit {0}
LawfulStep hw s rings before (SeenStep ring place) =
    IsLawfulSeen (map record_size (account_of hw s before (declared rings ring)).written) (account_of hw s before (declared rings ring)).tail place

unfoldable pub LawfulFrom : Hardware → Stage → List (RingNo × ℕ) → (before steps : List Step) → Type 0
LawfulFrom hw s rings before [] = Unit {0}
LawfulFrom hw s rings before (x ∷ steps) = LawfulStep hw s rings before x × LawfulFrom hw s rings (before ++ x ∷ []) steps

LawfulFrom-rest : (hw : Hardware) (s : Stage) (rings : List (RingNo × ℕ)) (before steps more : List Step) → LawfulFrom hw s rings before (steps ++ more) → LawfulFrom hw s rings (before ++ steps) more
unfolding LawfulFrom
LawfulFrom-rest hw s rings before [] more h = rw append-nil h
LawfulFrom-rest hw s rings before (x ∷ steps) more h =
    let regrouped : (before ++ x ∷ []) ++ steps ≡ before ++ x ∷ steps = append_assoc before (x ∷ []) steps in
    rw (← regrouped) (LawfulFrom-rest hw s rings (before ++ x ∷ []) steps more h.1)

-- the first act of a lawful history is lawful
first-lawful : (s : Scripted) (before : List Act) (a : Act) (more : List Step)
    → LawfulFrom (hardware_of s) (opening_stage s) s.rings (history s before) (steps_of s before a ++ more) → IsLawfulAct (sizes_in s before) before a
unfolding LawfulFrom
first-lawful s before (act.Processor cpu) more h = tt
first-lawful s before (act.Tool tool) more h = tt
first-lawful s before (act.Seen ring place) more h = record { above = rw (← seen_tail s before ring (bytes_of s ring)) h.0.above; behind = h.0.behind }

pub lawful_acts : (s : Scripted) (before acts : List Act) → LawfulFrom (hardware_of s) (opening_stage s) s.rings (history s before) (steps_from s before acts)
    → (some after : List Act) (a : Act) → acts ≡ some ++ a ∷ after → IsLawfulAct (sizes_in s (before ++ some)) (before ++ some) a
unfolding steps_from
lawful_acts s before [] h some after a e = absurd (omega (arith, ap length e, length-append some (a ∷ after)))
lawful_acts s before (c ∷ acts) h [] after a e =
    let same : c ≡ a = ap (λ l. get_or l 0 a) e in
    rw (append-nil before, ← same) (first-lawful s before c (steps_from s (before ++ c ∷ []) acts) h)
lawful_acts s before (c ∷ acts) h (d ∷ some) after a e =
    let same : c ≡ d = ap (λ l. get_or l 0 a) e in
    let rest : acts ≡ some ++ a ∷ after = ap (drop 1) e in
    let regrouped : (before ++ c ∷ []) ++ some ≡ before ++ c ∷ some = append_assoc before (c ∷ []) some in
    let so_far : history s (before ++ c ∷ []) ≡ history s before ++ steps_of s before c = steps-push s [] before c in
    let later : LawfulFrom (hardware_of s) (opening_stage s) s.rings (history s before ++ steps_of s before c) (steps_from s (before ++ c ∷ []) acts) =
    LawfulFrom-rest (hardware_of s) (opening_stage s) s.rings (history s before) (steps_of s before c) (steps_from s (before ++ c ∷ []) acts) h in
    rw (← same, ← regrouped) (lawful_acts s (before ++ c ∷ []) acts (rw so_far later) some after a rest)

-- a look that is lawful by the accounts kept is lawful
pub find-passes : (p : RingNo × ℕ → Bool) (f : RingNo × ℕ → RingAccount) (q : RingAccount → Bool) → ((r : RingNo × ℕ) → q (f r) ≡ p r)
    → (rings : List (RingNo × ℕ)) → find q (map f rings) ≡ option_map f (find p rings)
find-passes p f q same [] = refl
find-passes p f q same (r ∷ rings) = one (p r) (q (f r)) (same r) (find-passes p f q same rings)
  where
    one : (b c : Bool) → c ≡ b → find q (map f rings) ≡ option_map f (find p rings) → cond c (Some (f r)) (find q (map f rings)) ≡ option_map f (cond b (Some r) (find p rings))
    one true true e rest = refl
    one true false e rest = absurd (false≢true e)
    one false true e rest = absurd (false≢true (sym e))
    one false false e rest = rest

pub found_ring : (ring : RingNo) (rings : List (RingNo × ℕ)) (r : RingNo × ℕ) → find (λ r. r.0.0 == ring.0) rings ≡ Some r → r.0 ≡ ring
found_ring ring [] r e = absurd (none-some r e)
found_ring ring (q ∷ rings) r e = one (q.0.0 == ring.0) refl (λ e. found_ring ring rings r e) e
  where
    one : (b : Bool) → (q.0.0 == ring.0) ≡ b → (find (λ r. r.0.0 == ring.0) rings ≡ Some r → r.0 ≡ ring) → cond b (Some q) (find (λ r. r.0.0 == ring.0) rings) ≡ Some r → r.0 ≡ ring
    one true same rest e =
        let number : q.0.0 ≡ ring.0 = grind (arith, nat_tests, same) in
        ap (λ r. r.0) (sym (ap (λ o. unwrap_or o q) e)) ∙ ap (λ n. record { 0 = n }) number
    one false same rest e = rest e

found_lawful : (hw : Hardware) (s : Stage) (rings : List (RingNo × ℕ)) (before : List Step) (ring : RingNo) (place : ℕ) (o : Option (RingNo × ℕ))
    → find (λ r. r.0.0 == ring.0) rings ≡ o → lawful_at (option_map (in_account (account_of hw s before)) o) place ≡ true
    → IsLawfulSeen (map record_size (account_of hw s before (ring, bytes_in o)).written) (account_of hw s before (ring, bytes_in o)).tail place
found_lawful hw s rings before ring place None e h = absurd (false≢true h)
found_lawful hw s rings before ring place (Some r) e h =
    let same : r.0 ≡ ring = found_ring ring rings r e in
    rw (← same) (lawful_seen (map record_size (account_of hw s before r).written) (account_of hw s before r).tail place h)

pub lawful_by : (hw : Hardware) (s : Stage) (rings : List (RingNo × ℕ)) (before : List Step) (k : Running) (x : Step) → IsKept hw s rings before k → look_ok k.rings x ≡ true → LawfulStep hw s rings before x
lawful_by hw s rings before k (CpuStep cpu line) h ok = tt
lawful_by hw s rings before k (ToolStep line) h ok = tt
lawful_by hw s rings before k (SeenStep ring place) h ok =
    let f : RingNo × ℕ → RingAccount = in_account (account_of hw s before) in
    let found : find (is_ring ring) k.rings ≡ option_map f (find (λ r. r.0.0 == ring.0) rings) =
    ap (find (is_ring ring)) h.rings ∙ find-passes (λ r. r.0.0 == ring.0) f (is_ring ring) (λ r. refl) rings in
    found_lawful hw s rings before ring place (find (λ r. r.0.0 == ring.0) rings) refl (ap (λ o. lawful_at o place) (sym found) ∙ ok)

-- what comes of steps whose lines are answered one by one
pub record Outcome (hw : Hardware) (s : Stage) (rings : List (RingNo × ℕ)) (End : Running → Type 0) (before steps : List Step) (replies : List Reply) : Type 0 where
  pub answers : AreReplies hw s (lost_count hw s rings) before steps replies
  pub lawful : LawfulFrom hw s rings before steps
  pub last : Running
  pub keeps : IsKept hw s rings (before ++ steps) last
  pub said : End last

pub run_rings : (hw : Hardware) (s : Stage) (rings : List (RingNo × ℕ)) (End : Running → Type 0) (before : List Step) (k : Running) → IsKept hw s rings before k
    → (steps : List Step) (replies : List Reply) → RunRings hw End k steps replies → Outcome hw s rings End before steps replies
unfolding RunRings AreReplies LawfulFrom
run_rings hw s rings End before k h [] [] g = record { answers = tt; lawful = tt; last = k; keeps = rw append-nil h; said = g }
run_rings hw s rings End before k h [] (a ∷ replies) g = absurd g
run_rings hw s rings End before k h (SeenStep ring place ∷ steps) replies g =
    let x : Step = SeenStep ring place in
    let rest : Outcome hw s rings End (before ++ x ∷ []) steps replies = run_rings hw s rings End (before ++ x ∷ []) (record_after hw k x) (kept-step hw s rings before k x h) steps replies g.1 in
    let regrouped : (before ++ x ∷ []) ++ steps ≡ before ++ x ∷ steps = append_assoc before (x ∷ []) steps in
    record { answers = rest.answers; lawful = (lawful_by hw s rings before k x h g.0, rest.lawful); last = rest.last; keeps = rw (← regrouped) rest.keeps; said = rest.said }
run_rings hw s rings End before k h (CpuStep cpu line ∷ steps) [] g = absurd g
run_rings hw s rings End before k h (CpuStep cpu line ∷ steps) (a ∷ replies) g =
    let x : Step = CpuStep cpu line in
    let rest : Outcome hw s rings End (before ++ x ∷ []) steps replies = run_rings hw s rings End (before ++ x ∷ []) (record_after hw k x) (kept-step hw s rings before k x h) steps replies g.1 in
    let regrouped : (before ++ x ∷ []) ++ steps ≡ before ++ x ∷ steps = append_assoc before (x ∷ []) steps in
    record { answers = ((answer_is hw s rings before k x a h).0 g.0, rest.answers); lawful = (tt, rest.lawful); last = rest.last; keeps = rw (← regrouped) rest.keeps; said = rest.said }
run_rings hw s rings End before k h (ToolStep line ∷ steps) [] g = absurd g
run_rings hw s rings End before k h (ToolStep line ∷ steps) (a ∷ replies) g =
    let x : Step = ToolStep line in
    let rest : Outcome hw s rings End (before ++ x ∷ []) steps replies = run_rings hw s rings End (before ++ x ∷ []) (record_after hw k x) (kept-step hw s rings before k x h) steps replies g.1 in
    let regrouped : (before ++ x ∷ []) ++ steps ≡ before ++ x ∷ steps = append_assoc before (x ∷ []) steps in
    record { answers = ((answer_is hw s rings before k x a h).0 g.0, rest.answers); lawful = (tt, rest.lawful); last = rest.last; keeps = rw (← regrouped) rest.keeps; said = rest.said }
