-- What one more step adds to a history.
use Rattle.std.specs.Prelude.{◌≡◌, ℕ, ◌+◌, Bool, true, false, ◌||◌, List, [], ◌∷◌, ◌++◌, if◌then◌else◌}
use Rattle.std.proofs.Common.{arith, refl, sym, ap, ◌∙◌, append_assoc, append-nil}
use Rattle.perf_base.specs.{declared.{acts.Act.{Act}, numbers.EventNo.{EventNo}, reply.Sums.{Sums}}, Scripts.{Scripted}}
use Rattle.perf_base.proofs.FlatMaps.{flat_map_after-push}
use Rattle.stage_spec.specs.{Hardware.{Hardware}, Stage.{Stage}, History.{Step, stage_step, stage_after, steps_from, steps_of}, Shares.{share, no_sums}}
use Rattle.stage_spec.specs.Sums.{resets, is_reset_by, count_of, enabled_of, running_of, sums_of}
use Rattle.stage_spec.specs.{Families.{plus, plus_each, leaving, folded_from, folded_of}, Recurrence.{after_reset, StageLaw, SumsLaw, FoldedLaw}}

pub stage_after-push : StageLaw
unfolding stage_after
stage_after-push hw s [] x = refl
stage_after-push hw s (y ∷ steps) x = stage_after-push hw (stage_step hw s y) steps x

pub steps-push : (s : Scripted) (before acts : List Act) (a : Act) → steps_from s before (acts ++ a ∷ []) ≡ steps_from s before acts ++ steps_of s (before ++ acts) a
unfolding steps_from
steps-push s before acts a = flat_map_after-push (steps_of s) before acts a

or-assoc : (a b c : Bool) → (a || (b || c)) ≡ ((a || b) || c)
or-assoc true b c = refl
or-assoc false b c = refl

pub or-false : (a : Bool) → (a || false) ≡ a
or-false true = refl
or-false false = refl

-- whether a history with one more step resets an instance
pub is_reset_by-push : (hw : Hardware) (s : Stage) (steps : List Step) (x : Step) (id : ℕ)
    → is_reset_by hw s (steps ++ x ∷ []) id ≡ (is_reset_by hw s steps id || resets (stage_after hw s steps) x id)
unfolding stage_after is_reset_by
is_reset_by-push hw s [] x id = or-false (resets s x id)
is_reset_by-push hw s (y ∷ steps) x id = grind (arith, or-assoc, is_reset_by-push hw (stage_step hw s y) steps x id)

-- a count that a reset takes back
abbrev taken_back : Bool → ℕ → ℕ
taken_back true n = 0
taken_back false n = n

one_more : (earlier reset : Bool) (n rest added : ℕ)
    → (if (earlier || reset) then 0 else n) + (taken_back reset rest + added) ≡ taken_back reset ((if earlier then 0 else n) + rest) + added
one_more true true n rest added = omega arith
one_more true false n rest added = omega arith
one_more false true n rest added = omega arith
one_more false false n rest added = omega arith

none_before : (reset : Bool) (added : ℕ) → added + 0 ≡ taken_back reset 0 + added
none_before true added = omega arith
none_before false added = omega arith

count_of-push : (hw : Hardware) (s : Stage) (steps : List Step) (x : Step) (id : ℕ)
    → count_of hw s (steps ++ x ∷ []) id ≡ taken_back (resets (stage_after hw s steps) x id) (count_of hw s steps id) + (share hw (stage_after hw s steps) x id).count
unfolding stage_after count_of is_reset_by
count_of-push hw s [] x id = none_before (resets s x id) (share hw s x id).count
count_of-push hw s (y ∷ steps) x id =
    let next : Stage = stage_step hw s y in
    let last : Stage = stage_after hw next steps in
    let whole : count_of hw next (steps ++ x ∷ []) id ≡ taken_back (resets last x id) (count_of hw next steps id) + (share hw last x id).count = count_of-push hw next steps x id in
    let either : is_reset_by hw next (steps ++ x ∷ []) id ≡ (is_reset_by hw next steps id || resets last x id) = is_reset_by-push hw next steps x id in
    rw (whole, either) (one_more (is_reset_by hw next steps id) (resets last x id) (share hw s y id).count (count_of hw next steps id) (share hw last x id).count)

enabled_of-push : (hw : Hardware) (s : Stage) (steps : List Step) (x : Step) (id : ℕ)
    → enabled_of hw s (steps ++ x ∷ []) id ≡ enabled_of hw s steps id + (share hw (stage_after hw s steps) x id).enabled
unfolding stage_after enabled_of
enabled_of-push hw s [] x id = omega arith
enabled_of-push hw s (y ∷ steps) x id = omega (arith, enabled_of-push hw (stage_step hw s y) steps x id)

running_of-push : (hw : Hardware) (s : Stage) (steps : List Step) (x : Step) (id : ℕ)
    → running_of hw s (steps ++ x ∷ []) id ≡ running_of hw s steps id + (share hw (stage_after hw s steps) x id).running
unfolding stage_after running_of
running_of-push hw s [] x id = omega arith
running_of-push hw s (y ∷ steps) x id = omega (arith, running_of-push hw (stage_step hw s y) steps x id)

abbrev pub sums : ℕ → ℕ → ℕ → Sums
sums count enabled running = record { count = count; enabled = enabled; running = running }

pub same_sums : (a b c d e f : ℕ) → a ≡ d → b ≡ e → c ≡ f → sums a b c ≡ sums d e f
same_sums a b c d e f p q r = rw (p, q, r) refl

after_reset-is : (reset : Bool) (a b c : ℕ) → after_reset reset (sums a b c) ≡ sums (taken_back reset a) b c
after_reset-is true a b c = refl
after_reset-is false a b c = refl

pub sums_of-push : SumsLaw
unfolding sums_of
sums_of-push hw s steps x id =
    let last : Stage = stage_after hw s steps in
    grind (arith, after_reset-is, last, same_sums, count_of-push, enabled_of-push, running_of-push)

pub plus-assoc : (a b c : Sums) → plus (plus a b) c ≡ plus a (plus b c)
plus-assoc a b c = grind (arith, same_sums)

pub plus-none : (a : Sums) → plus a no_sums ≡ a
plus-none a = same_sums (a.count + 0) (a.enabled + 0) (a.running + 0) a.count a.enabled a.running (omega arith) (omega arith) (omega arith)

pub none-plus : (a : Sums) → plus no_sums a ≡ a
none-plus a = same_sums (0 + a.count) (0 + a.enabled) (0 + a.running) a.count a.enabled a.running (omega arith) (omega arith) (omega arith)

-- what goes by a step after some others
abbrev gone : Hardware → Stage → List Step → Step → EventNo → Sums
gone hw s before x e = plus_each (λ i. sums_of hw s before i.id) (leaving (stage_after hw s before) x e)

folded_from-push : (hw : Hardware) (s : Stage) (e : EventNo) (before steps : List Step) (x : Step)
    → folded_from hw s e before (steps ++ x ∷ []) ≡ plus (folded_from hw s e before steps) (gone hw s (before ++ steps) x e)
unfolding folded_from
folded_from-push hw s e before [] x = rw append-nil (plus-none (gone hw s before x e) ∙ sym (none-plus (gone hw s before x e)))
folded_from-push hw s e before (y ∷ steps) x = grind (arith, append_assoc, plus-assoc, folded_from-push hw s e (before ++ y ∷ []) steps x)

pub folded_of-push : FoldedLaw
unfolding folded_of
folded_of-push hw s steps x e = folded_from-push hw s e [] steps x
