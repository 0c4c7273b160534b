-- inner
-- What one more step adds to a history: to the stage, to the sums of an instance, to the folded sums of an event. This
-- project's own profile.
use Rattle.std.specs.Prelude.{◌≡◌, ℕ, ◌≤◌, Bool, true, false, List, [], ◌∷◌, ◌++◌}
use Rattle.perf_base.specs.declared.{numbers.{EventNo.{EventNo}, TaskNo.{TaskNo}}, reply.Sums.{Sums}}
use Rattle.stage_spec.specs.{Hardware.{Hardware}, Stage.{Stage, first_stage}, History.{Step, stage_step, stage_after}, Shares.{share, no_sums}}
use Rattle.stage_spec.specs.{Sums.{resets, sums_of}, Families.{plus, plus_each, leaving, folded_of}}

-- sums whose count is 0 after a reset
abbrev pub after_reset : Bool → Sums → Sums
after_reset true sums = record sums { count = 0 }
after_reset false sums = sums

abbrev pub StageLaw : Type 0
StageLaw = (hw : Hardware) (s : Stage) (steps : List Step) (x : Step) → stage_after hw s (steps ++ x ∷ []) ≡ stage_step hw (stage_after hw s steps) x

-- the sums of an instance: those before, with its count taken back where the step resets it, and what the step adds
abbrev pub SumsLaw : Type 0
SumsLaw = (hw : Hardware) (s : Stage) (steps : List Step) (x : Step) (id : ℕ)
    → sums_of hw s (steps ++ x ∷ []) id ≡ plus (after_reset (resets (stage_after hw s steps) x id) (sums_of hw s steps id)) (share hw (stage_after hw s steps) x id)

-- the folded sums of an event: those before, and the sums of each copy that goes by the step
abbrev pub FoldedLaw : Type 0
FoldedLaw = (hw : Hardware) (s : Stage) (steps : List Step) (x : Step) (e : EventNo)
    → folded_of hw s (steps ++ x ∷ []) e ≡ plus (folded_of hw s steps e) (plus_each (λ i. sums_of hw s steps i.id) (leaving (stage_after hw s steps) x e))

-- An instance begins with nothing: whatever id a step or a later one draws, nothing was counted under it until then.
abbrev pub BirthLaw : Type 0
BirthLaw = (hw : Hardware) (cpus : ℕ) (declared : List TaskNo) (steps : List Step) (x : Step) (id : ℕ)
    → (stage_after hw (first_stage cpus declared) steps).next_id ≤ id → sums_of hw (first_stage cpus declared) (steps ++ x ∷ []) id ≡ no_sums
