-- The stage after any acts of a script is sound.
use Rattle.std.{specs.Prelude.{All, List, [], ◌∷◌}, proofs.lemmas.List.Elements.{All-head, All-tail}}
use Rattle.perf_base.specs.{declared.acts.Act.{Act}, Scripts.{IsCovered, IsScript, Scripted}}
use Rattle.stage_spec.specs.{Hardware.{Hardware, hardware_of}, History.{Step, history, opening_stage, stage_after, stage_step}}
use Rattle.stage_spec.{specs.{Limits.{IsMachine, Limits, limits_of}, Stage.{Stage}, Tables.{stage_in}}, proofs.Machines.{script_machine}}
use Rattle.stage_laws.{specs.{Bounds.{IsLineWithin}, Sound.{IsSound}}, proofs.{BoundsWhole.{line_sound}, Sound.{first_sound}}}
use Rattle.ring_laws.proofs.Orders.{within}

steps-sound : (l : Limits) (hw : Hardware) (s : Stage) (steps : List Step) → IsMachine l hw → All (IsLineWithin l) steps → IsSound hw s → IsSound hw (stage_after hw s steps)
unfolding stage_after
steps-sound l hw s [] machine are sound = sound
steps-sound l hw s (x ∷ steps) machine are sound =
    steps-sound l hw (stage_step hw s x) steps machine (All-tail (IsLineWithin l) x steps are) (line_sound l hw s x machine (All-head (IsLineWithin l) x steps are) sound)

pub acts-sound : (s : Scripted) (acts : List Act) → IsScript s → IsCovered s → IsSound (hardware_of s) (stage_in s acts)
acts-sound s acts h covered =
    steps-sound (limits_of s) (hardware_of s) (opening_stage s) (history s acts) (script_machine s h covered) (within s [] acts h)
    (first_sound (limits_of s) (hardware_of s) s.tasks (script_machine s h covered) h.tasks)
