-- The first stage is sound, and each step leaves a sound stage sound.
use Rattle.std.{specs.Prelude.{All, List, [], ◌∷◌}, proofs.{Common.{◌∙◌}, lemmas.List.Elements.{All-head, All-tail}}}
use Rattle.stage_spec.specs.{Hardware.{Hardware}, Stage.{Stage, first_stage}, History.{Step, stage_step, stage_after}}
use Rattle.stage_spec.{specs.Limits.{Limits, IsMachine, IsWithin, HasShape}, proofs.Shape.{shape_step, shape_first}}
use Rattle.stage_laws.specs.{Sound.{IsSound}, Reachable.{FirstSoundLaw, StepSoundLaw, ReachedSoundLaw}}
use Rattle.stage_laws.proofs.{Numbered.{numbered_step, numbered_first}, Grouped.{grouped_step, grouped_first}, Placed.{placed_step, placed_first}}
use Rattle.stage_laws.proofs.{RunningTasks.{running_step, running_first}, Mapped.{mapped_step, mapped_first}}

pub first_sound : FirstSoundLaw
first_sound l hw declared machine numbers =
    let shape : HasShape hw (first_stage l.cpus declared) = shape_first l hw declared machine in
    record {
      shape = shape;
      numbered = numbered_first l.cpus declared;
      grouped = grouped_first hw l.cpus declared;
      placed = placed_first hw l.cpus declared shape;
      running = running_first l.cpus declared;
      rings = mapped_first l.cpus declared;
    }

pub step_sound : StepSoundLaw
step_sound l hw s x machine within sound =
    let shape : HasShape hw (stage_step hw s x) = shape_step hw s x sound.shape in
    record {
      shape = shape;
      numbered = numbered_step l hw s x machine within sound;
      grouped = grouped_step l hw s x machine within sound;
      placed = placed_step l hw s x machine within sound shape;
      running = running_step l hw s x (sound.shape.running ∙ machine.cpus) within sound.running;
      rings = mapped_step l hw s x machine within sound;
    }

-- any steps from a sound stage
pub steps_sound : (l : Limits) (hw : Hardware) (s : Stage) (steps : List Step) → IsMachine l hw → All (IsWithin l) steps → IsSound hw s → IsSound hw (stage_after hw s steps)
unfolding stage_after
steps_sound l hw s [] machine within sound = sound
steps_sound l hw s (x ∷ steps) machine within sound =
    steps_sound l hw (stage_step hw s x) steps machine (All-tail (IsWithin l) x steps within) (step_sound l hw s x machine (All-head (IsWithin l) x steps within) sound)

pub reached_sound : ReachedSoundLaw
reached_sound l hw declared steps machine numbers within =
    steps_sound l hw (first_stage l.cpus declared) steps machine within (first_sound l hw declared machine numbers)
