-- inner
-- Which events a machine has.
use Rattle.std.specs.Prelude.{◌≡◌, true}
use Rattle.perf_base.specs.declared.numbers.EventNo.{EventNo}
use Rattle.stage_spec.specs.Stage.{is_open}
use Rattle.world_spec.specs.StageOf.{stage_of}
use Rattle.machine.specs.Leading.{Kept}

-- The machine has an open event in a slot. This project's own profile.
abbrev pub HasEvent : Kept → EventNo → Type 0
HasEvent m e = is_open (stage_of m.world) e ≡ true
