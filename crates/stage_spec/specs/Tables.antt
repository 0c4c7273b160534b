-- believed
-- What a table says of an event after some acts of a script: whether it is there, what its family has counted, whether
-- it is in error, and what it counts. After perf_event_open(2) and the rows of perf stat.
use Rattle.std.specs.Prelude.{Bool, false, List, option_map, Option, Some, None, if◌then◌else◌}
use Rattle.perf_base.specs.{declared.{acts.Act.{Act}, attr.Kind.{Kind}, numbers.EventNo.{EventNo}, reply.Sums.{Sums}}, Scripts.{Scripted}}
use Rattle.stage_spec.specs.{declared.instance.Instance.{Instance}, Effective.{state_in}, Families.{family_sums}, Hardware.{hardware_of}}
use Rattle.stage_spec.specs.{History.{history, opening_stage, stage_after}, Reading.{is_error}, Stage.{Stage, Group, group_of, is_open, original_of}}

-- the stage after some acts of a script, and what an event has counted by then with its copies, those that have exited
-- among them; none where it is not open
abbrev pub stage_in : Scripted → List Act → Stage
stage_in s acts = stage_after (hardware_of s) (opening_stage s) (history s acts)

abbrev pub family_in : Scripted → List Act → EventNo → Sums
family_in s acts e = family_sums (hardware_of s) (opening_stage s) (history s acts) e

abbrev pub family_if_open : Scripted → List Act → EventNo → Option Sums
family_if_open s acts e = if is_open (stage_in s acts) e then Some (family_in s acts e) else None

-- Whether an event is in effective error, so that a read of it gives no word. One that is not open is in none.
abbrev pub in_error_by : Option Group → Option Instance → Bool
in_error_by (Some g) (Some i) = is_error (state_in g i)
in_error_by (Some g) None = false
in_error_by None i = false

abbrev pub in_error : Stage → EventNo → Bool
in_error s e = in_error_by (group_of s e) (original_of s e)

-- what an event counts, if it is open
abbrev pub kind_in : Stage → EventNo → Option Kind
kind_in s e = option_map (λ i. i.attr.kind) (original_of s e)
