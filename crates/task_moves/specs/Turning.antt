-- inner
-- How the leaders of a context are turned by a tick, by where their groups stand. After perf_rotate_context of
-- kernel/events/core.c.
use Rattle.std.specs.{Prelude.{◌&&◌, Bool, true, false, not, List, find, Option, Some, None}, List.{list_any}}
use Rattle.perf_base.specs.{declared.{numbers.{CpuNo.{CpuNo}, Key.{Key}, TaskNo.{TaskNo}}, standing.Context.{Context}}, Standings.{stands_on}}
use Rattle.perf_base.specs.declared.standing.Context.TheVariants as context
use Rattle.stage_spec.specs.{Rotation.{takes_turns}, Stage.{task_on}, Verdict.{is_eligible}}
use Rattle.world_spec.specs.{Changes.{to_last, with_leaders}, StageOf.{group_at, stage_of}, Value.{World, Leaders, standing_at}}

-- a group waits: it is eligible and does not stand on
abbrev pub waits_there : World → CpuNo → Key → Bool
waits_there w cpu k = is_eligible w.hardware cpu (group_at w k) && not (stands_on (standing_at w k))

-- the leader that goes last: where some group waits, the first that takes turns
abbrev pub turning : World → CpuNo → List Key → Option Key
turning w cpu keys = elim (list_any (waits_there w cpu) keys) [
  | true ↦ find (λ k. takes_turns w.hardware cpu (group_at w k)) keys
  | false ↦ None
]

abbrev pub last_if : Option Key → List Key → List Key
last_if None keys = keys
last_if (Some k) keys = to_last k keys

abbrev pub turn_keys : World → CpuNo → Leaders → Leaders
turn_keys w cpu l = record l { flexible = last_if (turning w cpu l.flexible) l.flexible }

-- a context turned; the context of a task, if there is one; and both contexts of a processor
abbrev pub turn_in : CpuNo → Context → World → World
turn_in cpu c w = with_leaders c (turn_keys w cpu) w

abbrev pub turn_of_task : CpuNo → Option TaskNo → World → World
turn_of_task cpu None w = w
turn_of_task cpu (Some task) w = turn_in cpu (context.Task task) w

abbrev pub turned_world : CpuNo → World → World
turned_world cpu w = turn_of_task cpu (task_on (stage_of w) cpu) (turn_in cpu (context.Processor cpu) w)
