use Rattle.std.proofs.Common.{◌≡◌, ℕ, ◌<◌, length, take, slice_index_or}
use Rattle.stage_spec.specs.Stage.{unknown_task}
use Rattle.perf_world.proofs.Seats.{status_by}
use Rattle.perf_world.proofs.tasks.first_tasks.Given as goal

abbrev pub invariant-loop-task : goal.invariant-loop-task
invariant-loop-task l = record {
  size : length l.tasks ≡ 64;
  each : (n : ℕ) → n < 64 → slice_index_or l.tasks n unknown_task ≡ status_by (take l.task-index l.declared) n;
}
