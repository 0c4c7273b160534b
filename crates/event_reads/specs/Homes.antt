-- inner
-- That every processor stands as rescheduling leaves it: each that the machine has, and each that an open event counts.
-- After ctx_sched_in and merge_sched_in of kernel/events/core.c.
use Rattle.std.specs.Prelude.{◌≡◌, true}
use Rattle.perf_base.specs.declared.numbers.{CpuNo.{CpuNo}, Key.{Key}}
use Rattle.perf_base.specs.declared.standing.Context.TheVariants as context
use Rattle.world_spec.specs.{Rescheduled.{AreRescheduled, IsRescheduled}, Value.{World, entry_at, is_live}}

pub record StandRescheduled (w : World) : Type 0 where
  pub machine : AreRescheduled w.hardware w
  pub counted : (k : Key) (cpu : CpuNo) → is_live w k ≡ true → (entry_at w k).context ≡ context.Processor cpu → IsRescheduled w.hardware w cpu
