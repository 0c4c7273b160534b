-- inner
-- What a switch gives the events of a processor. After perf_event_task_sched_in and perf_sw_event of
-- kernel/events/core.c.
use Rattle.std.specs.Prelude.{ℕ, Bool, if◌then◌else◌}
use Rattle.perf_base.specs.declared.{numbers.CpuNo.{CpuNo}, reply.Sums.{Sums}}
use Rattle.perf_base.specs.declared.attr.Kind.TheVariants as kind
use Rattle.stage_spec.specs.{Shares.{of_instance, no_sums}, Verdict.{on_instances}}
use Rattle.world_spec.specs.{StageOf.{stage_of}, Value.{World}, Shares.{soft_hits}}

-- a migration, where the switch is one
abbrev pub migration_shares : Bool → World → CpuNo → ℕ → Sums
migration_shares migrates w cpu id =
    record no_sums { count = if migrates then of_instance (soft_hits kind.CpuMigrations) id (on_instances w.hardware (stage_of w) cpu) else 0 }

-- the most that a switch may give a family before and after it together
abbrev pub two_hits : Sums
two_hits = record no_sums { count = 2 }
