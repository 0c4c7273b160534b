-- inner
-- What a stretch of work on a processor, and one occurrence of a software kind there, add to the instances of a world.
-- After perf_event_update_time, perf_swevent_event and ctx_sched_in of kernel/events/core.c; the tables are this
-- project's own profile.
use Rattle.std.specs.{Prelude.{◌≡◌, ℕ, ◌+◌, ◌^◌, ◌<◌, true}, FinMap.{contains_key}}
use Rattle.perf_base.specs.declared.{attr.Kind.{Kind}, lines.Work.{Work}, numbers.{CpuNo.{CpuNo}, Key.{Key}}, reply.Sums.{Sums}}
use Rattle.perf_base.specs.declared.attr.Kind.TheVariants as kind
use Rattle.perf_base.specs.declared.lines.CpuLine.TheVariants as cpu_line
use Rattle.stage_spec.specs.{declared.instance.Instance.{Instance}, Families.{plus}, History.{CpuStep}, Occurrences.{left_after}}
use Rattle.stage_spec.specs.{Shares.{no_sums, of_instance, switch_hits, migration_hits, share}, Verdict.{on_instances}}
use Rattle.world_spec.specs.{Value.{World, Account, is_live, instance_at, account_at}, StageOf.{stage_of}, Kept.{family_sums}}

-- An account after a share: that is added to the sums, and its occurrences are taken off the remainder, one by one.
abbrev pub with_share : Instance → Sums → Account → Account
with_share i given a = record { sums = plus a.sums given; left = left_after given.count i.attr.period a.left }

-- each instance was given its share by its id, and the same keys have accounts
pub record HaveShares (w after : World) (given : ℕ → Sums) : Type 0 where
  pub accounts : (k : Key) → is_live w k ≡ true → account_at after k ≡ with_share (instance_at w k) (given (instance_at w k).id) (account_at w k)
  pub keys : (k : Key) → contains_key after.accounts k.0 ≡ contains_key w.accounts k.0

-- what a stretch of work gives: the share of its line
abbrev pub work_shares : World → CpuNo → Work → ℕ → Sums
work_shares w cpu work id = share w.hardware (stage_of w) (CpuStep cpu (cpu_line.Work work)) id

-- What one occurrence of a software kind gives: one switch, or one migration, to those that are on. No other kind
-- occurs by itself.
abbrev pub soft_hits : Kind → Instance → ℕ
soft_hits (kind.Hard n) i = 0
soft_hits kind.ContextSwitches i = switch_hits i
soft_hits kind.CpuMigrations i = migration_hits i
soft_hits kind.TaskClock i = 0
soft_hits kind.Dummy i = 0

abbrev pub soft_shares : World → CpuNo → Kind → ℕ → Sums
soft_shares w cpu occurring id = record no_sums { count = of_instance (soft_hits occurring) id (on_instances w.hardware (stage_of w) cpu) }

-- one occurrence
abbrev pub one_hit : Sums
one_hit = record no_sums { count = 1 }

-- each family that has an instance has room for so much more
pub record HaveRoom (w : World) (most : Sums) : Type 0 where
  pub counts : (k : Key) → is_live w k ≡ true → (family_sums w (instance_at w k).event.0).count + most.count < 2 ^ 63
  pub times : (k : Key) → is_live w k ≡ true → (family_sums w (instance_at w k).event.0).enabled + most.enabled < 2 ^ 63
