-- inner
-- A world after some of its processors were rescheduled. After ctx_resched of kernel/events/core.c.
use Rattle.std.specs.{Prelude.{◌≡◌, ◌==◌, Bool}, Int.{bit_at}}
use Rattle.perf_base.specs.declared.numbers.{CpuNo.{CpuNo}, CpuSet.{CpuSet}, Key.{Key}}
use Rattle.world_spec.specs.Value.{World, is_live, entry_at, instance_at}

-- whether a processor is in a set
abbrev pub is_in : CpuSet → CpuNo → Bool
is_in set cpu = bit_at set.0 cpu.0 == 1

-- Own states, standings and seats may change. All else stays.
pub record OnlyRescheduled (w after : World) : Type 0 where
  pub world : after ≡ record w { entries = after.entries; standings = after.standings; quiet = record w.quiet { seats = after.quiet.seats } }
  pub live : (k : Key) → is_live after k ≡ is_live w k
  pub entries : (k : Key) → entry_at after k ≡ record (entry_at w k) { instance = record (instance_at w k) { own = (instance_at after k).own } }
