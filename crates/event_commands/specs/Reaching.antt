-- inner
-- The processors that reach the instances of some keys: each in its own context or in that of the task on it. After the
-- calls of ctx_resched in kernel/events/core.c.
use Rattle.std.specs.{Prelude.{◌≡◌, nat_lt, Bool, ◌&&◌, ◌||◌, List, length}, List.{list_any}}
use Rattle.perf_base.specs.declared.numbers.{CpuNo.{CpuNo}, CpuSet.{CpuSet}, Key.{Key}}
use Rattle.stage_spec.specs.Hardware.{has_cpu}
use Rattle.stage_laws.specs.Narrowing.{has_context}
use Rattle.world_spec.specs.{StageOf.{stage_of}, Value.{World, entry_at}}

abbrev pub reaches_key : World → CpuNo → Key → Bool
reaches_key w cpu k = has_context (stage_of w) cpu (entry_at w k).context

-- whether the machine has a processor, and it reaches an instance
abbrev pub is_there : World → CpuNo → Bool
is_there w cpu = nat_lt cpu.0 (length w.quiet.running)

abbrev pub is_reaching : World → CpuNo → Key → Bool
is_reaching w cpu k = is_there w cpu && reaches_key w cpu k

-- a set of exactly these processors, and a set to which they were added
abbrev pub AreReaching : World → List Key → CpuSet → Type 0
AreReaching w keys set = (cpu : CpuNo) → has_cpu cpu.0 set ≡ list_any (is_reaching w cpu) keys

abbrev pub AddsReaching : World → List Key → (before after : CpuSet) → Type 0
AddsReaching w keys before after = (cpu : CpuNo) → has_cpu cpu.0 after ≡ (list_any (is_reaching w cpu) keys || has_cpu cpu.0 before)
