-- believed
-- The counters of a machine: the PMU of each processor, the counters of each PMU, and of each hardware kind its PMU and
-- the counters that can count it. After struct pmu of kernel/events/core.c; the numbering is this project's own
-- profile.
use Rattle.std.specs.Prelude.{ℕ, ◌<◌, ◌≤◌, ◌==◌, Bool, true, false, All, List, length, map, position, Option, Some, None, slice_index, take, replicate, ◌≡◌, ◌++◌}
use Rattle.std.specs.{Option.{unwrap_or}, Int.{bit_at}}
use Rattle.perf_base.specs.{declared.{numbers.{CpuNo.{CpuNo}, CpuSet.{CpuSet}}, attr.Kind.{Kind}, lines.PmuLine.{PmuLine}}, Masks.{IsMask}}
use Rattle.perf_base.specs.Scripts.{Scripted}
use Rattle.perf_base.specs.declared.attr.Kind.TheVariants as kind
use Rattle.stage_spec.specs.Numbers.{numbers_below}

-- the PMU of each processor, how many counters each processor of each of the four PMUs has, and the PMU and the mask of
-- each hardware kind, bit C for counter C
pub record Hardware : Type 0 where
  pub cpu_pmus : List ℕ
  pub counters : List ℕ
  pub kind_pmus : List ℕ
  pub masks : List ℕ

-- whether a kind is counted in software, on no counter
abbrev pub is_software : Kind → Bool
is_software (kind.Hard number) = false
is_software kind.ContextSwitches = true
is_software kind.CpuMigrations = true
is_software kind.TaskClock = true
is_software kind.Dummy = true

-- the PMU of a processor, and how many counters that has
abbrev pub pmu_of_cpu : Hardware → CpuNo → ℕ
pmu_of_cpu hw cpu = slice_index hw.cpu_pmus cpu.0

abbrev pub counters_of : Hardware → CpuNo → ℕ
counters_of hw cpu = slice_index hw.counters (pmu_of_cpu hw cpu)

-- the PMU of a kind; a software kind has none
abbrev pub pmu_of_kind : Hardware → Kind → Option ℕ
pmu_of_kind hw (kind.Hard n) = Some (slice_index hw.kind_pmus n)
pmu_of_kind hw kind.ContextSwitches = None
pmu_of_kind hw kind.CpuMigrations = None
pmu_of_kind hw kind.TaskClock = None
pmu_of_kind hw kind.Dummy = None

-- the counters that can count a kind; none for a software kind
abbrev pub mask_of : Hardware → Kind → ℕ
mask_of hw (kind.Hard n) = slice_index hw.masks n
mask_of hw kind.ContextSwitches = 0
mask_of hw kind.CpuMigrations = 0
mask_of hw kind.TaskClock = 0
mask_of hw kind.Dummy = 0

-- whether a PMU is this one, and whether a kind is a software kind or one of the PMU of this processor
abbrev pub is_pmu : Option ℕ → ℕ → Bool
is_pmu None pmu = true
is_pmu (Some other) pmu = other == pmu

abbrev pub is_counted_on : Hardware → CpuNo → Kind → Bool
is_counted_on hw cpu k = is_pmu (pmu_of_kind hw k) (pmu_of_cpu hw cpu)

-- one of four PMUs, with 1 to 16 counters
abbrev pub IsPmu : List ℕ → ℕ → Type 0
IsPmu counters pmu = (pmu < 4) × (1 ≤ slice_index counters pmu) × (slice_index counters pmu ≤ 16)

-- 1 to 8 processors and at most 16 kinds, each of a PMU, and each kind's mask names some counters of its PMU and no
-- others
pub record IsHardware (hw : Hardware) : Type 0 where
  pub cpus : (1 ≤ length hw.cpu_pmus) × (length hw.cpu_pmus ≤ 8)
  pub pmus : length hw.counters ≡ 4
  pub cpu_pmus : All (IsPmu hw.counters) hw.cpu_pmus
  pub kinds : (length hw.kind_pmus ≤ 16) × (length hw.masks ≤ 16)
  pub kind_pmus : All (IsPmu hw.counters) hw.kind_pmus
  pub masks : (k : ℕ) → k < length hw.masks → IsMask (slice_index hw.counters (slice_index hw.kind_pmus k)) (slice_index hw.masks k)

-- whether a set has the processor of a number
abbrev pub has_cpu : ℕ → CpuSet → Bool
has_cpu cpu set = bit_at set.0 cpu == 1

-- the first PMU that has the processor of a number
abbrev pub pmu_with : List PmuLine → ℕ → ℕ
pmu_with pmus cpu = unwrap_or (position (λ p. has_cpu cpu p.cpus) pmus) 0

-- the counters that a script declares; a PMU that it does not declare has none
abbrev pub hardware_of : Scripted → Hardware
hardware_of s = record {
  cpu_pmus = map (pmu_with s.pmus) (numbers_below s.cpus);
  counters = take 4 (map (λ p. p.counters) s.pmus ++ replicate 4 0);
  kind_pmus = map (λ k. k.pmu) s.kinds;
  masks = map (λ k. k.mask) s.kinds;
}
