-- inner
-- The table of the PMUs of a machine, and the machine that it is. This project's own profile.
use Rattle.std.specs.Prelude.{ℕ, ◌≤◌, List, take}
use Rattle.stage_spec.specs.Hardware.{Hardware, IsHardware}

-- Of each processor the PMU, of each PMU the counters of each of its processors, and of each hardware kind the
-- PMU and the mask of each. Entries behind those are of no use.
abbrev pub seen : (cpus : ℕ) (pmu_of counters : List ℕ) (kinds : ℕ) (kind_pmu masks : List ℕ) → Hardware
seen cpus pmu_of counters kinds kind_pmu masks =
    record { cpu_pmus = take cpus pmu_of; counters = counters; kind_pmus = take kinds kind_pmu; masks = take kinds masks }

-- the lists have this number of processors and kinds, and are a machine
pub record IsTable (cpus : ℕ) (pmu_of counters : List ℕ) (kinds : ℕ) (kind_pmu masks : List ℕ) : Type 0 where
  pub few_cpus : cpus ≤ 8
  pub few_kinds : kinds ≤ 16
  pub hardware : IsHardware (seen cpus pmu_of counters kinds kind_pmu masks)
