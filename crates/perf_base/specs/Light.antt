-- inner
-- Lines whose occurrences are within their limit. This project's own profile.
use Rattle.std.specs.Prelude.{◌≤◌, All}
use Rattle.perf_base.specs.declared.lines.CpuLine.{CpuLine}
use Rattle.perf_base.specs.declared.lines.CpuLine.TheVariants as cpu_line

-- each kind occurs at most a thousand million times
abbrev pub IsLight : CpuLine → Type 0
IsLight (cpu_line.Switch to) = Unit {0}
IsLight (cpu_line.Work w) = All (λ n. n ≤ 1000000000) w.hits
IsLight cpu_line.Tick = Unit {0}
IsLight (cpu_line.Fork task) = Unit {0}
IsLight cpu_line.Exit = Unit {0}
