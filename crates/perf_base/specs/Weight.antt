-- believed
-- How many samples a script may bring, counted before it runs. This project's own profile.
use Rattle.std.specs.Prelude.{ℕ, ◌+◌, ◌*◌, ◌/◌, ◌%◌, min, Bool, false, ◌==◌, nat_lt, List, [], ◌∷◌, sum_by, count_by, if◌then◌else◌}
use Rattle.perf_base.specs.{declared.lines.{CpuLine.{CpuLine}, ToolLine.{ToolLine}}, Scripts.{Scripted}}
use Rattle.perf_base.specs.declared.lines.CpuLine.TheVariants as cpu_line
use Rattle.perf_base.specs.declared.lines.ToolLine.TheVariants as tool_line

-- the period that a line gives, refused or not; 0 for a line that gives none
abbrev pub period_of : ToolLine → ℕ
period_of (tool_line.Open slot attr leader) = attr.period
period_of (tool_line.Enable event group) = 0
period_of (tool_line.Disable event group) = 0
period_of (tool_line.Reset event group) = 0
period_of (tool_line.Period event period) = period
period_of (tool_line.Read event size) = 0
period_of (tool_line.Map event ring) = 0
period_of (tool_line.Output event target) = 0
period_of (tool_line.Close event) = 0
period_of (tool_line.Why event) = 0
period_of (tool_line.Seats cpu) = 0

-- whether a line opens an event with a period
abbrev pub opens_sampling : ToolLine → Bool
opens_sampling (tool_line.Open slot attr leader) = nat_lt 0 attr.period
opens_sampling (tool_line.Enable event group) = false
opens_sampling (tool_line.Disable event group) = false
opens_sampling (tool_line.Reset event group) = false
opens_sampling (tool_line.Period event period) = false
opens_sampling (tool_line.Read event size) = false
opens_sampling (tool_line.Map event ring) = false
opens_sampling (tool_line.Output event target) = false
opens_sampling (tool_line.Close event) = false
opens_sampling (tool_line.Why event) = false
opens_sampling (tool_line.Seats cpu) = false

-- the lesser of two numbers, where 0 is none
abbrev pub lesser : ℕ → ℕ → ℕ
lesser a b = if a == 0 then b else (if b == 0 then a else min a b)

-- the least f of an entry that is not 0, or 0 where there is none
abbrev pub least_by : {X : Type 0} → (X → ℕ) → List X → ℕ
least_by f [] = 0
least_by f (x ∷ xs) = lesser (f x) (least_by f xs)

-- occurrences by a period, rounded up
abbrev pub shares : ℕ → ℕ → ℕ
shares period hits = hits / period + min 1 (hits % period)

-- the shares of all kinds in a line
abbrev pub line_shares : ℕ → CpuLine → ℕ
line_shares period (cpu_line.Switch to) = 0
line_shares period (cpu_line.Work w) = sum_by (shares period) w.hits
line_shares period cpu_line.Tick = 0
line_shares period (cpu_line.Fork task) = 0
line_shares period cpu_line.Exit = 0

-- the least period that any line gives, and 0 where none does
abbrev pub least_period : Scripted → ℕ
least_period s = least_by (least_by period_of) s.tool_lines

-- how many lines open an event with a period
abbrev pub sampling_opens : Scripted → ℕ
sampling_opens s = sum_by (count_by opens_sampling) s.tool_lines

-- the shares of all kinds in all lines
abbrev pub shares_of : Scripted → ℕ → ℕ
shares_of s period = sum_by (sum_by (line_shares period)) s.cpu_lines

-- the sampling opens, times the occurrences by the least period, each rounded up
abbrev pub weight : Scripted → ℕ
weight s = sampling_opens s * shares_of s (least_period s)
