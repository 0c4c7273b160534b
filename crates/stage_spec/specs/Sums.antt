-- believed
-- What an instance has counted over a whole history. After perf_event_count, total_time_enabled and
-- total_time_running of kernel/events/core.c, and PERF_EVENT_IOC_RESET of perf_event_open(2).
use Rattle.std.specs.{Prelude.{ℕ, ◌+◌, ◌==◌, Bool, false, ◌&&◌, ◌||◌, List, [], ◌∷◌, if◌then◌else◌}, List.{list_any}}
use Rattle.perf_base.specs.declared.{lines.ToolLine.{ToolLine}, reply.Sums.{Sums}}
use Rattle.perf_base.specs.declared.lines.ToolLine.TheVariants as tool_line
use Rattle.stage_spec.specs.{Hardware.{Hardware}, Stage.{Stage, all_instances, is_open}, Commands.{targets, is_reached}}
use Rattle.stage_spec.specs.{History.{Step, CpuStep, ToolStep, SeenStep, stage_step}, Shares.{share}}

-- whether a step is a reset that is not refused and reaches the instance of an id
abbrev pub line_resets : Stage → ToolLine → ℕ → Bool
line_resets s (tool_line.Reset event group) id = is_open s event && list_any (λ i. i.id == id && is_reached (targets s event group) i) (all_instances s)
line_resets s _ id = false

abbrev pub resets : Stage → Step → ℕ → Bool
resets s (CpuStep cpu line) id = false
resets s (ToolStep line) id = line_resets s line id
resets s (SeenStep ring place) id = false

-- whether some step, the first of them at a stage, does
unfoldable pub is_reset_by : Hardware → Stage → List Step → ℕ → Bool
is_reset_by hw s [] id = false
is_reset_by hw s (x ∷ steps) id = resets s x id || is_reset_by hw (stage_step hw s x) steps id

-- The count of an instance: what each step added to it, but for those before a reset that reached it. An instance gets
-- nothing before its birth nor after its end.
unfoldable pub count_of : Hardware → Stage → List Step → ℕ → ℕ
count_of hw s [] id = 0
count_of hw s (x ∷ steps) id = (if is_reset_by hw (stage_step hw s x) steps id then 0 else (share hw s x id).count) + count_of hw (stage_step hw s x) steps id

-- its time enabled and its time running: what each step added
unfoldable pub enabled_of : Hardware → Stage → List Step → ℕ → ℕ
enabled_of hw s [] id = 0
enabled_of hw s (x ∷ steps) id = (share hw s x id).enabled + enabled_of hw (stage_step hw s x) steps id

unfoldable pub running_of : Hardware → Stage → List Step → ℕ → ℕ
running_of hw s [] id = 0
running_of hw s (x ∷ steps) id = (share hw s x id).running + running_of hw (stage_step hw s x) steps id

-- the three sums of an instance after some steps, the first of them at a stage
unfoldable pub sums_of : Hardware → Stage → List Step → ℕ → Sums
sums_of hw s steps id = record { count = count_of hw s steps id; enabled = enabled_of hw s steps id; running = running_of hw s steps id }
