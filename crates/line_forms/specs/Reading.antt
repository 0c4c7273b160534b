-- inner
-- Reading a whole line from the left: what is given, by the first word. This project's own profile.
use Rattle.std.specs.Prelude.{ℕ, List, Option, None, option_map}
use Rattle.script_spec.specs.Forms.{Version, Form}
use Rattle.script_spec.specs.Forms as form
use Rattle.line_forms.specs.{declared.keyword.Keyword.{Keyword}, Words.{◌>>=◌, next_of}, Keyword.{keyword_of}, Acts.{order_at}}
use Rattle.line_forms.specs.Declarations.{perf_at, machine_at, machine_of_pmus_at, pmu_at, kind_at, kind_of_pmu_at, task_at, ring_at, processor_at, tool_at, reader_at, end_at}
use Rattle.line_forms.specs.CpuForms.{switch_at, work_at, tick_at, fork_at, exit_at}
use Rattle.line_forms.specs.ToolForms.{open_at, enable_at, disable_at, reset_at, period_at, read_at, map_at, output_at, close_at, why_at, seats_at}
use Rattle.line_forms.specs.declared.keyword.Keyword.TheVariants as keyword

-- the words behind the first, by the first
unfoldable pub body_at : Version → Keyword → List (List ℕ) → Option Form
body_at version keyword.Perf words = perf_at version words
body_at form.One keyword.Machine words = machine_at words
body_at form.Two keyword.Machine words = machine_of_pmus_at words
body_at form.One keyword.Pmu words = None
body_at form.Two keyword.Pmu words = pmu_at words
body_at form.One keyword.Kind words = kind_at words
body_at form.Two keyword.Kind words = kind_of_pmu_at words
body_at version keyword.Task words = task_at words
body_at version keyword.Ring words = ring_at words
body_at version keyword.Processor words = processor_at words
body_at version keyword.Switch words = option_map form.OnProcessor (switch_at words)
body_at version keyword.Work words = option_map form.OnProcessor (work_at words)
body_at version keyword.Tick words = option_map form.OnProcessor (tick_at words)
body_at version keyword.Fork words = option_map form.OnProcessor (fork_at words)
body_at version keyword.Exit words = option_map form.OnProcessor (exit_at words)
body_at version keyword.Tool words = tool_at words
body_at version keyword.Open words = option_map form.OnTool (open_at words)
body_at version keyword.Enable words = option_map form.OnTool (enable_at words)
body_at version keyword.Disable words = option_map form.OnTool (disable_at words)
body_at version keyword.Reset words = option_map form.OnTool (reset_at words)
body_at version keyword.Period words = option_map form.OnTool (period_at words)
body_at version keyword.Read words = option_map form.OnTool (read_at words)
body_at version keyword.Map words = option_map form.OnTool (map_at words)
body_at version keyword.Output words = option_map form.OnTool (output_at words)
body_at version keyword.Close words = option_map form.OnTool (close_at words)
body_at version keyword.Why words = option_map form.OnTool (why_at words)
body_at version keyword.Seats words = option_map form.OnTool (seats_at words)
body_at version keyword.Reader words = reader_at words
body_at version keyword.Order words = order_at words
body_at version keyword.End words = end_at words

-- a whole line
unfoldable pub form_at : Version → List (List ℕ) → Option Form
form_at version words = do
  word ← next_of words
  keyword ← keyword_of word.0
  body_at version keyword word.1
