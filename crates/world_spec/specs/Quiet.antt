-- inner
-- Steps that add nothing to any account. This project's own profile.
use Rattle.std.specs.Prelude.{◌≡◌, Bool, true, false, Option, Some, None}
use Rattle.perf_base.specs.declared.{lines.{CpuLine.{CpuLine}, ToolLine.{ToolLine}}, numbers.Key.{Key}, reasons.Reason.{Reason}}
use Rattle.perf_base.specs.declared.lines.CpuLine.TheVariants as cpu_line
use Rattle.perf_base.specs.declared.lines.ToolLine.TheVariants as tool_line
use Rattle.stage_spec.specs.{Hardware.{Hardware}, History.{Step, CpuStep, ToolStep, SeenStep, cpu_refusal, tool_refusal}}
use Rattle.world_spec.specs.{Kept.{IsKept}, StageOf.{stage_of}, Value.{World, is_live, instance_at, account_at}, Stepping.{HasItsShare, HasStepped}}

-- a line of a processor that is no work and no switch, and a line of a tool that is no reset and no new period
abbrev pub is_quiet_line : CpuLine → Bool
is_quiet_line (cpu_line.Switch to) = false
is_quiet_line (cpu_line.Work w) = false
is_quiet_line cpu_line.Tick = true
is_quiet_line (cpu_line.Fork child) = true
is_quiet_line cpu_line.Exit = true

abbrev pub is_quiet_call : ToolLine → Bool
is_quiet_call (tool_line.Open slot attr leader) = true
is_quiet_call (tool_line.Enable event group) = true
is_quiet_call (tool_line.Disable event group) = true
is_quiet_call (tool_line.Reset event group) = false
is_quiet_call (tool_line.Period event period) = false
is_quiet_call (tool_line.Read event size) = true
is_quiet_call (tool_line.Map event ring) = true
is_quiet_call (tool_line.Output event target) = true
is_quiet_call (tool_line.Close event) = true
is_quiet_call (tool_line.Why event) = true
is_quiet_call (tool_line.Seats cpu) = true

abbrev pub is_quiet : Step → Bool
is_quiet (CpuStep cpu line) = is_quiet_line line
is_quiet (ToolStep line) = is_quiet_call line
is_quiet (SeenStep ring place) = true

-- the reason for which a step is refused, if it is
abbrev pub step_refusal : Hardware → World → Step → Option Reason
step_refusal hw w (CpuStep cpu line) = cpu_refusal (stage_of w) cpu line
step_refusal hw w (ToolStep line) = tool_refusal hw (stage_of w) line
step_refusal hw w (SeenStep ring place) = None

-- A quiet step leaves an account of an instance that stays.
pub record KeepsAccount (w after : World) (k : Key) : Type 0 where
  pub live : is_live w k ≡ true
  pub id : (instance_at after k).id ≡ (instance_at w k).id
  pub account : account_at after k ≡ account_at w k

abbrev pub QuietLaw : Type 0
QuietLaw = (hw : Hardware) (w after : World) (x : Step) (k : Key) → IsKept hw w → is_quiet x ≡ true → KeepsAccount w after k → HasItsShare hw w after x k

-- A refused step leads to the world itself.
abbrev pub RefusedLaw : Type 0
RefusedLaw = (hw : Hardware) (w : World) (x : Step) (reason : Reason) → IsKept hw w → step_refusal hw w x ≡ Some reason → HasStepped hw w w x
