-- The refusal of a form under a tool, by what its bytes are asked for.
use Rattle.std.{proofs.Common.{◌↔◌}, specs.Prelude.{IsSome}}
use Rattle.perf_base.specs.declared.reasons.SReason.{SReason}
use Rattle.perf_base.specs.declared.reasons.SReason.TheVariants as reason
use Rattle.script_spec.specs.{Forms.{ToolForm}, Faults.{HasAttr}}
use Rattle.script_spec.specs.Forms as form
use Rattle.script_read.specs.{declared.state.State.{State}, Names.{HasAttrIn}, Lines.{RefusesToolForm}, Adding.{Refuses}}

attr_in : (f : ToolForm) → HasAttrIn f ↔ HasAttr (form.OnTool f)
attr_in (form.OpenAttr place bytes) = (λ h. h, λ h. h)
attr_in other = (λ h. h, λ h. h)

pub tool_refused : (s : State) (f : ToolForm) (r : SReason) → IsSome s.tool → RefusesToolForm s.script f r → Refuses s (form.OnTool f) r
tool_refused s f reason.Range t h = (t, h)
tool_refused s f reason.Attr t h = (t, h.0, λ a. h.1 ((attr_in f).1 a))
tool_refused s f reason.Name t h = (t, h.0, (attr_in f).0 h.1, h.2)
tool_refused s f other t h = absurd h
