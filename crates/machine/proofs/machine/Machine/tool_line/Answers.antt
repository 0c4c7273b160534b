use Rattle.std.proofs.Common.{sym, ap, subst}
use Rattle.stage_spec.specs.History.{ToolStep}
use Rattle.machine.{specs.{Given.{IsLedBy, IsNext, Takes}, Leading.{Kept}}, proofs.GivenLines.{given-tool, tool-given, tool-given-reply}}
use Rattle.machine.proofs.Roomy.{room-by}
use Rattle.machine.proofs.machine.Machine.tool_line.Goals as goal

pub tool_line_alone-requires-clause-line : goal.tool_line_alone-requires-clause-line
tool_line_alone-requires-clause-line c =
    let m : Kept = record { cpus = c.self.inside.cpus; tools = c.self.inside.tools; world = c.self.inside.world; outs = c.self.inside.outs } in
    let takes : Takes m (ToolStep c.args.line.now) = subst (λ k. Takes k (ToolStep c.args.line.now)) (sym c.self.view_is) c.requires in
    given-tool takes.script takes.steps m c.args.line.now takes.sound takes.covered c.self.invariant.ready takes.next

pub tool_line_alone-requires-clause-room : goal.tool_line_alone-requires-clause-room
tool_line_alone-requires-clause-room c =
    let m : Kept = record { cpus = c.self.inside.cpus; tools = c.self.inside.tools; world = c.self.inside.world; outs = c.self.inside.outs } in
    let takes : Takes m (ToolStep c.args.line.now) = subst (λ k. Takes k (ToolStep c.args.line.now)) (sym c.self.view_is) c.requires in
    room-by takes.script takes.steps m takes.sound takes.covered takes.next.led c.use_invariant.ensures c.self.invariant

pub returns-clause-reply : goal.returns-clause-reply
returns-clause-reply c = λ s steps led.
    let m : Kept = record { cpus = c.self.inside.cpus; tools = c.self.inside.tools; world = c.self.inside.world; outs = c.self.inside.outs } in
    tool-given-reply s steps m c.args.line.now c.tool_line_alone.new.world c.tool_line_alone.result c.tool_line_alone.ensures.done (subst (IsLedBy s steps) (sym c.self.view_is) led)

pub returns-clause-led : goal.returns-clause-led
returns-clause-led c = λ s steps next.
    let m : Kept = record { cpus = c.self.inside.cpus; tools = c.self.inside.tools; world = c.self.inside.world; outs = c.self.inside.outs } in
    tool-given s steps m c.args.line.now c.tool_line_alone.new.world c.tool_line_alone.result c.tool_line_alone.ensures.hardware c.tool_line_alone.ensures.done
    (subst (λ k. IsNext s steps k (ToolStep c.args.line.now)) (sym c.self.view_is) next)

pub returns-clause-rest : goal.returns-clause-rest
returns-clause-rest c = ap (λ (k : Kept). record k { world = c.tool_line_alone.new.world }) c.self.view_is
