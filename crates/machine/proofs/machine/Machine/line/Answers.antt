use Rattle.std.{specs.{Prelude.{◌≡◌, ◌<◌, length}, Option.{option_copied}}, proofs.{Common.{arith, sym, subst, ◌∙◌}, lemmas.List.{length-set}}}
use Rattle.perf_base.specs.{declared.acts.Actor.{Actor}, Scripts.{Scripted}}
use Rattle.perf_base.specs.declared.acts.Actor.TheVariants as actor
use Rattle.machine.{specs.Leading.{Kept, HasLine, IsOf, LeadTo}, proofs.NextSteps.{next-cpu_counted, next-cpu_idle, next-tool_counted, next-tool_idle}}
use Rattle.machine.proofs.{Lines.{cpu-low, cpu-there, cpu-line-within, line-is, tool-low, tool-line-within}, Roomy.{has-room}}
use Rattle.machine.proofs.{Spacious.{is-left, work-space}, Stepped.{cpu-reply, cpu-led, tool-reply, tool-led}, RingsThere.{rings-there}}
use Rattle.machine.proofs.Totals.{cpu-totals}
use Rattle.machine.proofs.machine.Machine.line.Goals as goal

own-line : (s : Scripted) (m now : Kept) (who own : Actor) → m ≡ now → who ≡ own → HasLine s now who → HasLine s m own
own-line s m now who own same is has = subst (HasLine s m) is (subst (λ k. HasLine s k who) (sym same) has)

pub bounds-self-inside-cpu : goal.bounds-self-inside-cpu
bounds-self-inside-cpu g c = cpu-low c.args.script.now c.args.self.now c.in-Processor.cpu c.use_invariant.ensures (subst (HasLine c.args.script.now c.args.self.now) c.in-Processor.is c.requires.line)

pub cpu_lines-requires : goal.cpu_lines-requires
cpu_lines-requires g c = cpu-low c.args.script.now c.args.self.now c.in-Processor.cpu c.use_invariant.ensures (subst (HasLine c.args.script.now c.args.self.now) c.in-Processor.is c.requires.line)

pub cpu_line-requires-clause-cpu : goal.cpu_line-requires-clause-cpu
cpu_line-requires-clause-cpu g c =
    let m : Kept = record { cpus = c.self.inside.cpus; tools = c.self.inside.tools; world = c.self.inside.world; outs = c.self.inside.outs } in
    let of : IsOf c.args.script.now m = subst (IsOf c.args.script.now) (sym c.self.view_is) c.requires.script in
    let has : HasLine c.args.script.now m (actor.Processor c.in-Processor.cpu) = own-line c.args.script.now m c.args.self.now c.args.actor (actor.Processor c.in-Processor.cpu) c.self.view_is c.in-Processor.is c.requires.line in
    cpu-there c.args.script.now of.0 m c.in-Processor.cpu c.use_invariant.ensures c.requires.covered c.self.invariant.ready of.1 has

pub cpu_line-requires-clause-line : goal.cpu_line-requires-clause-line
cpu_line-requires-clause-line g c =
    let m : Kept = record { cpus = c.self.inside.cpus; tools = c.self.inside.tools; world = c.self.inside.world; outs = c.self.inside.outs } in
    let of : IsOf c.args.script.now m = subst (IsOf c.args.script.now) (sym c.self.view_is) c.requires.script in
    let has : HasLine c.args.script.now m (actor.Processor c.in-Processor.cpu) = own-line c.args.script.now m c.args.self.now c.args.actor (actor.Processor c.in-Processor.cpu) c.self.view_is c.in-Processor.is c.requires.line in
    cpu-line-within c.args.script.now of.0 m c.in-Processor.cpu c.cpu_lines.result.now _ c.use_invariant.ensures c.requires.covered of.1 has c.cpu_lines.ensures.lines

pub cpu_line-requires-clause-room : goal.cpu_line-requires-clause-room
cpu_line-requires-clause-room g c =
    let m : Kept = record { cpus = c.self.inside.cpus; tools = c.self.inside.tools; world = c.self.inside.world; outs = c.self.inside.outs } in
    let of : IsOf c.args.script.now m = subst (IsOf c.args.script.now) (sym c.self.view_is) c.requires.script in
    has-room c.args.script.now of.0 m c.use_invariant.ensures c.requires.covered of.1 c.use_invariant-2.ensures c.self.invariant

pub cpu_line-requires-clause-rings : goal.cpu_line-requires-clause-rings
cpu_line-requires-clause-rings g c =
    let m : Kept = record { cpus = c.self.inside.cpus; tools = c.self.inside.tools; world = c.self.inside.world; outs = c.self.inside.outs } in
    let of : IsOf c.args.script.now m = subst (IsOf c.args.script.now) (sym c.self.view_is) c.requires.script in
    rings-there c.args.script.now of.0 m.world m.outs c.use_invariant.ensures c.requires.covered c.use_invariant-2.ensures (is-left c.args.script.now of.0 m of.1) c.self.invariant.ready.sound

pub cpu_line-requires-clause-space : goal.cpu_line-requires-clause-space
cpu_line-requires-clause-space g c = λ work is.
    let m : Kept = record { cpus = c.self.inside.cpus; tools = c.self.inside.tools; world = c.self.inside.world; outs = c.self.inside.outs } in
    let of : IsOf c.args.script.now m = subst (IsOf c.args.script.now) (sym c.self.view_is) c.requires.script in
    let has : HasLine c.args.script.now m (actor.Processor c.in-Processor.cpu) = own-line c.args.script.now m c.args.self.now c.args.actor (actor.Processor c.in-Processor.cpu) c.self.view_is c.in-Processor.is c.requires.line in
    work-space c.args.script.now of.0 m c.in-Processor.cpu _ work c.use_invariant.ensures c.requires.covered c.requires.light c.use_invariant-2.ensures of.1
    (line-is c.cpu_lines.result.now _ _ _ c.cpu_lines.ensures.lines has) is

pub invariant_of-self : goal.invariant_of-self
invariant_of-self g c =
    let m : Kept = record { cpus = c.self.inside.cpus; tools = c.self.inside.tools; world = c.self.inside.world; outs = c.self.inside.outs } in
    let has : HasLine c.args.script.now m (actor.Processor c.in-Processor.cpu) = own-line c.args.script.now m c.args.self.now c.args.actor (actor.Processor c.in-Processor.cpu) c.self.view_is c.in-Processor.is c.requires.line in
    let low : c.in-Processor.cpu.0 < length c.self.inside.cpus = omega (arith, c.self.invariant.cpus, cpu-low c.args.script.now m c.in-Processor.cpu c.use_invariant.ensures has) in
    record {
      cpus = length-set c.self.inside.cpus c.in-Processor.cpu.0 _ ∙ c.self.invariant.cpus;
      tools = c.self.invariant.tools;
      ready = c.cpu_line.ensures.ready;
      totals = cpu-totals m c.in-Processor.cpu c.cpu_line.new.world low c.cpu_line.ensures.totals c.self.invariant.totals;
    }

pub returns-in-Processor-clause-reply : goal.returns-in-Processor-clause-reply
returns-in-Processor-clause-reply g c = λ acts led.
    let m : Kept = record { cpus = c.self.inside.cpus; tools = c.self.inside.tools; world = c.self.inside.world; outs = c.self.inside.outs } in
    let has : HasLine c.args.script.now m (actor.Processor c.in-Processor.cpu) = own-line c.args.script.now m c.args.self.now c.args.actor (actor.Processor c.in-Processor.cpu) c.self.view_is c.in-Processor.is c.requires.line in
    rw c.in-Processor.is (cpu-reply c.args.script.now m c.in-Processor.cpu _ c.cpu_line.new.world c.cpu_line.new.outs c.cpu_line.result
    (line-is c.cpu_lines.result.now _ _ _ c.cpu_lines.ensures.lines has) c.cpu_line.ensures.done acts (subst (LeadTo c.args.script.now acts) (sym c.self.view_is) led))

pub returns-in-Processor-clause-done : goal.returns-in-Processor-clause-done
returns-in-Processor-clause-done g c = λ acts led.
    let m : Kept = record { cpus = c.self.inside.cpus; tools = c.self.inside.tools; world = c.self.inside.world; outs = c.self.inside.outs } in
    let has : HasLine c.args.script.now m (actor.Processor c.in-Processor.cpu) = own-line c.args.script.now m c.args.self.now c.args.actor (actor.Processor c.in-Processor.cpu) c.self.view_is c.in-Processor.is c.requires.line in
    rw c.in-Processor.is (cpu-led c.args.script.now m c.in-Processor.cpu _ c.cpu_line.new.world c.cpu_line.new.outs c.cpu_line.result
    (omega (arith, c.self.invariant.cpus, cpu-low c.args.script.now m c.in-Processor.cpu c.use_invariant.ensures has)) has
    (line-is c.cpu_lines.result.now _ _ _ c.cpu_lines.ensures.lines has) c.cpu_line.ensures.hardware c.cpu_line.ensures.done acts (subst (LeadTo c.args.script.now acts) (sym c.self.view_is) led))

pub bounds-self-inside-tool : goal.bounds-self-inside-tool
bounds-self-inside-tool g c = tool-low c.args.script.now c.args.self.now c.in-Tool.tool c.use_invariant.ensures (subst (HasLine c.args.script.now c.args.self.now) c.in-Tool.is c.requires.line)

pub tool_lines-requires : goal.tool_lines-requires
tool_lines-requires g c = tool-low c.args.script.now c.args.self.now c.in-Tool.tool c.use_invariant.ensures (subst (HasLine c.args.script.now c.args.self.now) c.in-Tool.is c.requires.line)

pub tool_line-requires-clause-line : goal.tool_line-requires-clause-line
tool_line-requires-clause-line g c =
    let m : Kept = record { cpus = c.self.inside.cpus; tools = c.self.inside.tools; world = c.self.inside.world; outs = c.self.inside.outs } in
    let of : IsOf c.args.script.now m = subst (IsOf c.args.script.now) (sym c.self.view_is) c.requires.script in
    let has : HasLine c.args.script.now m (actor.Tool c.in-Tool.tool) = own-line c.args.script.now m c.args.self.now c.args.actor (actor.Tool c.in-Tool.tool) c.self.view_is c.in-Tool.is c.requires.line in
    tool-line-within c.args.script.now of.0 m c.in-Tool.tool c.tool_lines.result.now _ c.use_invariant.ensures c.requires.covered c.self.invariant.ready of.1 has c.tool_lines.ensures.lines

pub tool_line-requires-clause-room : goal.tool_line-requires-clause-room
tool_line-requires-clause-room g c =
    let m : Kept = record { cpus = c.self.inside.cpus; tools = c.self.inside.tools; world = c.self.inside.world; outs = c.self.inside.outs } in
    let of : IsOf c.args.script.now m = subst (IsOf c.args.script.now) (sym c.self.view_is) c.requires.script in
    has-room c.args.script.now of.0 m c.use_invariant.ensures c.requires.covered of.1 c.use_invariant-2.ensures c.self.invariant

pub returns-in-Tool-clause-reply : goal.returns-in-Tool-clause-reply
returns-in-Tool-clause-reply g c = λ acts led.
    let m : Kept = record { cpus = c.self.inside.cpus; tools = c.self.inside.tools; world = c.self.inside.world; outs = c.self.inside.outs } in
    let has : HasLine c.args.script.now m (actor.Tool c.in-Tool.tool) = own-line c.args.script.now m c.args.self.now c.args.actor (actor.Tool c.in-Tool.tool) c.self.view_is c.in-Tool.is c.requires.line in
    rw c.in-Tool.is (tool-reply c.args.script.now m c.in-Tool.tool _ c.tool_line.new.world c.tool_line.result
    (line-is c.tool_lines.result.now _ _ _ c.tool_lines.ensures.lines has) c.tool_line.ensures.done acts (subst (LeadTo c.args.script.now acts) (sym c.self.view_is) led))

pub returns-in-Tool-clause-done : goal.returns-in-Tool-clause-done
returns-in-Tool-clause-done g c = λ acts led.
    let m : Kept = record { cpus = c.self.inside.cpus; tools = c.self.inside.tools; world = c.self.inside.world; outs = c.self.inside.outs } in
    let has : HasLine c.args.script.now m (actor.Tool c.in-Tool.tool) = own-line c.args.script.now m c.args.self.now c.args.actor (actor.Tool c.in-Tool.tool) c.self.view_is c.in-Tool.is c.requires.line in
    rw c.in-Tool.is (tool-led c.args.script.now m c.in-Tool.tool _ c.tool_line.new.world c.tool_line.result
    (omega (arith, c.self.invariant.tools, tool-low c.args.script.now m c.in-Tool.tool c.use_invariant.ensures has)) has
    (line-is c.tool_lines.result.now _ _ _ c.tool_lines.ensures.lines has) c.tool_line.ensures.hardware c.tool_line.ensures.done acts (subst (LeadTo c.args.script.now acts) (sym c.self.view_is) led))

pub returns-in-Processor-clause-counted : goal.returns-in-Processor-clause-counted
returns-in-Processor-clause-counted g c =
    let m : Kept = record { cpus = c.self.inside.cpus; tools = c.self.inside.tools; world = c.self.inside.world; outs = c.self.inside.outs } in
    let has : HasLine c.args.script.now m (actor.Processor c.in-Processor.cpu) = own-line c.args.script.now m c.args.self.now c.args.actor (actor.Processor c.in-Processor.cpu) c.self.view_is c.in-Processor.is c.requires.line in
    next-cpu_counted (option_copied c.args.sheet) c.args.script.now m c.args.self.now c.args.actor c.in-Processor.cpu _ c.cpu_line.new.world c.args.tests.now c.cpu_line.new.tests c.self.view_is
    c.in-Processor.is (line-is c.cpu_lines.result.now _ _ _ c.cpu_lines.ensures.lines has) c.cpu_line.ensures.counted

pub returns-in-Tool-clause-counted : goal.returns-in-Tool-clause-counted
returns-in-Tool-clause-counted g c =
    let m : Kept = record { cpus = c.self.inside.cpus; tools = c.self.inside.tools; world = c.self.inside.world; outs = c.self.inside.outs } in
    let has : HasLine c.args.script.now m (actor.Tool c.in-Tool.tool) = own-line c.args.script.now m c.args.self.now c.args.actor (actor.Tool c.in-Tool.tool) c.self.view_is c.in-Tool.is c.requires.line in
    next-tool_counted (option_copied c.args.sheet) c.args.script.now m c.args.self.now c.args.actor c.in-Tool.tool _ c.tool_line.new.world c.args.tests.now c.tool_line.new.tests c.self.view_is
    c.in-Tool.is (line-is c.tool_lines.result.now _ _ _ c.tool_lines.ensures.lines has) c.tool_line.ensures.counted

pub returns-in-Processor-clause-idle : goal.returns-in-Processor-clause-idle
returns-in-Processor-clause-idle g c =
    let m : Kept = record { cpus = c.self.inside.cpus; tools = c.self.inside.tools; world = c.self.inside.world; outs = c.self.inside.outs } in
    let has : HasLine c.args.script.now m (actor.Processor c.in-Processor.cpu) = own-line c.args.script.now m c.args.self.now c.args.actor (actor.Processor c.in-Processor.cpu) c.self.view_is c.in-Processor.is c.requires.line in
    next-cpu_idle c.args.script.now m c.args.self.now c.args.actor c.in-Processor.cpu _ c.cpu_line.new.world c.self.view_is
    c.in-Processor.is (line-is c.cpu_lines.result.now _ _ _ c.cpu_lines.ensures.lines has) c.cpu_line.ensures.idle

pub returns-in-Tool-clause-idle : goal.returns-in-Tool-clause-idle
returns-in-Tool-clause-idle g c =
    let m : Kept = record { cpus = c.self.inside.cpus; tools = c.self.inside.tools; world = c.self.inside.world; outs = c.self.inside.outs } in
    let has : HasLine c.args.script.now m (actor.Tool c.in-Tool.tool) = own-line c.args.script.now m c.args.self.now c.args.actor (actor.Tool c.in-Tool.tool) c.self.view_is c.in-Tool.is c.requires.line in
    next-tool_idle c.args.script.now m c.args.self.now c.args.actor c.in-Tool.tool _ c.tool_line.new.world c.self.view_is
    c.in-Tool.is (line-is c.tool_lines.result.now _ _ _ c.tool_lines.ensures.lines has) c.tool_line.ensures.idle
