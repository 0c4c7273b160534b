use Rattle.std.{specs.Prelude.{option_map, Option, None, false}, proofs.Common.{sym, ap, subst, ◌∙◌}}
use Rattle.perf_base.specs.declared.lines.CpuLine.{CpuLine}
use Rattle.perf_base.specs.declared.acts.Actor.TheVariants as actor
use Rattle.cpu_sched.specs.{After.{after_brief}, Sheets.{Held}}
use Rattle.machine.{specs.{Leading.{Kept, HasLine, IsOf}, Prepared.{prepared}}, proofs.Lines.{cpu-there, line-is}}
use Rattle.machine.proofs.machine.Machine.prepare.Goals as goal

pub fill-requires-clause-cpu : goal.fill-requires-clause-cpu
fill-requires-clause-cpu c =
    let m : Kept = record { cpus = c.self.inside.cpus; tools = c.self.inside.tools; world = c.self.inside.world; outs = c.self.inside.outs } in
    let of : IsOf c.args.script.now m = subst (IsOf c.args.script.now) (sym c.self.view_is) c.requires.script in
    let has : HasLine c.args.script.now m (actor.Processor c.args.cpu) =
    subst (λ (k : Kept). HasLine c.args.script.now k (actor.Processor c.args.cpu)) (sym c.self.view_is) (c.has_line.ensures.0 cc) in
    cpu-there c.args.script.now of.0 m c.args.cpu c.use_invariant.ensures c.requires.covered c.self.invariant.ready of.1 has

pub returns : goal.returns
returns c =
    let m : Kept = record { cpus = c.self.inside.cpus; tools = c.self.inside.tools; world = c.self.inside.world; outs = c.self.inside.outs } in
    let has : HasLine c.args.script.now m (actor.Processor c.args.cpu) =
    subst (λ (k : Kept). HasLine c.args.script.now k (actor.Processor c.args.cpu)) (sym c.self.view_is) (c.has_line.ensures.0 cc) in
    c.fill.ensures
    ∙ (ap {A = Option CpuLine} {B = Held} (λ o. record { brief = option_map (after_brief m.world c.args.cpu) o; planned = false; seats = None }) (sym (line-is c.cpu_lines.result.now _ _ _ c.cpu_lines.ensures.lines has))
    ∙ ap (λ (k : Kept). prepared c.args.script.now k c.args.cpu) c.self.view_is)
