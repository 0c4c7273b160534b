use Rattle.std.proofs.{Common.{None, sym, ap, ◌∙◌, take, get_or}, lemmas.List.{take_more}}
use Rattle.perf_base.specs.Scripts.{with_cpu_line}
use Rattle.perf_base.specs.declared.lines.CpuLine.TheVariants as cpu_line
use Rattle.work_maker.{specs.Building.{with_cpu_lines}, proofs.States.{cpu_lines-more}}
use Rattle.work_maker.proofs.parts.add_cpu_lines.Goals as goal

pub loop-line-preserved : goal.loop-line-preserved
loop-line-preserved c =
    let i = c.loop-line.line-index in
    let lines = c.args.lines.now in
    let line = get_or lines i (cpu_line.Switch None) in
    c.in_ok-add_cpu_line.ensures.ok
    ∙ ap (λ s. with_cpu_line s c.args.cpu line) c.loop-line.invariant
    ∙ cpu_lines-more c.args.script.now c.args.cpu (take i lines) line c.requires.has
    ∙ ap (with_cpu_lines c.args.script.now c.args.cpu) (sym (take_more lines i (cpu_line.Switch None) c.loop-line-test.true))
