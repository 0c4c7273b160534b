use Rattle.std.{specs.Prelude.{[], ◌∷◌, ◌++◌}, proofs.Common.{ap, subst, sym}}
use Rattle.machine.specs.Leading.{Kept}
use Rattle.perf_share.specs.{Calls.{AreLegal, Fits, steps_in}, Served.{IsAfter}, declared.call.Call.{Call}}
use Rattle.perf_share.proofs.Serving.{served-more, takes-alone, takes-call}
use Rattle.perf_share.specs.declared.call.Call.TheVariants as call
use Rattle.perf_share.proofs.served.ServedSequential.apply.Goals as goal

pub tool_line-requires : goal.tool_line-requires
tool_line-requires c =
    takes-call c.requires.0 c.args.self.now c.requires.1 (call.Tool c.in-Tool.line) c.requires.2 c.requires.3 (subst (Fits c.requires.0) c.in-Tool.is c.requires.4)

pub cpu_line-requires-clause-line : goal.cpu_line-requires-clause-line
cpu_line-requires-clause-line c =
    takes-alone c.requires.0 c.args.self.now c.requires.1 (call.Cpu c.in-Cpu.cpu c.in-Cpu.line) c.requires.2 c.requires.3 (subst (Fits c.requires.0) c.in-Cpu.is c.requires.4)

pub cpu_line-requires-clause-together : goal.cpu_line-requires-clause-together
cpu_line-requires-clause-together c = c.requires.3.together

pub returns-in-Tool : goal.returns-in-Tool
returns-in-Tool c = λ key calls few after fits.
    subst (λ (x : Call). IsAfter key (record { machine = c.tool_line.new.self; rings = c.args.self.now.rings }) (calls ++ (x, c.tool_line.result) ∷ []) × AreLegal key (calls ++ (x, c.tool_line.result) ∷ []))
    (sym c.in-Tool.is)
    (served-more key c.args.self.now calls (call.Tool c.in-Tool.line) c.tool_line.result c.tool_line.new.self few after (subst (Fits key) c.in-Tool.is fits)
    (c.tool_line.ensures.reply key (steps_in calls)) (c.tool_line.ensures.led key (steps_in calls)) (ap (λ (k : Kept). k.outs) c.tool_line.ensures.rest))

pub returns-in-Cpu : goal.returns-in-Cpu
returns-in-Cpu c = λ key calls few after fits.
    subst (λ (x : Call). IsAfter key (record { machine = c.cpu_line.new.self; rings = c.args.self.now.rings }) (calls ++ (x, c.cpu_line.result) ∷ []) × AreLegal key (calls ++ (x, c.cpu_line.result) ∷ []))
    (sym c.in-Cpu.is)
    (served-more key c.args.self.now calls (call.Cpu c.in-Cpu.cpu c.in-Cpu.line) c.cpu_line.result c.cpu_line.new.self few after (subst (Fits key) c.in-Cpu.is fits)
    (c.cpu_line.ensures.reply key (steps_in calls)) (c.cpu_line.ensures.led key (steps_in calls)) (ap (λ (k : Kept). k.outs) c.cpu_line.ensures.rest))
