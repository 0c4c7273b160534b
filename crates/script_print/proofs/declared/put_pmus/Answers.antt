use Rattle.std.proofs.Common.{rules}
use Rattle.perf_io.proofs.Wrote.{wrote_text}
use Rattle.script_print.proofs.{Whole.{pmus_each, pmu_at}, Loops.{found, state_exit, state_more}}
use Rattle.script_print.proofs.declared.put_pmus.Goals as goal

pub returns-in_err-put_pmu-clause-wrote : goal.returns-in_err-put_pmu-clause-wrote
returns-in_err-put_pmu-clause-wrote g c =
    let at = found c.args.script.now.pmus c.loop-pmu.pmu _ (search rules) c.in_err-put_pmu.ensures.wrote in
    state_exit pmus_each 0 c.args.script.now.pmus c.loop-pmu.pmu at.0 (search rules) c.loop-pmu.invariant.wrote c.from_residual.ensures.0 (wrote_text (pmu_at c.args.script.now.pmus c.loop-pmu.pmu at.0 (search rules) at.1) at.2)

pub loop-pmu-preserved : goal.loop-pmu-preserved
loop-pmu-preserved g c =
    let at = found c.args.script.now.pmus c.loop-pmu.pmu _ (search rules) c.in_ok-put_pmu.ensures.wrote in
    record { wrote = state_more pmus_each 0 c.args.script.now.pmus c.loop-pmu.pmu at.0 (search rules) c.loop-pmu.invariant.wrote (wrote_text (pmu_at c.args.script.now.pmus c.loop-pmu.pmu at.0 (search rules) at.1) at.2); flushed = search rules }
