use Rattle.std.proofs.Common.{rules}
use Rattle.perf_io.proofs.Wrote.{wrote_text}
use Rattle.script_print.proofs.{Loops.{found, state_exit, state_more}, Hits.{hits_each, hit_at}}
use Rattle.script_print.proofs.cpu_lines.put_hits.Goals as goal

pub returns-in_err-put_hit-clause-wrote : goal.returns-in_err-put_hit-clause-wrote
returns-in_err-put_hit-clause-wrote g c =
    let at = found c.args.script.now.kinds c.loop-kind.kind _ (search rules) c.name.ensures.name in
    state_exit hits_each c.args.hits.now c.args.script.now.kinds c.loop-kind.kind at.0 (search rules) c.loop-kind.invariant.wrote c.from_residual.ensures.0 (wrote_text (hit_at c.args.script.now.kinds c.args.hits.now c.loop-kind.kind at.0 (search rules) at.1) (rw at.2 at c.in_err-put_hit.ensures.wrote))

pub loop-kind-preserved : goal.loop-kind-preserved
loop-kind-preserved g c =
    let at = found c.args.script.now.kinds c.loop-kind.kind _ (search rules) c.name.ensures.name in
    record {
      wrote = state_more hits_each c.args.hits.now c.args.script.now.kinds c.loop-kind.kind at.0 (search rules) c.loop-kind.invariant.wrote (wrote_text (hit_at c.args.script.now.kinds c.args.hits.now c.loop-kind.kind at.0 (search rules) at.1) (rw at.2 at c.in_ok-put_hit.ensures.wrote));
      flushed = search rules;
    }
