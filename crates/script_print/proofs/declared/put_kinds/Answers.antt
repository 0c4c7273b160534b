use Rattle.std.proofs.Common.{length, rules}
use Rattle.script_spec.specs.Printing.{kind_form}
use Rattle.script_print.proofs.{Whole.{each_text}, Loops.{found, loop_exit_is, loop_more_is}}
use Rattle.script_print.proofs.declared.put_kinds.Goals as goal

pub returns-in_err-put_kind-clause-wrote : goal.returns-in_err-put_kind-clause-wrote
returns-in_err-put_kind-clause-wrote g c =
    let at = found c.args.script.now.kinds c.loop-kind.kind _ (search rules) c.in_err-put_kind.ensures.wrote in
    loop_exit_is (each_text (kind_form (length c.args.script.now.pmus))) c.args.script.now.kinds c.loop-kind.kind at.0 (search rules) at.1 c.loop-kind.invariant.wrote c.from_residual.ensures.0 at.2

pub loop-kind-preserved : goal.loop-kind-preserved
loop-kind-preserved g c =
    let at = found c.args.script.now.kinds c.loop-kind.kind _ (search rules) c.in_ok-put_kind.ensures.wrote in
    record {
      wrote = loop_more_is (each_text (kind_form (length c.args.script.now.pmus))) c.args.script.now.kinds c.loop-kind.kind at.0 (search rules) at.1 c.loop-kind.invariant.wrote at.2;
      flushed = search rules;
    }
