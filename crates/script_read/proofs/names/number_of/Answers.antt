use Rattle.std.proofs.Common.{◌∙◌, sym, arith}
use Rattle.script_read.proofs.Called.{number_found_by, number_not_found}
use Rattle.script_read.proofs.names.number_of.Goals as goal

pub returns-then-is_called : goal.returns-then-is_called
returns-then-is_called c = number_found_by c.args.script.now.kinds c.args.name.now c.name.result c.loop-kind.kind (omega (arith, c.loop-kind-test.true, c.kinds-kind-end.ensures.number)) c.name.ensures.name (sym c.is_called.ensures ∙ c.if-is_called.true) c.loop-kind.invariant

pub returns : goal.returns
returns c = number_not_found c.args.script.now.kinds c.args.name.now c.loop-kind.kind (omega (arith, c.loop-kind-test.false, c.kinds-kind-end.ensures.number)) c.loop-kind.invariant
