use Rattle.std.proofs.Common.{sym}
use Rattle.script_read.proofs.Counting.{not_declared, named_twice, one_counted}
use Rattle.script_read.proofs.lines.count.Goals as goal

pub returns-in_default : goal.returns-in_default
returns-in_default c = λ hits counted. not_declared c.args.script.now.kinds hits c.args.name.now (sym c.in_default.ensures)

pub returns-then-named-kind : goal.returns-then-named-kind
returns-then-named-kind c = λ hits counted. named_twice c.args.script.now.kinds hits c.args.times.now c.args.named.now counted c.args.name.now c.in-Some.kind (sym c.in-Some.ensures) _ c.if-named-kind.true

pub returns : goal.returns
returns c = λ hits counted.
    one_counted c.args.script.now.kinds hits c.args.times.now c.args.named.now counted c.args.name.now c.in-Some.kind (sym c.in-Some.ensures) c.requires.kinds_once c.args.amount _ c.if-named-kind.false
