use Rattle.std.{specs.Prelude.{◌*◌}, proofs.Common.{◌∙◌}}
use Rattle.perf_base.specs.Weight.{weight}
use Rattle.machine.proofs.Behind.{following-behind, following-readers}
use Rattle.perf_top.proofs.ready.finish_book.Goals as goal

pub finish-requires-clause-readers : goal.finish-requires-clause-readers
finish-requires-clause-readers c = following-readers (9 * weight c.args.book.script) c.args.book.machine.outs c.args.ins c.requires.following

pub returns-clause-order : goal.returns-clause-order
returns-clause-order c =
    c.finish.ensures.still (following-behind (9 * weight c.args.book.script) c.args.book.machine.outs c.args.ins c.requires.following)
    ∙ c.requires.order
