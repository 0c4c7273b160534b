use Rattle.perf_book.proofs.UnderWay.{grown-under-way}
use Rattle.perf_book.proofs.named.advance_one.Goals as goal

pub returns-clause-under_way : goal.returns-clause-under_way
returns-clause-under_way g c =
    grown-under-way c.args.book.now.script c.args.book.now.machine c.args.actor c.args.book.now.order c.do_next_line.new.self.order c.requires.line c.requires.under_way c.do_next_line.ensures.order
