use Rattle.perf_book.proofs.Planning.{planned-free}
use Rattle.top_tests.proofs.planning_tests.go_by_plan.Goals as goal

pub returns-clause-free : goal.returns-clause-free
returns-clause-free g c =
    planned-free c.args.book.now.script c.args.book.now.machine c.advance.new.self.machine c.args.cpu c.args.sheet.now c.plan_next.new.sheet c.args.tests.now c.advance.new.tests
    c.requires.line c.requires.filled c.plan_next.ensures.brief c.plan_next.ensures.ready c.advance.ensures.counted
