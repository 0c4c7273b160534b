use Rattle.std.proofs.Common.{subst, sym}
use Rattle.machine.specs.Leading.{HasLine}
use Rattle.perf_book.{specs.Book.{Booked}, proofs.Watching.{all-behind}}
use Rattle.perf_book.proofs.named.Named.advance.Goals as goal

pub publish-requires-clause-behind : goal.publish-requires-clause-behind
publish-requires-clause-behind g c =
    all-behind c.looks_at_rings_publish_none.ensures c.self.inside.book.script c.advance_one.new.book.script c.self.inside.book.machine c.args.actor c.self.inside.book.order c.advance_one.new.book.order
    c.self.inside.publisher (subst (λ (b : Booked). HasLine b.script b.machine c.args.actor) (sym c.self.view_is) c.requires.line) c.advance_one.ensures.script c.self.invariant.4 c.advance_one.ensures.order
