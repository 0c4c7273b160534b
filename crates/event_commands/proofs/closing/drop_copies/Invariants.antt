use Rattle.event_commands.proofs.Families.{CopiesGone}
use Rattle.event_commands.proofs.closing.drop_copies.Given as goal

abbrev pub invariant-loop-gone : goal.invariant-loop-gone
invariant-loop-gone l = CopiesGone l.event l._gone l.fn.world l.world
