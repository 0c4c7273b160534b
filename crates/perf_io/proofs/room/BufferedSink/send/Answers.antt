use Rattle.std.proofs.{Common.{arith}, lemmas.Grind.{common_steps}}
use Rattle.perf_io.proofs.Rooms.{Grew-more}
use Rattle.perf_io.proofs.room.BufferedSink.send.Goals as goal

pub invariant_of-self-2-clause-grew : goal.invariant_of-self-2-clause-grew
invariant_of-self-2-clause-grew g c = Grew-more _ _ _ _ c.args.self.now.grew c.in_ok-count.ensures.added

pub returns-clause-held : goal.returns-clause-held
returns-clause-held g c = grind (arith, common_steps)
