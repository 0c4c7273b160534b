use Rattle.std.proofs.Common.{◌+◌, ap, arith}
use Rattle.user_page.{specs.{declared.look.Look.{Look}, Looks.{last_look}}, proofs.Lists.{follows_at}}
use Rattle.ring_tests.proofs.pages.publish_looks.Goals as goal

pub publish-requires-clause-rises : goal.publish-requires-clause-rises
publish-requires-clause-rises c = follows_at (last_look c.loop-i.writer.published) (c.args.at + c.loop-i.i) c.look_at.result c.loop-i.invariant.last (omega (arith, ap (λ (l : Look). l.at) c.look_at.ensures))
