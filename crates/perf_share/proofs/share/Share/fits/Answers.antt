use Rattle.std.proofs.Common.{arith}
use Rattle.perf_share.proofs.Deciding.{fits-by}
use Rattle.perf_share.proofs.share.Share.fits.Goals as goal

pub has-requires : goal.has-requires
has-requires c = omega (arith, c.self.invariant.kinds, c.self.invariant.script.kinds_few)

pub returns : goal.returns
returns c = fits-by c.self.inside.share c.args.self.now c.self.inside.limits c.args.call.now c.has.result c.self.invariant c.self.view_is c.has.ensures
