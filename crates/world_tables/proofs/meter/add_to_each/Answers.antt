use Rattle.world_tables.proofs.Tallies.{all-added}
use Rattle.world_tables.proofs.meter.add_to_each.Goals as goal

pub returns-clause-totals : goal.returns-clause-totals
returns-clause-totals g c =
    all-added c.args.totals.now c.loop-number.totals c.args.hits.now c.loop-number.number c.requires.same c.loop-number.auto.totals c.loop-number-test.false c.loop-number.invariant.0
