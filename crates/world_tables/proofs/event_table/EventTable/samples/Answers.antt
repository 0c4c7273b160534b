use Rattle.world_tables.proofs.Tables.{samplers-are}
use Rattle.world_tables.proofs.event_table.EventTable.samples.Goals as goal

pub returns : goal.returns
returns c =
    let are = samplers-are c.self.inside.meters.items c.self.inside.idle c.self.inside.samplers c.self.inside.events c.args.self.now c.args.context c.self.view_is c.self.invariant c.requires in
    (λ is. are.0 (c.has_any.ensures.0 is), λ some. c.has_any.ensures.1 (are.1 some))
