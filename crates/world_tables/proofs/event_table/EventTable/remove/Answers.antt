use Rattle.world_tables.proofs.{Written.{there-row, row-goes}, Sampling.{counted-some, counted-goes}, Tables.{table-taken}}
use Rattle.world_tables.proofs.event_table.EventTable.remove.Goals as goal

pub remove-event-requires : goal.remove-event-requires
remove-event-requires c = there-row c.self.inside.meters.items c.self.inside.events c.args.self.now c.args.key c.self.view_is c.requires

pub remove-requires : goal.remove-requires
remove-requires c =
    rw (c.instance.ensures, c.context.ensures) (counted-some c.self.inside.samplers c.self.inside.events c.remove-event.new.self c.args.key.0 c.remove-event.result c.self.invariant.samplers c.remove-event.ensures.value)

pub returns : goal.returns
returns c = row-goes c.self.inside.meters.items c.self.inside.events c.remove-event.new.self c.args.self.now c.args.key c.self.view_is c.remove-event.ensures.updates

pub invariant_of-self : goal.invariant_of-self
invariant_of-self c =
    table-taken c.self.inside.meters.items c.self.inside.idle c.self.inside.samplers c.remove.new.self c.self.inside.events c.remove-event.new.self c.args.key.0 c.self.invariant c.remove-event.ensures.updates c.remove-event.ensures.capacity
    (rw (c.remove.ensures, c.instance.ensures, c.context.ensures) (counted-goes c.self.inside.samplers c.self.inside.events c.remove-event.new.self c.args.key.0 c.remove-event.result c.self.invariant.samplers c.remove-event.ensures.value c.remove-event.ensures.updates))
