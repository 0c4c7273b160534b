use Rattle.std.proofs.Common.{◌≡◌, arith, sym, subst}
use Rattle.world_tables.specs.Columns.{IsTable, columns, no_columns}
use Rattle.world_tables.proofs.Tables.{columns-none, table-new}
use Rattle.world_tables.proofs.event_table.EventTable.new.Goals as goal

pub returns : goal.returns
returns c =
    subst (λ s. columns c.in_ok-idle_meters.field-0.items s ≡ no_columns c.args.cpus) (sym c.events.view_is)
    (columns-none c.in_ok-idle_meters.field-0.items c.in_ok-events.events c.args.cpus c.in_ok-idle_meters.ensures c.in_ok-events.ensures.empty)

pub invariant_of-result : goal.invariant_of-result
invariant_of-result c = c.events.invariant

pub invariant_of-result-2 : goal.invariant_of-result-2
invariant_of-result-2 c =
    subst (λ s. IsTable c.in_ok-idle_meters.field-0.items c.new.result c.new-2.result s) (sym c.events.view_is)
    (table-new c.in_ok-idle_meters.field-0.items c.new.result c.new-2.result c.in_ok-events.events c.new.ensures c.new-2.ensures c.in_ok-events.ensures.empty c.in_ok-events.ensures.capacity
    (omega (arith, c.if-capacity-gt-KEYS.false, c.capacity.ensures.value)))
