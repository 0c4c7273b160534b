use Rattle.std.proofs.Common.{◌≡◌, replicate}
use Rattle.world_tables.specs.Meters.{no_meter}
use Rattle.world_tables.proofs.event_table.idle_meters.Given as goal

abbrev pub invariant-loop : goal.invariant-loop
invariant-loop l = l.meters.items ≡ replicate l.counter no_meter
