use Rattle.std.proofs.Common.{◌≡◌, replicate}
use Rattle.world_tables.specs.Places.{empty_slot}
use Rattle.world_tables.proofs.families.Families.new.Given as goal

abbrev pub invariant-loop : goal.invariant-loop
invariant-loop l = l.rows.items ≡ replicate l.counter empty_slot
