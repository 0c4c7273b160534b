use Rattle.std.proofs.Common.{◌≡◌, replicate}
use Rattle.world_spec.specs.Value.{no_leaders}
use Rattle.world_tables.proofs.contexts.Contexts.new.Given as goal

abbrev pub invariant-loop : goal.invariant-loop
invariant-loop l = l.groups.items ≡ replicate l.counter no_leaders
