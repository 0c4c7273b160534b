use Rattle.std.proofs.Common.{◌≡◌, drop, find, nat_lt}
use Rattle.world_tables.specs.Columns.{entry_in}
use Rattle.perf_world.proofs.finding.first_after.Given as goal

abbrev pub invariant-loop-key : goal.invariant-loop-key
invariant-loop-key l =
    find (λ k. nat_lt l.id (entry_in l.events k).instance.id) (drop l.key-index l.keys) ≡ find (λ k. nat_lt l.id (entry_in l.events k).instance.id) l.keys
