use Rattle.std.proofs.Common.{◌≡◌, map, take, slice_index, None}
use Rattle.counter_match.specs.Seating.{empty_seating}
use Rattle.world_tables.proofs.processors.Processors.new.Given as goal

abbrev pub invariant-loop-cpu : goal.invariant-loop-cpu
invariant-loop-cpu l =
    l.rows.items ≡ map (λ pmu. record { running = None; seats = empty_seating (slice_index l.pmus.counters pmu) }) (take l.cpu l.pmus.cpu_pmus)
