use Rattle.counter_match.specs.Seating.{empty_seating}
use Rattle.world_tables.proofs.Parts.{put-seats, seats-at}
use Rattle.world_tables.proofs.processors.Processors.clear_seats.Goals as goal

pub returns : goal.returns
returns c =
    rw (c.clear_seats.ensures, seats-at c.self.inside.rows.items c.args.self.now c.args.cpu.0 c.index_mut.result.now c.self.view_is c.index_mut.ensures.value c.requires)
    (put-seats c.self.inside.rows.items c.args.self.now c.args.cpu.0 c.index_mut.result.now c.self.view_is c.index_mut.ensures.value c.requires (empty_seating c.index_mut.result.now.seats.counters))
