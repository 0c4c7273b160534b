use Rattle.std.proofs.Common.{sym, ap, ◌∙◌}
use Rattle.world_tables.proofs.Parts.{put-seats, seats-at}
use Rattle.world_tables.proofs.processors.Processors.set_seats.Goals as goal

pub set_seats-requires : goal.set_seats-requires
set_seats-requires c =
    ap (λ s. s.counters) (sym (seats-at c.self.inside.rows.items c.args.self.now c.args.cpu.0 c.index_mut.result.now c.self.view_is c.index_mut.ensures.value c.requires.cpu)) ∙ c.requires.counters

pub returns-clause-set : goal.returns-clause-set
returns-clause-set c =
    rw c.set_seats.ensures.set
    (put-seats c.self.inside.rows.items c.args.self.now c.args.cpu.0 c.index_mut.result.now c.self.view_is c.index_mut.ensures.value c.requires.cpu c.args.seats.now)
