use Rattle.std.proofs.Common.{refl}
use Rattle.world_spec.{specs.Value.{entry_at, is_key, is_live}, proofs.Moving.{leads-parts}}
use Rattle.event_reads.proofs.Homes.{has-stood}
use Rattle.event_reads.proofs.asking.why_ready.Goals as goal

pub standing_on-requires-clause-judged : goal.standing_on-requires-clause-judged
standing_on-requires-clause-judged c there =
    (has-stood c.args.world.now c.args.leader c.in-Some.cpu (entry_at c.args.world.now c.args.leader).context c.requires.rescheduled
    (leads-parts (is_live c.args.world.now c.args.leader) (is_key c.args.leader (entry_at c.args.world.now c.args.leader).leader) c.requires.leads).0 refl there).judged
