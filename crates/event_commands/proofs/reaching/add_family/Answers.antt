use Rattle.world_spec.specs.{Kept.{in_option}, Value.{family_of}}
use Rattle.event_commands.proofs.Processors.{adds-append}
use Rattle.event_commands.proofs.reaching.add_family.Goals as goal

pub returns : goal.returns
returns c =
    adds-append c.args.world.now (in_option (family_of c.args.world.now c.args.event).original) (family_of c.args.world.now c.args.event).copies c.args.cpus.now c.add_original.new.cpus
    c.add_copies.new.cpus c.add_original.ensures c.add_copies.ensures
