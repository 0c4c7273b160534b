use Rattle.std.proofs.Common.{sym, ◌∙◌}
use Rattle.world_spec.specs.Value.{family_of}
use Rattle.event_commands.proofs.Processors.{adds-option, adds-no_option}
use Rattle.event_commands.proofs.reaching.add_original.Goals as goal

pub returns-in-Some : goal.returns-in-Some
returns-in-Some c =
    adds-option c.args.world.now (family_of c.args.world.now c.args.event).original c.in-Some.original c.args.cpus.now c.add_cpu.new.cpus (sym c.key_of.ensures.key ∙ c.in-Some.is) c.add_cpu.ensures

pub returns-in_default : goal.returns-in_default
returns-in_default c = adds-no_option c.args.world.now (family_of c.args.world.now c.args.event).original c.args.cpus.now (sym c.key_of.ensures.key ∙ c.in_default.is)
