use Rattle.stage_spec.proofs.Machines.{script_machine}
use Rattle.stage_spec.proofs.laws.scripts_declare_machines.Goals as goal

pub returns : goal.returns
returns c = script_machine
