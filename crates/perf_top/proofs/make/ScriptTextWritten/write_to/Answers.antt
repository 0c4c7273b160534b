use Rattle.perf_top.proofs.Made.{made-covered}
use Rattle.perf_top.proofs.make.ScriptTextWritten.write_to.Goals as goal

pub print_script-requires : goal.print_script-requires
print_script-requires g c = made-covered c.args.self.now.rounds c.args.self.now.script c.args.self.now.made
