use Rattle.world_tables.proofs.Parts.{put-running}
use Rattle.world_tables.proofs.processors.Processors.set_running.Goals as goal

pub returns : goal.returns
returns c = rw c.set_running.ensures (put-running c.self.inside.rows.items c.args.self.now c.args.cpu.0 c.index_mut.result.now c.self.view_is c.index_mut.ensures.value c.requires c.args.task)
