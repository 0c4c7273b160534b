use Rattle.script_read.proofs.state.State.add.Goals as goal

pub returns-in-OnTool-clause-bad : goal.returns-in-OnTool-clause-bad
returns-in-OnTool-clause-bad c = rw c.in-OnTool.is c.on_tool.ensures.bad
