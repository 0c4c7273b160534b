use Rattle.script_read.proofs.lines.tool_line.Goals as goal

pub returns-in-OpenAttr-clause-bad : goal.returns-in-OpenAttr-clause-bad
returns-in-OpenAttr-clause-bad c = rw c.in-OpenAttr.is c.open_attr.ensures.bad
