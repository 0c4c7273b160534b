use Rattle.machine.proofs.ToolLines.{left-outside}
use Rattle.machine.proofs.given.tool_line.Goals as goal

pub settle-requires : goal.settle-requires
settle-requires g c = left-outside c.args.world.now c.begin.new.world c.args.line.now c.in-Made.made c.in-Made.ensures.answered c.requires.ready.rescheduled

pub returns-in-Told : goal.returns-in-Told
returns-in-Told g c = c.in-Told.ensures c.args.tests.now

pub returns-in-Made : goal.returns-in-Made
returns-in-Made g c =
    c.settle.ensures c.args.line.now c.args.world.now
    (record { kept = c.use_invariant.ensures; ready = c.requires.ready; within = c.requires.line; changes = c.in-Made.ensures.changes }) c.in-Made.ensures.answered
