use Rattle.std.proofs.Common.{◌∙◌}
use Rattle.machine.proofs.Declared.{seen-is, table-is}
use Rattle.machine.proofs.counters.pmus_of.Goals as goal

pub new-requires : goal.new-requires
new-requires c =
    table-is c.args.script.now c.cpus.result c.kinds.result c.cpu_pmus.result c.counters.result c.kind_pmus.result c.masks.result c.cpus.ensures.sound c.requires c.cpus.ensures.number c.kinds.ensures.number
    (seen-is c.args.script.now c.cpus.result c.kinds.result c.cpu_pmus.result c.counters.result c.kind_pmus.result c.masks.result c.cpus.ensures.number c.kinds.ensures.number c.cpu_pmus.ensures c.counters.ensures
    c.kind_pmus.ensures c.masks.ensures)

pub returns : goal.returns
returns c =
    c.new.ensures
    ∙ seen-is c.args.script.now c.cpus.result c.kinds.result c.cpu_pmus.result c.counters.result c.kind_pmus.result c.masks.result c.cpus.ensures.number c.kinds.ensures.number c.cpu_pmus.ensures c.counters.ensures
    c.kind_pmus.ensures c.masks.ensures
