use Rattle.std.proofs.Common.{rules}
use Rattle.script_read.proofs.state.State.kind.Goals as goal

pub add_kind-requires-clause-line : goal.add_kind-requires-clause-line
add_kind-requires-clause-line c =
    let own = rw c.in_ok-pmu.ensures.ok_part at c.mask.ensures in
    let fresh = c.is_new_name.ensures.0 cc in
    record { name = c.requires.spelling.0; length = c.requires.spelling.1; free = fresh.0; mask = rw (own.1, own.2) own.0 }

pub add_kind-requires-clause-few : goal.add_kind-requires-clause-few
add_kind-requires-clause-few c = search rules
