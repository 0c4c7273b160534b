use Rattle.std.proofs.Common.{arith, refl, [], ◌∷◌}
use Rattle.perf_base.specs.declared.acts.Act.TheVariants as act
use Rattle.top_tests.{specs.LateOpen.{tool}, proofs.LateOpens.{cpu-has, tool-has}}
use Rattle.top_tests.proofs.late_open_tests.open_two.Goals as goal

pub next_line-requires-clause-line : goal.next_line-requires-clause-line
next_line-requires-clause-line g c = tool-has [] c.args.machine.now 0 c.requires.led refl (omega arith)

pub next_line-requires-2-clause-line : goal.next_line-requires-2-clause-line
next_line-requires-2-clause-line g c = tool-has (act.Tool tool ∷ []) c.next_line.new.machine 1 (c.next_line.ensures.led [] c.requires.led) refl (omega arith)

pub next_line-requires-3-clause-line : goal.next_line-requires-3-clause-line
next_line-requires-3-clause-line g c =
    cpu-has (act.Tool tool ∷ act.Tool tool ∷ []) c.next_line-2.new.machine 0 (c.next_line-2.ensures.led (act.Tool tool ∷ []) (c.next_line.ensures.led [] c.requires.led)) refl (omega arith)
