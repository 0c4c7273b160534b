use Rattle.std.proofs.{Common.{rules, arith}, lemmas.{Grind.{common_steps}, List.{nil_from_length}}}
use Rattle.top_tests.proofs.watching.script_without_rings.Goals as goal

pub returns-then-is_empty : goal.returns-then-is_empty
returns-then-is_empty c = (search rules, grind (arith, common_steps, nil_from_length))
