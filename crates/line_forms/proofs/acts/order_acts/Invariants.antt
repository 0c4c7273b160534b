use Rattle.std.{proofs.Common.{◌≡◌, ◌↔◌, IsTrue, All, List, length}}
use Rattle.perf_base.specs.declared.acts.Act.{Act}
use Rattle.script_spec.specs.Acts.{IsActInRange}
use Rattle.line_forms.{specs.{Words.{left}, Lists.{each_word}, Acts.{act_in}}, proofs.Loops.{with_front}}
use Rattle.line_forms.proofs.acts.order_acts.Given as goal

-- the acts before the words that are left
abbrev pub invariant-loop-word : goal.invariant-loop-word
invariant-loop-word l = (front : List Act) × (with_front front (each_word act_in (left l.rest)) ≡ each_word act_in (left l.words)) × (IsTrue l.are_in_range ↔ All IsActInRange front)

abbrev pub decreases-loop-word : goal.decreases-loop-word
decreases-loop-word l = length (left l.rest)
