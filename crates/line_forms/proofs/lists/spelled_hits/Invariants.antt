use Rattle.std.proofs.Common.{◌≡◌, List, length}
use Rattle.script_spec.specs.Forms.{Hit}
use Rattle.line_forms.{specs.{Words.{left}, Lists.{each_word, hit_in}}, proofs.Loops.{with_front}}
use Rattle.line_forms.proofs.lists.spelled_hits.Given as goal

-- the occurrences before the words that are left
abbrev pub invariant-loop-more : goal.invariant-loop-more
invariant-loop-more l = (front : List Hit) × (with_front front (each_word hit_in (left l.rest)) ≡ each_word hit_in (left l.words))

abbrev pub decreases-loop-more : goal.decreases-loop-more
decreases-loop-more l = length (left l.rest)
