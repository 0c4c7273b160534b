use Rattle.std.proofs.Common.{length}
use Rattle.line_forms.specs.Forms.{version_of}
use Rattle.given_lines.specs.Passing.{IsPassed}
use Rattle.given_lines.proofs.heads.first_undeclared.Given as goal

abbrev pub invariant-loop-line : goal.invariant-loop-line
invariant-loop-line l = IsPassed (version_of l.version) l.text l.passed l.rest

abbrev pub decreases-loop-line : goal.decreases-loop-line
decreases-loop-line l = length l.rest
