use Rattle.line_forms.specs.Forms.{version_of}
use Rattle.given_lines.proofs.Passed.{none_passed, one_more_passed, first_at, all_passed}
use Rattle.given_lines.proofs.heads.first_undeclared.Goals as goal

pub loop-line-init : goal.loop-line-init
loop-line-init c = none_passed (version_of c.args.version) c.args.text.now

pub loop-line-preserved : goal.loop-line-preserved
loop-line-preserved c =
    one_more_passed (version_of c.args.version) c.args.text.now c.loop-line.passed c.loop-line.rest.now c.in-Some.line.now c.in-Some.more.now c.loop-line.invariant c.in-Some.ensures
    (λ u. let t = c.is_undeclared.ensures.1 u in absurd cc)

pub returns-then-is_undeclared : goal.returns-then-is_undeclared
returns-then-is_undeclared c =
    first_at (version_of c.args.version) c.args.text.now c.loop-line.passed c.loop-line.rest.now c.in-Some.line.now c.in-Some.more.now c.loop-line.invariant c.in-Some.ensures
    c.requires.version (c.is_undeclared.ensures.0 c.if-is_undeclared.true)

pub returns : goal.returns
returns c = all_passed (version_of c.args.version) c.args.text.now c.loop-line.passed c.loop-line.rest.now c.requires.version c.loop-line.invariant c.in_default.ensures
