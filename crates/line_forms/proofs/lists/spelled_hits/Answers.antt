use Rattle.std.proofs.Common.{sym, ◌∙◌}
use Rattle.line_forms.{specs.{Lists.{hit_in}}, proofs.{Loops.{each_step, whole_given}, Fronts.{hit_parts, hits_stuck, hits_end}}}
use Rattle.line_forms.proofs.lists.spelled_hits.Goals as goal

pub returns-in_err-end : goal.returns-in_err-end
returns-in_err-end c = c.from_residual.ensures ∙ hits_stuck _ _ _ c.in_default.ensures c.in_err-end.ensures c.loop-more.invariant.1

pub loop-more-preserved : goal.loop-more-preserved
loop-more-preserved c =
    let next = hit_parts _ _ _ c.in-Some.ensures in
    (_, each_step hit_in _ _ _ _ _ _ next.1 next.2 c.loop-more.invariant.1)

pub invariant_of-result : goal.invariant_of-result
invariant_of-result c = whole_given hit_in _ _ (hits_end _ _ _ c.in_ok-end.ensures c.loop-more.invariant.1)

pub returns : goal.returns
returns c = sym (whole_given hit_in _ _ (hits_end _ _ _ c.in_ok-end.ensures c.loop-more.invariant.1))
