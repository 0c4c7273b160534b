use Rattle.std.{proofs.Common.{◌↔◌, IsTrue, All, sym, subst, ◌∙◌}}
use Rattle.script_spec.specs.Acts.{IsActInRange}
use Rattle.line_forms.{specs.{Acts.{act_in}}, proofs.Loops.{each_step, each_fail, each_end, whole_given, all_given, last_decides, not_all}}
use Rattle.line_forms.proofs.acts.order_acts.Goals as goal

pub returns-in_err-is_in_range : goal.returns-in_err-is_in_range
returns-in_err-is_in_range c = c.from_residual.ensures ∙ each_fail act_in _ _ _ _ _ c.in-Some.ensures c.in_err-is_in_range.ensures c.loop-word.invariant.1

pub loop-word-preserved-then-are_in_range : goal.loop-word-preserved-then-are_in_range
loop-word-preserved-then-are_in_range c = (
  _,
  each_step act_in _ _ _ _ _ _ c.in-Some.ensures c.in_ok-is_in_range.ensures.1 c.loop-word.invariant.1,
  last_decides IsActInRange _ _ c.loop-word.are_in_range _ c.if-are_in_range.true c.loop-word.invariant.2 c.in_ok-is_in_range.ensures.2,
)

pub loop-word-preserved : goal.loop-word-preserved
loop-word-preserved c = (
  _,
  each_step act_in _ _ _ _ _ _ c.in-Some.ensures c.in_ok-is_in_range.ensures.1 c.loop-word.invariant.1,
  not_all IsActInRange _ _ c.loop-word.are_in_range c.if-are_in_range.false c.loop-word.invariant.2,
)

pub invariant_of-result : goal.invariant_of-result
invariant_of-result c =
    let whole = each_end act_in _ _ _ c.in_default.ensures c.loop-word.invariant.1 in
    (whole_given act_in _ _ whole, subst (λ acts. IsTrue c.loop-word.are_in_range ↔ All IsActInRange acts) (sym (all_given act_in _ _ whole)) c.loop-word.invariant.2)

pub returns : goal.returns
returns c =
    let whole = each_end act_in _ _ _ c.in_default.ensures c.loop-word.invariant.1 in
    sym (whole_given act_in _ _ whole)
