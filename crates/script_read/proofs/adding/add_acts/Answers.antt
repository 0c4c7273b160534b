use Rattle.std.proofs.Common.{◌≡◌, true, refl, subst}
use Rattle.script_read.proofs.Acting.{IsAdding, adding_none, adding_fails, adding_more, all_added}
use Rattle.script_read.proofs.adding.add_acts.Goals as goal

pub loop-act-init : goal.loop-act-init
loop-act-init c = (adding_none _ _, c.requires.range)

pub is_act-requires : goal.is_act-requires
is_act-requires c = c.in-Some.ensures.1

pub returns-then-not-is_act-clause-bad : goal.returns-then-not-is_act-clause-bad
returns-then-not-is_act-clause-bad c = (
  refl,
  adding_fails _ _ _ _ _ (subst (IsAdding c.args.script.now c.loop-act.script c.args.acts) c.in-Some.ensures.0 c.loop-act.invariant.0) (λ named.
      let t = c.is_act.ensures.1 named in absurd cc),
)

pub loop-act-preserved : goal.loop-act-preserved
loop-act-preserved c =
    let t : c.is_act.result ≡ true = cc in (
      adding_more _ _ _ _ _ _ (subst (IsAdding c.args.script.now c.loop-act.script c.args.acts) c.in-Some.ensures.0 c.loop-act.invariant.0) (c.is_act.ensures.0 t) c.in_ok-add_act.ensures.ok,
      c.in-Some.ensures.2,
    )

pub returns-clause-ok : goal.returns-clause-ok
returns-clause-ok c = all_added _ _ _ (subst (IsAdding c.args.script.now c.loop-act.script c.args.acts) c.in_default.ensures c.loop-act.invariant.0)
