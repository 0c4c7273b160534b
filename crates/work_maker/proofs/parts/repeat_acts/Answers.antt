use Rattle.std.proofs.{Common.{◌≡◌, All, sym, ap, subst, arith, ◌∙◌}, lemmas.List.Elements.{All-weaker}}
use Rattle.perf_base.specs.Scripts.{IsAct}
use Rattle.work_maker.{specs.Rounds.{for_each_all}, proofs.ForEach.{for_each_all-more}}
use Rattle.work_maker.{specs.Building.{with_acts}, proofs.States.{acts-none, acts-more, IsAct-acts}}
use Rattle.work_maker.proofs.parts.repeat_acts.Goals as goal

pub loop-time-init : goal.loop-time-init
loop-time-init c = sym (acts-none c.args.script.now)

pub add_acts-requires : goal.add_acts-requires
add_acts-requires c =
    let s = c.args.script.now in
    let acts = c.args.acts.now in
    let added = for_each_all c.loop-time._time (λ time. acts) in
    subst (λ t. All (IsAct t) acts) (sym c.loop-time.invariant) (All-weaker (IsAct s) (IsAct (with_acts s added)) (IsAct-acts s added) acts c.requires)

pub loop-time-preserved : goal.loop-time-preserved
loop-time-preserved c =
    let s = c.args.script.now in
    let acts = c.args.acts.now in
    let k = c.loop-time._time in
    c.in_ok-add_acts.ensures
    ∙ ap (λ t. with_acts t acts) c.loop-time.invariant
    ∙ acts-more s (for_each_all k (λ time. acts)) acts
    ∙ ap (with_acts s) (sym (for_each_all-more (λ time. acts) k))

pub returns : goal.returns
returns c =
    let all : c.loop-time._time ≡ c.args.times = omega arith in
    c.loop-time.invariant ∙ ap (λ k. with_acts c.args.script.now (for_each_all k (λ time. c.args.acts.now))) all
