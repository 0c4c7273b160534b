use Rattle.std.proofs.{Common.{◌≡◌, ◌∙◌, true, All, ap, sym, subst}, lemmas.List.{take_all}}
use Rattle.cpu_sched.{specs.declared.group_brief.GroupBrief.{GroupBrief as Stored}, proofs.Turned.{at-any, goes-at, goes-nowhere, software-next}}
use Rattle.cpu_sched.proofs.brief.first_hardware.Goals as goal

pub returns-then-not-groups-place-clause-some : goal.returns-then-not-groups-place-clause-some
returns-then-not-groups-place-clause-some c = (
  c.loop-place-test.true,
  λ d. sym (goes-at c.args.groups.now c.loop-place.place d c.loop-place-test.true c.loop-place.invariant
      (ap (λ (g : Stored). g.software) (at-any c.args.groups.now c.loop-place.place d c.index-groups-place.result c.loop-place-test.true) ∙ c.if-not-groups-place.true)),
)

pub loop-place-preserved : goal.loop-place-preserved
loop-place-preserved c =
    software-next c.args.groups.now c.loop-place.place c.index-groups-place.result c.loop-place-test.true c.loop-place.invariant
    c.if-not-groups-place.false

pub returns-clause-none : goal.returns-clause-none
returns-clause-none c =
    goes-nowhere c.args.groups.now (subst (All (λ (g : Stored). g.software ≡ true)) (take_all c.loop-place.place c.args.groups.now c.loop-place-test.false) c.loop-place.invariant)
