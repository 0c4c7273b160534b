use Rattle.std.proofs.{Common.{◌≡◌, List, length, ap, sym, rules, subst, arith, Contains}, lemmas.Fn.{filter_same}}
use Rattle.perf_base.specs.declared.numbers.Key.{Key}
use Rattle.group_lists.{specs.Groups.{IsWithoutRepeats, without}, proofs.Leaders.{IsWithoutRepeats-without, length-without}}
use Rattle.group_lists.proofs.group_list.GroupList.remove.Goals as goal

pub returns-clause-leaders : goal.returns-clause-leaders
returns-clause-leaders c = rw (← c.self.view_is) (filter_same _ _ _ (λ x b f' k. search rules) _ _ c.retain.ensures.filtered)

pub invariant_of-self : goal.invariant_of-self
invariant_of-self c =
    let kept : c.retain.new.self.items ≡ without c.args.leader c.self.inside.leaders.items =
    filter_same _ _ _ (λ x b f' k. search rules) _ _ c.retain.ensures.filtered in
    let P : List Key → Type 0 = IsWithoutRepeats in
    subst P (sym kept) (IsWithoutRepeats-without _ _ c.self.invariant)

pub returns-clause-spare : goal.returns-clause-spare
returns-clause-spare c =
    let kept : c.retain.new.self.items ≡ without c.args.leader c.self.inside.leaders.items =
    filter_same _ _ _ (λ x b f' k. search rules) _ _ c.retain.ensures.filtered in
    let there : Contains c.self.inside.leaders.items c.args.leader =
    let same : c.self.inside.leaders.items ≡ c.args.self.now.leaders = ap (λ g. g.leaders) c.self.view_is in
    rw same c.requires in
    omega (arith, c.retain.new.self.ok.0, c.self.inside.leaders.ok.0, c.self.inside.leaders.ok.1, ap length kept, c.retain.ensures.capacity, ap (λ g. g.spare) c.self.view_is, length-without c.args.leader c.self.inside.leaders.items c.self.invariant there)
