use Rattle.std.proofs.Common.{◌≡◌, sym, ap, subst, List}
use Rattle.perf_base.specs.declared.numbers.Key.{Key}
use Rattle.group_lists.{specs.Groups.{IsWithoutRepeats}, proofs.Leaders.{IsWithoutRepeats-push}}
use Rattle.group_lists.proofs.group_list.GroupList.push.Goals as goal

pub invariant_of-self : goal.invariant_of-self
invariant_of-self c =
    let P : List Key → Type 0 = IsWithoutRepeats in
    let same : c.self.inside.leaders.items ≡ c.args.self.now.leaders = ap (λ g. g.leaders) c.self.view_is in
    subst P (sym c.push_reserved.ensures.items) (IsWithoutRepeats-push _ _ c.self.invariant (rw same c.requires.new))
