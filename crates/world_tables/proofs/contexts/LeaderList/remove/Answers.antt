use Rattle.std.proofs.Common.{arith, ◌≡◌, List, ap, length, subst, sym}
use Rattle.perf_base.specs.declared.numbers.Key.{Key}
use Rattle.world_spec.specs.Value.{times}
use Rattle.world_tables.proofs.Listed.{times_contains, length_all_but}
use Rattle.world_tables.proofs.contexts.LeaderList.remove.Goals as goal

pub remove-requires : goal.remove-requires
remove-requires c =
    let at : times c.args.leader c.self.inside.groups.leaders ≡ 1 = subst (λ (l : List Key). times c.args.leader l ≡ 1) (sym c.self.view_is) c.requires in
    times_contains c.args.leader c.self.inside.groups.leaders at

pub invariant_of-self : goal.invariant_of-self
invariant_of-self c =
    let at : times c.args.leader c.self.inside.groups.leaders ≡ 1 = subst (λ (l : List Key). times c.args.leader l ≡ 1) (sym c.self.view_is) c.requires in
    omega (arith, c.self.invariant, at, length_all_but c.args.leader c.self.inside.groups.leaders, ap length c.remove.ensures.leaders, c.remove.ensures.spare)
