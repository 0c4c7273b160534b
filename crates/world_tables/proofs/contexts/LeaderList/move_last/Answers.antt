use Rattle.std.proofs.Common.{arith, ◌≡◌, [], ◌∷◌, List, ap, length, length-append, subst, sym}
use Rattle.perf_base.specs.declared.numbers.Key.{Key}
use Rattle.world_spec.specs.{Value.{times}, Changes.{all_but}}
use Rattle.world_tables.proofs.Listed.{times_contains, length_all_but}
use Rattle.world_tables.proofs.contexts.LeaderList.move_last.Goals as goal

pub move_last-requires : goal.move_last-requires
move_last-requires c =
    let at : times c.args.leader c.self.inside.groups.leaders ≡ 1 = subst (λ (l : List Key). times c.args.leader l ≡ 1) (sym c.self.view_is) c.requires in
    times_contains c.args.leader c.self.inside.groups.leaders at

pub invariant_of-self : goal.invariant_of-self
invariant_of-self c =
    let at : times c.args.leader c.self.inside.groups.leaders ≡ 1 = subst (λ (l : List Key). times c.args.leader l ≡ 1) (sym c.self.view_is) c.requires in
    omega (
      arith,
      c.self.invariant,
      at,
      length_all_but c.args.leader c.self.inside.groups.leaders,
      ap length c.move_last.ensures.leaders,
      length-append (all_but c.args.leader c.self.inside.groups.leaders) (c.args.leader ∷ []),
      c.move_last.ensures.spare,
    )
