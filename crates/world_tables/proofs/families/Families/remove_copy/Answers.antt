use Rattle.std.proofs.{Common.{arith, ap, length, ◌≡◌, ◌≤◌, slice_index_or, subst}, lemmas.List.Sums.{get_or-le-sum_by}}
use Rattle.world_spec.specs.{Value.{times, no_family}, Changes.{all_but}, Kept.{copies_in}}
use Rattle.world_tables.{specs.Places.{Slot, Slots}, proofs.{Listed.{length_all_but}, Parts.{put-family, put-copies, part-at, slots-low}}}
use Rattle.world_tables.proofs.families.Families.remove_copy.Goals as goal

pub returns : goal.returns
returns c = rw c.remove_copy.ensures (put-family c.self.inside.rows.items c.args.self.now c.args.event.0 c.index_mut.result.now c.self.view_is c.index_mut.ensures.value c.requires.slot (λ f. record f { copies = all_but c.args.copy f.copies }))

pub overflow_sub-self : goal.overflow_sub-self
overflow_sub-self c =
    let some : 1 ≤ length (slice_index_or c.args.self.now.families c.args.event.0 no_family).copies =
    omega (arith, c.requires.there, length_all_but c.args.copy (slice_index_or c.args.self.now.families c.args.event.0 no_family).copies) in
    omega (
      arith,
      some,
      c.self.invariant,
      ap (λ (s : Slots). copies_in s.families) c.self.view_is,
      get_or-le-sum_by (λ f. length f.copies) c.args.self.now.families c.args.event.0 no_family c.requires.slot,
    )

pub invariant_of-self : goal.invariant_of-self
invariant_of-self c =
    let here = part-at (λ p. p.family) c.self.inside.rows.items c.args.event.0 c.index_mut.result.now c.args.self.now.families no_family (ap (λ p. p.families) c.self.view_is) c.index_mut.ensures.value
    (slots-low c.self.inside.rows.items c.args.self.now c.args.event.0 c.self.view_is c.requires.slot) in
    let one : times c.args.copy c.index_mut.result.now.family.copies ≡ 1 = subst (λ f. times c.args.copy f.copies ≡ 1) here c.requires.there in
    omega (
      arith,
      c.self.invariant,
      one,
      ap (λ (s : Slots). copies_in s.families) c.self.view_is,
      put-copies c.self.inside.rows.items c.args.self.now c.args.event.0 c.index_mut.result.now c.self.view_is c.index_mut.ensures.value c.requires.slot c.remove_copy.new.self,
      length_all_but c.args.copy c.index_mut.result.now.family.copies,
      ap (λ (s : Slot). length s.family.copies) c.remove_copy.ensures,
    )
