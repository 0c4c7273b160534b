use Rattle.std.proofs.Common.{arith, ap, length}
use Rattle.world_tables.{specs.Places.{Slot, Slots}, proofs.Parts.{put-copies, put-family}}
use Rattle.world_tables.proofs.families.Families.set_original.Goals as goal
use Rattle.world_spec.specs.Kept.{copies_in}

pub returns : goal.returns
returns c = rw c.set_original.ensures (put-family c.self.inside.rows.items c.args.self.now c.args.event.0 c.index_mut.result.now c.self.view_is c.index_mut.ensures.value c.requires (λ f. record f { original = c.args.original }))

pub invariant_of-self : goal.invariant_of-self
invariant_of-self c =
    omega (
      arith,
      c.self.invariant,
      ap (λ (s : Slots). copies_in s.families) c.self.view_is,
      put-copies c.self.inside.rows.items c.args.self.now c.args.event.0 c.index_mut.result.now c.self.view_is c.index_mut.ensures.value c.requires c.set_original.new.self,
      ap (λ (s : Slot). length s.family.copies) c.set_original.ensures,
    )
