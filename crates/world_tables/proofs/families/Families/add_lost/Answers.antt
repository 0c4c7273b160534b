use Rattle.std.proofs.Common.{arith, ap, length}
use Rattle.world_tables.{specs.Places.{Slot, Slots}, proofs.Parts.{put-copies, put-lost}}
use Rattle.world_tables.proofs.families.Families.add_lost.Goals as goal
use Rattle.world_spec.specs.Kept.{copies_in}

pub returns : goal.returns
returns c = rw c.add_lost.ensures (put-lost c.self.inside.rows.items c.args.self.now c.args.event.0 c.index_mut.result.now c.self.view_is c.index_mut.ensures.value c.requires.slot)

pub invariant_of-self : goal.invariant_of-self
invariant_of-self c =
    omega (
      arith,
      c.self.invariant,
      ap (λ (s : Slots). copies_in s.families) c.self.view_is,
      put-copies c.self.inside.rows.items c.args.self.now c.args.event.0 c.index_mut.result.now c.self.view_is c.index_mut.ensures.value c.requires.slot c.add_lost.new.self,
      ap (λ (s : Slot). length s.family.copies) c.add_lost.ensures,
    )
