use Rattle.std.proofs.Common.{arith, ap, length}
use Rattle.stage_spec.specs.Families.{plus}
use Rattle.world_tables.{specs.Places.{Slot, Slots}, proofs.Parts.{put-copies, put-folded}}
use Rattle.world_tables.proofs.families.Families.fold.Goals as goal
use Rattle.world_spec.specs.Kept.{copies_in}

pub returns : goal.returns
returns c = rw c.fold.ensures (put-folded c.self.inside.rows.items c.args.self.now c.args.event.0 c.index_mut.result.now c.self.view_is c.index_mut.ensures.value c.requires.slot (λ s. plus s c.args.sums))

pub invariant_of-self : goal.invariant_of-self
invariant_of-self c =
    omega (
      arith,
      c.self.invariant,
      ap (λ (s : Slots). copies_in s.families) c.self.view_is,
      put-copies c.self.inside.rows.items c.args.self.now c.args.event.0 c.index_mut.result.now c.self.view_is c.index_mut.ensures.value c.requires.slot c.fold.new.self,
      ap (λ (s : Slot). length s.family.copies) c.fold.ensures,
    )
