use Rattle.std.proofs.Common.{arith, ap, length, length-append, [], ◌∷◌, ◌++◌}
use Rattle.world_tables.{specs.Places.{Slot, Slots}, proofs.Parts.{put-copies, put-family}}
use Rattle.world_tables.proofs.families.Families.push_copy.Goals as goal
use Rattle.world_spec.specs.Kept.{copies_in}

pub returns : goal.returns
returns c = rw c.push_copy.ensures (put-family c.self.inside.rows.items c.args.self.now c.args.event.0 c.index_mut.result.now c.self.view_is c.index_mut.ensures.value c.requires.slot (λ f. record f { copies = f.copies ++ c.args.copy ∷ [] }))

pub invariant_of-self : goal.invariant_of-self
invariant_of-self c =
    omega (
      arith,
      c.self.invariant,
      ap (λ (s : Slots). copies_in s.families) c.self.view_is,
      put-copies c.self.inside.rows.items c.args.self.now c.args.event.0 c.index_mut.result.now c.self.view_is c.index_mut.ensures.value c.requires.slot c.push_copy.new.self,
      ap (λ (s : Slot). length s.family.copies) c.push_copy.ensures,
      length-append c.index_mut.result.now.family.copies (c.args.copy ∷ []),
    )
