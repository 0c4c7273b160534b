use Rattle.std.{proofs.Common.{arith, ◌≡◌, ◌==◌, false, List, subst, sym, vec_capacity}, specs.List.{list_any}}
use Rattle.perf_base.specs.declared.numbers.EventNo.{EventNo}
use Rattle.world_tables.proofs.Marked.{slot_more, slot_room}
use Rattle.world_tables.proofs.marks.UsedSlots.insert.Goals as goal

pub push_reserved-requires : goal.push_reserved-requires
push_reserved-requires c =
    let new : list_any (λ e. e.0 == c.args.event.0) c.self.inside.slots.items ≡ false =
    subst (λ (es : List EventNo). list_any (λ e. e.0 == c.args.event.0) es ≡ false) (sym c.self.view_is) c.requires.new in
    omega (arith, c.self.inside.slots.ok.0, slot_room c.self.inside.slots.items c.args.event (vec_capacity c.self.inside.slots) c.self.invariant c.requires.slot new)

pub invariant_of-self : goal.invariant_of-self
invariant_of-self c =
    let new : list_any (λ e. e.0 == c.args.event.0) c.self.inside.slots.items ≡ false =
    subst (λ (es : List EventNo). list_any (λ e. e.0 == c.args.event.0) es ≡ false) (sym c.self.view_is) c.requires.new in
    rw (c.push_reserved.ensures.items, c.push_reserved.ensures.capacity)
    (slot_more c.self.inside.slots.items c.args.event (vec_capacity c.self.inside.slots) c.self.invariant c.requires.slot new)
