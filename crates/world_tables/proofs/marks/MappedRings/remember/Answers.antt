use Rattle.std.{proofs.Common.{arith, ◌≡◌, ◌==◌, ◌<◌, ◌∙◌, false, List, subst, sym, vec_capacity}, specs.List.{list_any}}
use Rattle.perf_base.specs.declared.numbers.RingNo.{RingNo}
use Rattle.world_tables.proofs.Marked.{ring_more, ring_room}
use Rattle.world_tables.proofs.marks.MappedRings.remember.Goals as goal

pub push_reserved-requires : goal.push_reserved-requires
push_reserved-requires c =
    let none : list_any (λ r. r.0 == c.args.ring.0) c.args.self.now ≡ false = sym c.contains.ensures ∙ c.if-not-contains.true in
    let new : list_any (λ r. r.0 == c.args.ring.0) c.self.inside.rings.items ≡ false =
    subst (λ (rs : List RingNo). list_any (λ r. r.0 == c.args.ring.0) rs ≡ false) (sym c.self.view_is) none in
    let low : c.args.ring.0 < 256 = omega arith in
    omega (arith, c.self.inside.rings.ok.0, ring_room c.self.inside.rings.items c.args.ring (vec_capacity c.self.inside.rings) c.self.invariant low new)

pub invariant_of-self : goal.invariant_of-self
invariant_of-self c =
    let none : list_any (λ r. r.0 == c.args.ring.0) c.args.self.now ≡ false = sym c.contains.ensures ∙ c.if-not-contains.true in
    let new : list_any (λ r. r.0 == c.args.ring.0) c.self.inside.rings.items ≡ false =
    subst (λ (rs : List RingNo). list_any (λ r. r.0 == c.args.ring.0) rs ≡ false) (sym c.self.view_is) none in
    let low : c.args.ring.0 < 256 = omega arith in
    rw (c.push_reserved.ensures.items, c.push_reserved.ensures.capacity)
    (ring_more c.self.inside.rings.items c.args.ring (vec_capacity c.self.inside.rings) c.self.invariant low new)
