use Rattle.std.proofs.Common.{arith, ◌∙◌, ap, sym, length, get_or, ◌++◌, ◌∷◌, []}
use Rattle.counter_match.proofs.Listing.{zip-more, length-zip_slots}
use Rattle.counter_match.proofs.seating.Seating.list.Goals as goal

pub push-requires : goal.push-requires
push-requires c = omega (arith, ap length c.loop-place.invariant, length-zip_slots c.args.self.now.events c.args.self.now.seats c.loop-place.place)

pub loop-place-preserved : goal.loop-place-preserved
loop-place-preserved c =
    c.push.ensures ∙ (ap (λ xs. xs ++ ((get_or c.args.self.now.events c.loop-place.place (record { 0 = 0 }, 0)).0, get_or c.args.self.now.seats c.loop-place.place 0) ∷ []) c.loop-place.invariant
    ∙ sym (zip-more c.args.self.now.events c.args.self.now.seats c.loop-place.place (record { 0 = 0 }, 0) (omega arith) (omega arith)))
