use Rattle.std.specs.Prelude.{◌≡◌, ℕ, ◌*◌, ◌<◌, List, length, map, option_map, Option, Some, None, slice_get}
use Rattle.std.proofs.{Common.{arith, ap, get_or, subst, sym, ◌∙◌}, lemmas.Option.{none-some, same_Some, slice_get-map}}
use Rattle.perf_base.specs.{declared.numbers.RingNo.{RingNo}, Scripts.{IsRingSize, IsScript}, Weight.{weight}}
use Rattle.ring_words.specs.Ends.{Ring}
use Rattle.sample_ring.specs.{InEnds.{InEnd, new_in}, RingLists.{AreNew}}
use Rattle.work_account.specs.Ends.{AreTogether}
use Rattle.machine.{specs.Readers.{AreFollowing}, proofs.New.{new-accounts, new-following, new-together}}
use Rattle.perf_top.proofs.ready.take_parts.Goals as goal

pub make_rings-requires : goal.make_rings-requires
make_rings-requires c = λ k d low.
    subst (λ (rings : List (RingNo × ℕ)). IsRingSize (get_or rings k d).1) (sym c.rings.ensures.rings)
    (c.rings.ensures.sound.rings k d (subst (λ (rings : List (RingNo × ℕ)). k < length rings) c.rings.ensures.rings low)).1

pub new-requires-clause-ends : goal.new-requires-clause-ends
new-requires-clause-ends c =
    let script : IsScript c.args.script = subst IsScript c.script.view_is c.script.invariant in
    let new : AreNew c.args.script.rings (18 * c.weight.result) c.in_ok-rings.rings c.in_ok-rings.outs c.in_ok-rings.ins =
    subst (λ sizes. AreNew sizes (18 * c.weight.result) c.in_ok-rings.rings c.in_ok-rings.outs c.in_ok-rings.ins)
    c.rings.ensures.rings c.in_ok-rings.ensures in
    new-accounts c.args.script (18 * c.weight.result) c.in_ok-rings.rings c.in_ok-rings.outs c.in_ok-rings.ins script new

pub returns-clause-together : goal.returns-clause-together
returns-clause-together c =
    let new : AreNew c.args.script.rings (18 * c.weight.result) c.in_ok-rings.rings c.in_ok-rings.outs c.in_ok-rings.ins =
    subst (λ sizes. AreNew sizes (18 * c.weight.result) c.in_ok-rings.rings c.in_ok-rings.outs c.in_ok-rings.ins)
    c.rings.ensures.rings c.in_ok-rings.ensures in
    subst (AreTogether c.in_ok-rings.rings) (sym c.in_ok-new.ensures.outs) (new-together c.args.script (18 * c.weight.result) c.in_ok-rings.rings c.in_ok-rings.outs c.in_ok-rings.ins new)

pub returns-clause-following : goal.returns-clause-following
returns-clause-following c =
    let new : AreNew c.args.script.rings (18 * c.weight.result) c.in_ok-rings.rings c.in_ok-rings.outs c.in_ok-rings.ins =
    subst (λ sizes. AreNew sizes (18 * c.weight.result) c.in_ok-rings.rings c.in_ok-rings.outs c.in_ok-rings.ins)
    c.rings.ensures.rings c.in_ok-rings.ensures in
    subst (λ outs. AreFollowing (9 * weight c.args.script) outs c.in_ok-rings.ins) (sym c.in_ok-new.ensures.outs)
    (new-following c.args.script (9 * weight c.args.script) (18 * c.weight.result) c.in_ok-rings.rings c.in_ok-rings.outs c.in_ok-rings.ins (omega (arith, c.weight.ensures)) new)

-- a reader of those that were just made
unread-at : (tables : List Ring) (words place : ℕ) (i : InEnd) → slice_get (map (λ (t : Ring). Some (new_in t words)) tables) place ≡ Some (Some i) → (i.records ≡ 0) × (i.consumer.released ≡ 0)
unread-at tables words place i at = one (slice_get tables place) (sym (slice_get-map (λ (t : Ring). Some (new_in t words)) tables place) ∙ at)
  where
    one : (found : Option Ring) → option_map (λ (t : Ring). Some (new_in t words)) found ≡ Some (Some i) → (i.records ≡ 0) × (i.consumer.released ≡ 0)
    one None e = absurd (none-some (Some i) e)
    one (Some t) e =
        let is : new_in t words ≡ i = same_Some (new_in t words) i (same_Some (Some (new_in t words)) (Some i) e) in
        (sym (ap (λ (x : InEnd). x.records) is), sym (ap (λ (x : InEnd). x.consumer.released) is))

pub returns-clause-unread : goal.returns-clause-unread
returns-clause-unread c = λ place i at.
    unread-at c.in_ok-rings.rings.tables (18 * c.weight.result) place i (ap (λ readers. slice_get readers place) (sym c.in_ok-rings.ensures.new_readers) ∙ at)
