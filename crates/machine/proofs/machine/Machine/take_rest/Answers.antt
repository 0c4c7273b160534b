use Rattle.std.{specs.Prelude.{ℕ, ◌<◌, ◌≤◌, All, List, length, slice_index_or, take}, proofs.Common.{arith, refl, sym, ap, subst, ◌∙◌}}
use Rattle.std.proofs.lemmas.List.{get_or_default, take_all, Elements.{All-more}}
use Rattle.perf_base.specs.{declared.numbers.RingNo.{RingNo}, Scripts.{Scripted}}
use Rattle.machine.{specs.Readers.{HasTaken}, proofs.{Rest.{behind-trails}, Unlawful.{ring-there}}}
use Rattle.machine.proofs.machine.Machine.take_rest.Goals as goal

abbrev no_ring : RingNo × ℕ
no_ring = (record { 0 = 0 }, 0)

pub loop-ring-init : goal.loop-ring-init
loop-ring-init c = record {
  led = λ acts led. led;
  taken = λ acts led k d low. absurd (omega (arith, low));
  world = refl;
  together = c.requires.together;
  trailing = behind-trails c.args.script.now c.requires.script.0 c.args.self.now c.args.ins.now c.rings-ring-items.ensures.sound c.requires.covered c.requires.script.1 c.requires.behind;
}

pub take_ring-requires-clause-ring : goal.take_ring-requires-clause-ring
take_ring-requires-clause-ring c =
    let s : Scripted = c.args.script.now in
    let k : ℕ = c.loop-ring.ring-index in
    let low : k < length s.rings = omega (arith, c.loop-ring-test.true, ap length c.rings-ring-items.ensures.rings) in
    let ring : RingNo × ℕ = slice_index_or c.rings-ring-items.result.now k no_ring in
    ring-there s c.loop-ring.self ring.0 (c.requires.script.0, c.loop-ring.invariant.led c.requires.script.0 c.requires.script.1)
    (k, ring, low, get_or_default s.rings k ring no_ring low ∙ ap (λ rings. slice_index_or rings k no_ring) (sym c.rings-ring-items.ensures.rings), refl)

pub loop-ring-preserved : goal.loop-ring-preserved
loop-ring-preserved c =
    let s : Scripted = c.args.script.now in
    let k : ℕ = c.loop-ring.ring-index in
    let low : k < length s.rings = omega (arith, c.loop-ring-test.true, ap length c.rings-ring-items.ensures.rings) in
    record {
      led = λ acts led. c.take_ring.ensures.led s acts (c.loop-ring.invariant.led acts led);
      taken = λ acts led.
          All-more (λ r. HasTaken s acts c.take_ring.new.ins r.0) s.rings k no_ring low
          (λ j d earlier.
          c.take_ring.ensures.others s acts (slice_index_or (take k s.rings) j d).0 (c.loop-ring.invariant.led acts led) (c.loop-ring.invariant.taken acts led j d earlier))
          (subst (λ (rings : List (RingNo × ℕ)). HasTaken s acts c.take_ring.new.ins (slice_index_or rings k no_ring).0) c.rings-ring-items.ensures.rings
          (c.take_ring.ensures.taken s acts (c.loop-ring.invariant.led acts led)));
      world = c.take_ring.ensures.world ∙ c.loop-ring.invariant.world;
      together = c.take_ring.ensures.together;
      trailing = c.take_ring.ensures.trailing;
    }

pub returns-clause-taken : goal.returns-clause-taken
returns-clause-taken c = λ acts led.
    let s : Scripted = c.args.script.now in
    let all : length s.rings ≤ c.loop-ring.ring-index = omega (arith, c.loop-ring-test.false, ap length c.rings-ring-items.ensures.rings) in
    subst (All (λ r. HasTaken s acts c.loop-ring.ins r.0)) (take_all c.loop-ring.ring-index s.rings all) (c.loop-ring.invariant.taken acts led)
