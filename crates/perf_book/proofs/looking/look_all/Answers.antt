use Rattle.std.{specs.Prelude.{ℕ, ◌+◌, ◌<◌, List, length, slice_index_or, slice_set}, proofs.Common.{arith, refl, ap, subst, ◌∙◌}}
use Rattle.perf_base.specs.{declared.acts.Act.{Act}, Scripts.{Scripted}}
use Rattle.machine.specs.Readers.{loads_of}
use Rattle.perf_book.proofs.{Loads.{each-more, one-more}, Looked.{IsNext, looked-next, looked-none}, Visits.{kth-place, kth-there, loads-of-rings}}
use Rattle.perf_book.proofs.looking.look_all.Goals as goal

pub loop-ring-init : goal.loop-ring-init
loop-ring-init c = record {
  led = c.requires.led;
  looked = looked-none c.args.script.now.rings c.args.order.now.items;
  loads = refl;
  together = c.requires.together;
  world = refl;
  filled = omega arith;
  capacity = refl;
}

pub look_at-requires-clause-ring : goal.look_at-requires-clause-ring
look_at-requires-clause-ring c =
    kth-there c.args.script.now c.loop-ring.order.items c.loop-ring.machine c.rings-ring-items.result.now c.loop-ring.ring-index c.rings-ring-items.ensures.sound
    c.loop-ring.invariant.led c.rings-ring-items.ensures.rings c.loop-ring-test.true

pub loop-ring-preserved : goal.loop-ring-preserved
loop-ring-preserved c =
    let s : Scripted = c.args.script.now in
    let k : ℕ = c.loop-ring.ring-index in
    let before : List Act = c.args.order.now.items in
    let now : List Act = c.loop-ring.order.items in
    let low : k < length s.rings = omega (arith, c.loop-ring-test.true, ap length c.rings-ring-items.ensures.rings) in
    let place = kth-place s now c.loop-ring.machine c.rings-ring-items.result.now k c.rings-ring-items.ensures.sound c.loop-ring.invariant.led c.rings-ring-items.ensures.rings c.loop-ring-test.true in
    record {
      led = c.look_at.ensures.led s c.loop-ring.invariant.led;
      looked = looked-next s.rings k before now c.look_at.new.order.items c.rings-ring-items.ensures.sound.rings_rise c.loop-ring.invariant.looked low
          (subst (λ rings. IsNext rings k now c.look_at.new.order.items) c.rings-ring-items.ensures.rings (c.look_at.ensures.looked s c.loop-ring.invariant.led));
      loads = one-more (loads_of c.args.machine.now.outs) (loads_of c.loop-ring.machine.outs) (loads_of c.look_at.new.machine.outs) k
          (omega (arith, low, loads-of-rings s before c.args.machine.now c.requires.led)) c.loop-ring.invariant.loads
          (c.look_at.ensures.loads ∙ ap (λ n. slice_set (loads_of c.loop-ring.machine.outs) n (slice_index_or (loads_of c.loop-ring.machine.outs) n 0 + 1)) place);
      together = c.look_at.ensures.together;
      world = c.look_at.ensures.world ∙ c.loop-ring.invariant.world;
      filled = omega (arith, c.look_at.ensures.filled, c.loop-ring.invariant.filled);
      capacity = c.look_at.ensures.capacity ∙ c.loop-ring.invariant.capacity;
    }

pub returns-clause-loads : goal.returns-clause-loads
returns-clause-loads c =
    each-more (loads_of c.args.machine.now.outs) (loads_of c.loop-ring.machine.outs) c.loop-ring.ring-index
    (omega (arith, c.loop-ring-test.false, ap length c.rings-ring-items.ensures.rings, loads-of-rings c.args.script.now c.args.order.now.items c.args.machine.now c.requires.led))
    c.loop-ring.invariant.loads
