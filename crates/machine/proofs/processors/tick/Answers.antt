use Rattle.std.{specs.{Prelude.{◌<◌}, Option.{option_copied}}, proofs.Common.{arith, ap, refl, ◌∙◌}}
use Rattle.perf_base.specs.declared.lines.CpuLine.TheVariants as line
use Rattle.world_spec.specs.Value.{World}
use Rattle.machine.proofs.{Counting.{counted-by}, Foreseen.{tick-foreseen}, Ticking.{only-lists, tick-done, tick-ready}}
use Rattle.machine.proofs.processors.tick.Goals as goal

pub returns-clause-ready : goal.returns-clause-ready
returns-clause-ready g c =
    tick-ready c.args.world.now c.rotate.new.world c.resched_with.new.world c.args.cpu (record {
      kept = c.use_invariant.ensures;
      ready = c.requires.ready;
      low = c.requires.cpu;
      world = c.rotate.ensures.world;
      stage = c.rotate.ensures.stage;
      settled = c.resched_with.ensures.stage;
      rest = c.resched_with.ensures.rest;
      kept_then = c.use_invariant-2.ensures;
    }) c.resched_with.ensures.rescheduled c.rotate.ensures.others c.resched_with.ensures.others

pub returns-clause-done : goal.returns-clause-done
returns-clause-done g c = tick-done c.args.world.now c.rotate.new.world c.resched_with.new.world c.args.cpu (record {
  kept = c.use_invariant.ensures;
  ready = c.requires.ready;
  low = c.requires.cpu;
  world = c.rotate.ensures.world;
  stage = c.rotate.ensures.stage;
  settled = c.resched_with.ensures.stage;
  rest = c.resched_with.ensures.rest;
  kept_then = c.use_invariant-2.ensures;
})

pub returns-clause-counted : goal.returns-clause-counted
returns-clause-counted g c =
    let w : World = c.args.world.now in
    let v : World = c.rotate.new.world in
    let low : c.args.cpu.0 < 8 = omega (arith, c.requires.cpu, c.requires.ready.machine.sound.cpus.1, c.requires.ready.machine.cpus) in
    counted-by (option_copied c.args.sheet) w v c.resched_with.new.world c.args.cpu line.Tick c.args.tests.now c.resched_with.new.tests c.requires.cpu refl refl (λ other. refl)
    (ap (λ (y : World). y.hardware) (only-lists c.args.cpu w v c.rotate.ensures.world)) c.rotate.ensures.stage
    (tick-foreseen w v c.args.cpu c.use_invariant.ensures low c.rotate.ensures.world) c.resched_with.ensures.counted

pub returns-clause-totals : goal.returns-clause-totals
returns-clause-totals g c =
    ap (λ (y : World). y.quiet.totals) c.resched_with.ensures.rest.world
    ∙ ap (λ (y : World). y.quiet.totals) (only-lists c.args.cpu c.args.world.now c.rotate.new.world c.rotate.ensures.world)
