use Rattle.std.{specs.{Prelude.{◌<◌}, Option.{option_copied}}, proofs.Common.{arith, refl, ap, ◌∙◌}}
use Rattle.perf_base.specs.declared.lines.CpuLine.TheVariants as line
use Rattle.world_spec.specs.Value.{World}
use Rattle.machine.proofs.{Counting.{counted-by, refused-cpu_counted}, Exits.{exit-done, exit-ready, exit-size}, Foreseen.{exit-foreseen}}
use Rattle.machine.proofs.Refused.{refused-cpu}
use Rattle.machine.proofs.processors.exit.Goals as goal

pub returns-in-Err-clause-done : goal.returns-in-Err-clause-done
returns-in-Err-clause-done g c =
    refused-cpu c.args.world.now c.exit.new.world c.args.cpu line.Exit c.in-Err.reason c.use_invariant.ensures c.in-Err.ensures.same c.in-Err.ensures.refused

pub resched_with-requires : goal.resched_with-requires
resched_with-requires g c = omega (arith, c.requires.cpu, exit-size c.args.world.now c.exit.new.world c.args.cpu c.in-Ok.ensures.stage)

pub returns-in-Ok-clause-ready : goal.returns-in-Ok-clause-ready
returns-in-Ok-clause-ready g c =
    exit-ready c.args.world.now c.exit.new.world c.resched_with.new.world c.args.cpu (record {
      kept = c.use_invariant.ensures;
      ready = c.requires.ready;
      low = c.requires.cpu;
      accepted = c.in-Ok.ensures.accepted;
      stage = c.in-Ok.ensures.stage;
      gone = c.in-Ok.ensures.gone;
      settled = c.resched_with.ensures.stage;
      rest = c.resched_with.ensures.rest;
      kept_then = c.use_invariant-in-Ok.ensures;
    }) c.resched_with.ensures.rescheduled c.in-Ok.ensures.others c.resched_with.ensures.others

pub returns-in-Ok-clause-done : goal.returns-in-Ok-clause-done
returns-in-Ok-clause-done g c =
    exit-done c.args.world.now c.exit.new.world c.resched_with.new.world c.args.cpu (record {
      kept = c.use_invariant.ensures;
      ready = c.requires.ready;
      low = c.requires.cpu;
      accepted = c.in-Ok.ensures.accepted;
      stage = c.in-Ok.ensures.stage;
      gone = c.in-Ok.ensures.gone;
      settled = c.resched_with.ensures.stage;
      rest = c.resched_with.ensures.rest;
      kept_then = c.use_invariant-in-Ok.ensures;
    })

pub returns-in-Err-clause-counted : goal.returns-in-Err-clause-counted
returns-in-Err-clause-counted g c = refused-cpu_counted (option_copied c.args.sheet) c.args.world.now c.exit.new.world c.args.cpu line.Exit c.in-Err.reason c.args.tests.now c.in-Err.ensures.refused

pub returns-in-Ok-clause-counted : goal.returns-in-Ok-clause-counted
returns-in-Ok-clause-counted g c =
    let low : c.args.cpu.0 < 8 = omega (arith, c.requires.cpu, c.requires.ready.machine.sound.cpus.1, c.requires.ready.machine.cpus) in
    counted-by (option_copied c.args.sheet) c.args.world.now c.exit.new.world c.resched_with.new.world c.args.cpu line.Exit c.args.tests.now c.resched_with.new.tests c.requires.cpu
    c.in-Ok.ensures.accepted refl (λ other. refl) c.in-Ok.ensures.gone.gone.hardware c.in-Ok.ensures.stage
    (exit-foreseen c.args.world.now c.exit.new.world c.args.cpu low c.requires.cpu c.in-Ok.ensures.stage c.in-Ok.ensures.gone) c.resched_with.ensures.counted

pub returns-in-Ok-clause-totals : goal.returns-in-Ok-clause-totals
returns-in-Ok-clause-totals g c = ap (λ (y : World). y.quiet.totals) c.resched_with.ensures.rest.world ∙ ap (λ q. q.totals) c.in-Ok.ensures.gone.quiet
