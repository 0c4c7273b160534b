use Rattle.std.proofs.Common.{ap}
use Rattle.perf_base.specs.declared.lines.CpuLine.TheVariants as line
use Rattle.machine.proofs.{Forks.{fork-done, fork-ready}, Refused.{refused-cpu}}
use Rattle.machine.proofs.processors.fork.Goals as goal

pub returns-in-Err-clause-done : goal.returns-in-Err-clause-done
returns-in-Err-clause-done c =
    refused-cpu c.args.world.now c.fork-answer.new.world c.args.cpu (line.Fork c.args.child) c.in-Err.reason c.use_invariant.ensures c.in-Err.ensures.same c.in-Err.ensures.refused

pub returns-in-Ok-clause-ready : goal.returns-in-Ok-clause-ready
returns-in-Ok-clause-ready c =
    fork-ready c.args.world.now c.fork-answer.new.world c.args.cpu c.args.child (record {
      kept = c.use_invariant.ensures;
      ready = c.requires.ready;
      low = c.requires.cpu;
      number = c.requires.child;
      accepted = c.in-Ok.ensures.accepted;
      stage = c.in-Ok.ensures.stage;
      stays = c.in-Ok.ensures.stays;
      others = c.in-Ok.ensures.others;
      kept_then = c.use_invariant-2.ensures;
    })

pub returns-in-Ok-clause-done : goal.returns-in-Ok-clause-done
returns-in-Ok-clause-done c =
    fork-done c.args.world.now c.fork-answer.new.world c.args.cpu c.args.child (record {
      kept = c.use_invariant.ensures;
      ready = c.requires.ready;
      low = c.requires.cpu;
      number = c.requires.child;
      accepted = c.in-Ok.ensures.accepted;
      stage = c.in-Ok.ensures.stage;
      stays = c.in-Ok.ensures.stays;
      others = c.in-Ok.ensures.others;
      kept_then = c.use_invariant-2.ensures;
    })

pub returns-in-Ok-clause-totals : goal.returns-in-Ok-clause-totals
returns-in-Ok-clause-totals c = ap (λ q. q.totals) c.in-Ok.ensures.stays.quiet
