use Rattle.std.proofs.Common.{ap, length}
use Rattle.world_spec.specs.Value.{World}
use Rattle.machine.proofs.{Totals.{work-grows}, Working.{work-done, work-seen, work-ready}}
use Rattle.machine.proofs.processors.work.Goals as goal

pub work-requires-clause-judged : goal.work-requires-clause-judged
work-requires-clause-judged g c = (c.requires.ready.rescheduled c.args.cpu c.requires.cpu).judged

pub returns-clause-ready : goal.returns-clause-ready
returns-clause-ready g c =
    work-ready c.args.world.now c.work.new.world c.args.cpu c.args.work c.args.outs.now c.work.new.outs (record {
      kept = c.use_invariant.ensures;
      ready = c.requires.ready;
      low = c.requires.cpu;
      shares = c.work.ensures.shares;
      stage = c.work.ensures.stage;
      rest = c.work.ensures.rest;
      rescheduled = c.work.ensures.rescheduled;
      kept_then = c.use_invariant-2.ensures;
      ends = c.work.ensures.accounts;
      lost = c.work.ensures.lost;
    })

pub returns-clause-done : goal.returns-clause-done
returns-clause-done g c =
    work-done c.args.world.now c.work.new.world c.args.cpu c.args.work c.args.outs.now c.work.new.outs (record {
      kept = c.use_invariant.ensures;
      ready = c.requires.ready;
      low = c.requires.cpu;
      shares = c.work.ensures.shares;
      stage = c.work.ensures.stage;
      rest = c.work.ensures.rest;
      rescheduled = c.work.ensures.rescheduled;
      kept_then = c.use_invariant-2.ensures;
      ends = c.work.ensures.accounts;
      lost = c.work.ensures.lost;
    })

pub returns-clause-seen : goal.returns-clause-seen
returns-clause-seen g c =
    work-seen c.args.world.now c.work.new.world c.args.cpu c.args.work c.args.outs.now c.work.new.outs c.requires.space.left
    (c.work.ensures.sent c.requires.space.left c.requires.space.are_left)

pub returns-clause-totals : goal.returns-clause-totals
returns-clause-totals g c =
    work-grows (length c.args.world.now.hardware.kind_pmus) c.args.world.now c.work.new.world c.args.cpu c.args.work c.requires.line c.use_invariant.ensures c.requires.cpu
    (ap (λ (y : World). y.quiet.totals) c.work.ensures.rest)
