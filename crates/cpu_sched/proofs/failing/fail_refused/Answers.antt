use Rattle.std.proofs.Common.{arith, ◌∙◌, [], length, ap, slice_index_or}
use Rattle.world_spec.specs.{Listings.{pass_leaders}, Rescheduled.{fail_groups}, Value.{World}}
use Rattle.cpu_sched.proofs.Passing.{failed-passes, failed-running, failed-both}
use Rattle.cpu_sched.proofs.failing.fail_refused.Goals as goal

pub fail_pass-requires-2-clause-cpu : goal.fail_pass-requires-2-clause-cpu
fail_pass-requires-2-clause-cpu c =
    omega (arith, c.requires, ap (λ (w : World). length w.quiet.running) c.fail_pass.ensures, failed-running (slice_index_or (pass_leaders c.args.world.now c.args.cpu) 0 []) c.args.world.now)

pub returns : goal.returns
returns c =
    c.fail_pass-2.ensures
    ∙ ((λ i. fail_groups (slice_index_or (pass_leaders (c.fail_pass.ensures i) c.args.cpu) 1 []) (c.fail_pass.ensures i))
    ∙ (ap (λ ps. fail_groups (slice_index_or ps 1 []) (fail_groups (slice_index_or (pass_leaders c.args.world.now c.args.cpu) 0 []) c.args.world.now))
    (failed-passes (slice_index_or (pass_leaders c.args.world.now c.args.cpu) 0 []) c.args.world.now c.args.cpu)
    ∙ failed-both c.args.world.now c.args.cpu))
