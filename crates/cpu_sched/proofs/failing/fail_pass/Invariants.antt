use Rattle.std.proofs.Common.{◌≡◌, [], take, slice_index_or}
use Rattle.world_spec.specs.{Listings.{pass_leaders}, Rescheduled.{fail_groups}}
use Rattle.cpu_sched.proofs.failing.fail_pass.Given as goal

abbrev pub invariant-loop-place : goal.invariant-loop-place
invariant-loop-place l = l.world ≡ fail_groups (take l.place (slice_index_or (pass_leaders l.fn.world l.cpu) l.pass [])) l.fn.world
