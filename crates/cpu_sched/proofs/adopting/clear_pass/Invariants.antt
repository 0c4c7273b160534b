use Rattle.std.proofs.Common.{◌≡◌, [], take, slice_index_or}
use Rattle.world_spec.specs.Listings.{pass_leaders}
use Rattle.cpu_sched.specs.Adopting.{with_standings, out_standings}
use Rattle.cpu_sched.proofs.adopting.clear_pass.Given as goal

abbrev pub invariant-loop-place : goal.invariant-loop-place
invariant-loop-place l =
    l.world ≡ with_standings (out_standings (take l.place (slice_index_or (pass_leaders l.fn.world l.cpu) l.pass [])) l.fn.world.standings) l.fn.world
