use Rattle.std.{proofs.Common.{◌≡◌, ◌+◌, ◌*◌, ◌≤◌, ◌++◌, [], length, take, slice_index_or}, specs.List.{fold}}
use Rattle.world_spec.specs.{Listings.{pass_leaders}, StageOf.{group_at}}
use Rattle.cpu_sched.specs.{Judging.{tally_in, tell, tried_in, restood}, Passes.{AreOfTold, told_before}}
use Rattle.cpu_sched.proofs.passes.judge_pass.Given as goal

abbrev pub invariant-loop-place : goal.invariant-loop-place
invariant-loop-place g l = record {
  world : l.world ≡ restood l.fn.world l.world;
  tally : tally_in l.world l.seats l.so_far
      ≡ fold (tell l.fn.world.hardware l.cpu (group_at l.fn.world)) (tally_in l.fn.world l.fn.seats l.fn.so_far) (take l.place (slice_index_or (pass_leaders l.fn.world l.cpu) l.pass []));
  counters : l.seats.counters ≡ l.fn.seats.counters;
  events : AreOfTold l.fn.world (told_before l.fn.world l.cpu l.pass ++ take l.place (slice_index_or (pass_leaders l.fn.world l.cpu) l.pass [])) l.seats.events;
  least : l.fn.tests + length l.seats.events ≤ l.tests + length l.fn.seats.events;
  most : l.tests ≤ l.fn.tests
      + 272 * tried_in l.fn.world.hardware l.cpu (group_at l.fn.world) (tally_in l.fn.world l.fn.seats l.fn.so_far) (take l.place (slice_index_or (pass_leaders l.fn.world l.cpu) l.pass []));
}
