use Rattle.std.{proofs.Common.{◌≡◌, ◌+◌, ◌*◌, ◌≤◌, length, take}, specs.List.{fold}}
use Rattle.stage_spec.specs.Hardware.{counters_of}
use Rattle.world_spec.specs.{Listings.{pass_leaders}, StageOf.{group_at}}
use Rattle.cpu_sched.specs.{Judging.{tally_in, tally_none, tell_pass, tried_passes, restood}, Passes.{AreOfTold, told_before}}
use Rattle.cpu_sched.proofs.passes.judge_all.Given as goal

abbrev pub invariant-loop-pass : goal.invariant-loop-pass
invariant-loop-pass g l = record {
  world : l.world ≡ restood l.fn.world l.world;
  tally : tally_in l.world l.seats l.so_far ≡ fold (tell_pass l.fn.world.hardware l.cpu (group_at l.fn.world)) (tally_none l.fn.world) (take l.pass (pass_leaders l.fn.world l.cpu));
  counters : l.seats.counters ≡ counters_of l.fn.world.hardware l.cpu;
  events : AreOfTold l.world (told_before l.world l.cpu l.pass) l.seats.events;
  least : l.fn.tests + length l.seats.events ≤ l.tests;
  most : l.tests ≤ l.fn.tests + 272 * tried_passes l.fn.world.hardware l.cpu (group_at l.fn.world) (tally_none l.fn.world) (take l.pass (pass_leaders l.fn.world l.cpu));
}
