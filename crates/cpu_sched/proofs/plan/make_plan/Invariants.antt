use Rattle.std.proofs.Common.{◌≡◌, ◌+◌, ◌*◌, ◌≤◌, ◌==◌, length, take, count_by, vec_len, vec_capacity}
use Rattle.perf_base.specs.declared.numbers.EventNo.{EventNo}
use Rattle.cpu_sched.specs.{Briefs.{events_in}, Plans.{told_by, tried_by}}
use Rattle.cpu_sched.proofs.{Parted.{passed}, Planned.{Begins, first_judged}}
use Rattle.cpu_sched.proofs.plan.make_plan.Given as goal

abbrev pub invariant-loop-pass : goal.invariant-loop-pass
invariant-loop-pass g l = record {
  begins : Begins (first_judged l.brief l.pass) (told_by l.into-inside.verdicts.items) l.into-inside.seats.events l.so_far;
  counters : l.into-inside.seats.counters ≡ l.brief.counters;
  once : (e : EventNo) → count_by (λ event. event.0.0 == e.0) l.into-inside.seats.events ≤ count_by (λ event. event.0.0 == e.0) (events_in (passed (take l.pass l.brief.passes)));
  len : vec_len l.into-inside.verdicts ≡ length (passed (take l.pass l.brief.passes));
  capacity : 256 ≤ vec_capacity l.into-inside.verdicts;
  least : l.fn.tests + length l.into-inside.seats.events ≤ l.tests;
  most : l.tests ≤ l.fn.tests + 272 * tried_by (first_judged l.brief l.pass);
}
