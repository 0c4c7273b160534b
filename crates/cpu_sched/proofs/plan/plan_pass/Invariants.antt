use Rattle.std.{proofs.Common.{◌≡◌, ◌+◌, ◌*◌, ◌≤◌, ◌==◌, length, map, take, count_by, vec_len, vec_capacity}, specs.List.{fold}}
use Rattle.perf_base.specs.declared.numbers.EventNo.{EventNo}
use Rattle.cpu_sched.specs.{Briefs.{seen, events_in}, Plans.{draft_of, plan_one, told_by}}
use Rattle.cpu_sched.proofs.plan.plan_pass.Given as goal

abbrev pub invariant-loop-group : goal.invariant-loop-group
invariant-loop-group g l = record {
  standings : told_by l.verdicts.items ≡ (fold plan_one (draft_of (told_by l.fn.verdicts.items) l.fn.seats.events l.fn.so_far) (map seen (take l.group-index l.groups))).standings;
  events : l.seats.events ≡ (fold plan_one (draft_of (told_by l.fn.verdicts.items) l.fn.seats.events l.fn.so_far) (map seen (take l.group-index l.groups))).events;
  so_far : l.so_far ≡ (fold plan_one (draft_of (told_by l.fn.verdicts.items) l.fn.seats.events l.fn.so_far) (map seen (take l.group-index l.groups))).so_far;
  counters : l.seats.counters ≡ l.fn.seats.counters;
  once : (e : EventNo) → count_by (λ event. event.0.0 == e.0) l.seats.events
      ≤ count_by (λ event. event.0.0 == e.0) l.fn.seats.events + count_by (λ event. event.0.0 == e.0) (events_in (map seen (take l.group-index l.groups)));
  len : vec_len l.verdicts ≡ vec_len l.fn.verdicts + l.group-index;
  capacity : vec_capacity l.verdicts ≡ vec_capacity l.fn.verdicts;
  least : l.fn.tests + length l.seats.events ≤ l.tests + length l.fn.seats.events;
  most : l.tests ≤ l.fn.tests
      + 272 * (fold plan_one (draft_of (told_by l.fn.verdicts.items) l.fn.seats.events l.fn.so_far) (map seen (take l.group-index l.groups))).tried;
}
