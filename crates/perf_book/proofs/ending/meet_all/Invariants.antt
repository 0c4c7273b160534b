use Rattle.std.specs.Prelude.{◌≡◌, ◌+◌, ◌*◌, ◌≤◌, vec_capacity, vec_len}
use Rattle.perf_base.specs.Weight.{weight}
use Rattle.work_account.specs.Ends.{AreTogether}
use Rattle.machine.specs.{Leading.{LeadTo}, Readers.{AreBehind, AreReaders, BehindTo}}
use Rattle.perf_book.proofs.{Looked.{Looked}, Parts.{PartsTo, SameReaders}}
use Rattle.perf_book.proofs.ending.meet_all.Given as goal

abbrev pub invariant-loop-ring : goal.invariant-loop-ring
invariant-loop-ring l = record {
  led : LeadTo l.script l.order.items l.machine;
  looked : Looked l.script.rings l.ring-index l.fn.order.items l.order.items;
  readers : AreReaders (9 * weight l.script) l.machine.outs l.ins;
  behind : BehindTo l.ring-index (9 * weight l.script) l.machine.outs l.ins;
  parts : PartsTo l.ring-index l.script l.fn.order.items l.order.items l.fn.ins;
  same : SameReaders l.fn.ins l.ins;
  still : AreBehind (9 * weight l.script) l.fn.machine.outs l.fn.ins → (l.order.items ≡ l.fn.order.items) × AreBehind (9 * weight l.script) l.machine.outs l.ins;
  together : AreTogether l.rings l.machine.outs;
  filled : vec_len l.order ≤ vec_len l.fn.order + l.ring-index;
  capacity : vec_capacity l.order ≡ vec_capacity l.fn.order;
}
