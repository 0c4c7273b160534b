use Rattle.std.specs.Prelude.{◌≡◌, ◌+◌, ◌≤◌, map, take, drop, ◌++◌, vec_capacity, vec_len}
use Rattle.work_account.specs.Ends.{AreTogether}
use Rattle.machine.specs.{Leading.{LeadTo}, Readers.{loads_of}}
use Rattle.perf_book.proofs.Looked.{Looked}
use Rattle.perf_book.proofs.looking.look_all.Given as goal

abbrev pub invariant-loop-ring : goal.invariant-loop-ring
invariant-loop-ring l = record {
  led : LeadTo l.script l.order.items l.machine;
  looked : Looked l.script.rings l.ring-index l.fn.order.items l.order.items;
  loads : loads_of l.machine.outs ≡ map (λ n. n + 1) (take l.ring-index (loads_of l.fn.machine.outs)) ++ drop l.ring-index (loads_of l.fn.machine.outs);
  together : AreTogether l.rings l.machine.outs;
  world : l.machine.world ≡ l.fn.machine.world;
  filled : vec_len l.order ≤ vec_len l.fn.order + l.ring-index;
  capacity : vec_capacity l.order ≡ vec_capacity l.fn.order;
}
