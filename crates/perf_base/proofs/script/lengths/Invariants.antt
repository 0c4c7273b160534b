use Rattle.std.proofs.Common.{◌≡◌, length, map, take}
use Rattle.perf_base.proofs.script.lengths.Given as goal

abbrev pub invariant-loop-list : goal.invariant-loop-list
invariant-loop-list g l = record {
  full : length l.lengths ≡ length l.lists;
  counted : take l.list l.lengths ≡ map (λ list. length list.items) (take l.list l.lists);
}
