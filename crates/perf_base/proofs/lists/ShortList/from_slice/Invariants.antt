use Rattle.std.proofs.Common.{◌≡◌, take}
use Rattle.perf_base.proofs.lists.ShortList.from_slice.Given as goal

abbrev pub invariant-loop-entry : goal.invariant-loop-entry
invariant-loop-entry g l = l.list ≡ take l.entry-index l.entries
