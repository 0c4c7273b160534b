use Rattle.std.proofs.Common.{◌≡◌, ◌+◌, ◌++◌, length, replicate}
use Rattle.stat_table.proofs.text.push_spaces.Given as goal

abbrev pub invariant-loop-i : goal.invariant-loop-i
invariant-loop-i l = record {
  so_far : l.text ≡ l.fn.text ++ replicate l._i 32;
  len : length l.text ≡ length l.fn.text + l._i;
}
