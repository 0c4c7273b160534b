use Rattle.std.proofs.Common.{◌≡◌, ◌+◌, ◌++◌, length, take}
use Rattle.stat_table.proofs.text.push_all.Given as goal

abbrev pub invariant-loop-byte : goal.invariant-loop-byte
invariant-loop-byte l = record {
  so_far : l.text ≡ l.fn.text ++ take l.byte-index l.piece;
  len : length l.text ≡ length l.fn.text + l.byte-index;
}
