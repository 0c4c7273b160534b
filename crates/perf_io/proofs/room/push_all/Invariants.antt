use Rattle.std.proofs.Common.{◌≡◌, ◌++◌, take}
use Rattle.perf_io.proofs.room.push_all.Given as goal

abbrev pub invariant-loop-byte : goal.invariant-loop-byte
invariant-loop-byte l = l.text ≡ l.fn.text ++ take l.byte-index l.bytes
