use Rattle.std.proofs.Common.{◌≡◌, take, false}
use Rattle.script_print.proofs.{FlagNames.{all_flags, names_text, comma, some_name}, Loops.{IsWritten, behind}}
use Rattle.script_print.proofs.flags.put_flags.Given as goal

abbrev pub invariant-loop-flag : goal.invariant-loop-flag
invariant-loop-flag g l = record {
  written : IsWritten g.K.Sink.shows l.fn.sink l.sink (names_text l.flags.0 false (take l.flag all_flags));
  comma : l.comma ≡ comma (behind (some_name l.flags.0) false (take l.flag all_flags));
}
