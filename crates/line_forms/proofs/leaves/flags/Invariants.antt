use Rattle.std.proofs.Common.{◌≡◌, ◌+◌, drop}
use Rattle.perf_base.specs.Flags.{flag_table}
use Rattle.line_forms.specs.{Words.{left}, Leaves.{flags_in}}
use Rattle.line_forms.proofs.leaves.flags.Given as goal

abbrev pub invariant-loop-flag : goal.invariant-loop-flag
invariant-loop-flag l = record {
  bits : l.bits + (flags_in (drop l.flag-index flag_table) (left l.words)).0 ≡ (flags_in flag_table (left l.initial.words)).0;
  words : (flags_in (drop l.flag-index flag_table) (left l.words)).1 ≡ (flags_in flag_table (left l.initial.words)).1;
}
