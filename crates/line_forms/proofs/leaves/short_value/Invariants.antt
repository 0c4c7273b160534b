use Rattle.std.proofs.Common.{◌≡◌, ◌≤◌, ◌+◌, ◌*◌, ◌^◌, true, take, drop}
use Rattle.line_forms.specs.Leaves.{are_digits, value_after}
use Rattle.line_forms.proofs.leaves.short_value.Given as goal

abbrev pub invariant-loop-byte : goal.invariant-loop-byte
invariant-loop-byte l = record {
  small : l.value + 2 ≤ 2 * 16 ^ l.byte-index;
  digits : are_digits l.radix (take l.byte-index l.text) ≡ true;
  value : value_after l.radix l.value (drop l.byte-index l.text) ≡ value_after l.radix 0 l.text;
}
