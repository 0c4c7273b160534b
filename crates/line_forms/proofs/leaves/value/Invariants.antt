use Rattle.std.proofs.Common.{◌≡◌, ◌≤◌, ◌+◌, ◌*◌, ◌^◌, drop}
use Rattle.line_forms.specs.Leaves.{value_after}
use Rattle.line_forms.proofs.leaves.value.Given as goal

abbrev pub invariant-loop-byte : goal.invariant-loop-byte
invariant-loop-byte l = (l.value + 2 ≤ 2 * 16 ^ l.byte-index) × (value_after l.radix l.value (drop l.byte-index l.text) ≡ value_after l.radix 0 l.text)
