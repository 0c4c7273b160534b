use Rattle.std.proofs.Common.{◌≡◌, ◌+◌, ◌≤◌, ◌<◌, ◌^◌, drop, length}
use Rattle.script_spec.specs.Forms.{hexadecimal}
use Rattle.script_print.proofs.Hexadecimal.{onto}
use Rattle.script_print.proofs.pieces.hexadecimal_digits.Given as goal

abbrev pub invariant-loop-left : goal.invariant-loop-left
invariant-loop-left l = record {
  sixteen : length l.places ≡ 16;
  within : l.start ≤ 15;
  few : l.left < 16 ^ (l.start + 1);
  digits : onto l.start l.left (drop (l.start + 1) l.places) ≡ hexadecimal l.n;
}

abbrev pub decreases-loop-left : goal.decreases-loop-left
decreases-loop-left l = l.left
