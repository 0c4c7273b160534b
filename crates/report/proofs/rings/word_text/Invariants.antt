use Rattle.std.proofs.Common.{◌≡◌, ◌-◌, ◌++◌, [], ◌∷◌, drop, length, take}
use Rattle.report_spec.specs.Report.{hexadecimal_digits}
use Rattle.report.proofs.rings.word_text.Given as goal

abbrev pub invariant-loop-done : goal.invariant-loop-done
invariant-loop-done l = record {
  places : length l.text ≡ 17;
  space : take 1 l.text ≡ 32 ∷ [];
  digits : hexadecimal_digits (16 - l.done) l.left ++ drop (17 - l.done) l.text ≡ hexadecimal_digits 16 l.word;
}
