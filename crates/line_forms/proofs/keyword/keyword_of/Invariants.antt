use Rattle.std.proofs.Common.{◌≡◌, drop, map}
use Rattle.line_forms.{specs.Keyword.{looked_up, keywords}, proofs.Loops.{entry_of}}
use Rattle.line_forms.proofs.keyword.keyword_of.Given as goal

abbrev pub invariant-loop-text : goal.invariant-loop-text
invariant-loop-text l = looked_up (map entry_of (drop l.text-index l.text-items)) l.word ≡ looked_up keywords l.word
