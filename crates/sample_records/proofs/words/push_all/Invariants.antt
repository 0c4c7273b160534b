use Rattle.std.proofs.Common.{◌≡◌, ◌++◌, take}
use Rattle.sample_records.proofs.words.push_all.Given as goal

abbrev pub invariant-loop-word : goal.invariant-loop-word
invariant-loop-word l = l.words ≡ l.initial.words ++ take l.word-index l.more
