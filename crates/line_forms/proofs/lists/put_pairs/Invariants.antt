use Rattle.std.proofs.Common.{◌≡◌, ◌+◌, ◌*◌, ◌++◌, length, take}
use Rattle.line_forms.specs.Lists.{pairs_in}
use Rattle.line_forms.proofs.lists.put_pairs.Given as goal

abbrev pub invariant-loop-rest : goal.invariant-loop-rest
invariant-loop-rest l = record {
  pairs : take l.count l.room ++ pairs_in l.rest ≡ pairs_in l.text;
  room : length l.room ≡ 4096;
  done : length l.rest + 2 * l.count ≡ length l.text;
}

abbrev pub decreases-loop-rest : goal.decreases-loop-rest
decreases-loop-rest l = length l.rest
