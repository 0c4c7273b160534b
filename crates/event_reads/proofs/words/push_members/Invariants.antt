use Rattle.std.proofs.Common.{◌≡◌, ◌+◌, ◌*◌, ◌≤◌, ◌++◌, length, drop, flat_map}
use Rattle.event_reads.specs.Counted.{words_of_key}
use Rattle.event_reads.proofs.words.push_members.Given as goal

abbrev pub invariant-loop-member : goal.invariant-loop-member
invariant-loop-member l =
    (l.words ++ flat_map (words_of_key l.format l.world) (drop l.member-index l.members) ≡ l.initial.words ++ flat_map (words_of_key l.format l.world) l.members)
    × (length l.words + 3 * length l.members ≤ 27 + 3 * l.member-index)
