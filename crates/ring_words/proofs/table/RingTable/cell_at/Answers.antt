use Rattle.std.proofs.Common.{arith}
use Rattle.ring_words.proofs.Sizes.{least_bytes}
use Rattle.ring_words.proofs.table.RingTable.cell_at.Goals as goal

pub nonzero_rem-result : goal.nonzero_rem-result
nonzero_rem-result c = let least = least_bytes _ c.self.invariant.size in omega (arith, least)

pub returns-clause-within : goal.returns-clause-within
returns-clause-within c = let least = least_bytes _ c.self.invariant.size in grind (arith, least)
