-- inner
-- What holds of the script of N rounds, and of its totals. This project's own profile.
use Rattle.std.specs.Prelude.{◌≡◌, ℕ, ◌+◌, ◌*◌, List, Some, slice_get}
use Rattle.perf_base.specs.declared.{numbers.RingNo.{RingNo}, reply.Answer.{Answer}}
use Rattle.perf_base.specs.declared.acts.Act.TheVariants as act
use Rattle.ring_spec.specs.Account.{Account}
use Rattle.stage_spec.specs.Order.{IsComplete}
use Rattle.work_maker.specs.Rounds.{script_of_rounds}
use Rattle.report.specs.Summary.{totals_of}

-- whatever was answered and written, they have sixteen lines a round, and the tool's 36
abbrev pub MadeTotalsLaw : Type 0
MadeTotalsLaw = (n : ℕ) (answers : List Answer) (rings : List (RingNo × Account)) → (totals_of (script_of_rounds n) answers rings).lines ≡ 16 * n + 36

-- its order has as many acts of each processor and of each tool as that has lines
abbrev pub MadeIsCompleteLaw : Type 0
MadeIsCompleteLaw = (n : ℕ) → IsComplete (script_of_rounds n) (script_of_rounds n).order

-- no act of its order is a look at a ring's tail
abbrev pub MadeHasNoLookLaw : Type 0
MadeHasNoLookLaw = (n index : ℕ) (ring : RingNo) (given : ℕ) → slice_get (script_of_rounds n).order index ≡ Some (act.Seen ring given) → ⊥
