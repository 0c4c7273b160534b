-- inner
-- What holds of the script of N rounds, whatever their number from 1 to 1000. This project's own profile.
use Rattle.std.specs.Prelude.{◌≡◌, ℕ, ◌+◌, ◌*◌, ◌≤◌}
use Rattle.perf_base.specs.{Scripts.{IsScript, IsCovered, line_count}, Weight.{weight}}
use Rattle.work_maker.specs.Rounds.{script_of_rounds}

-- it is in the ranges of a script
abbrev pub MadeIsScriptLaw : Type 0
MadeIsScriptLaw = (n : ℕ) → 1 ≤ n → n ≤ 1000 → IsScript (script_of_rounds n)

-- each of its processors is of its PMU
abbrev pub MadeIsCoveredLaw : Type 0
MadeIsCoveredLaw = (n : ℕ) → IsCovered (script_of_rounds n)

-- it has sixteen lines a round, and the tool's 36
abbrev pub MadeLinesLaw : Type 0
MadeLinesLaw = (n : ℕ) → line_count (script_of_rounds n) ≡ 16 * n + 36

-- it brings at most 64 samples a round
abbrev pub MadeWeightLaw : Type 0
MadeWeightLaw = (n : ℕ) → weight (script_of_rounds n) ≡ 64 * n
