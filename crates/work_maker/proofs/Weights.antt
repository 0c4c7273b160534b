-- The weight of the script of N rounds: each kind of each work line fills one period, at most.
use Rattle.std.{proofs.Common.{◌≡◌, ℕ, ◌+◌, ◌*◌, ◌%◌, ◌<◌, arith}, specs.Prelude.{sum_by}}
use Rattle.perf_base.specs.Weight.{shares, line_shares}
use Rattle.work_maker.{specs.{Rounds.{round_lines, processor_lines, script_of_rounds}, Laws.{MadeWeightLaw}}, proofs.ForEach.{sum_of_fours}}

-- fewer occurrences than a period, and some, are one share
one_share : (c : ℕ) → 0 < c → c < 10000 → shares 10000 c ≡ 1
one_share c some few = omega arith

cycles_share : (p i : ℕ) → shares 10000 (2000 + 500 * ((p + i) % 8)) ≡ 1
cycles_share p i = one_share (2000 + 500 * ((p + i) % 8)) (omega arith) (omega arith)

round_shares : (p i : ℕ) → sum_by (line_shares 10000) (round_lines p i) ≡ 4
round_shares p i = omega (arith, cycles_share p i)

processor_shares : (n p : ℕ) → sum_by (line_shares 10000) (processor_lines n p) ≡ 4 * n
processor_shares n p = sum_of_fours (line_shares 10000) (round_lines p) (round_shares p) n

pub weight_law : MadeWeightLaw
unfolding script_of_rounds
weight_law n = omega (arith, processor_shares n 0, processor_shares n 1, processor_shares n 2, processor_shares n 3)
