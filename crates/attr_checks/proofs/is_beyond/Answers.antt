use Rattle.std.proofs.{Common.{◌≡◌, ℕ, ◌+◌, ◌-◌, ◌^◌, not, ◌==◌, bit_and, arith}, lemmas.{Bool.Decides.{nat_tests}, Nat.{and-not, and_comm}}}
use Rattle.attr_checks.proofs.is_beyond.Goals as goal

-- a number is a known part and another, and all of it is known where the other is 0
other_part : (other known bits : ℕ) → other + known ≡ bits → not (other == 0) ≡ not (known == bits)
other_part other known bits sum = grind (arith, nat_tests)

pub returns : goal.returns
returns c =
    let bits = c.args.bits in
    let known = c.args.known in
    let sum : bit_and (2 ^ 64 - 1 - known) bits + bit_and known bits ≡ bits = and-not 64 known bits (omega arith) (omega arith) in
    other_part _ _ _ (omega (arith, sum, and_comm bits (2 ^ 64 - 1 - known), and_comm bits known))
