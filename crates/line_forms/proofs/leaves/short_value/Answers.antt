use Rattle.std.proofs.Common.{arith}
use Rattle.line_forms.proofs.Numbers.{short_digit_fits}
use Rattle.line_forms.proofs.leaves.short_value.Goals as goal

pub overflow_mul-value : goal.overflow_mul-value
overflow_mul-value c = omega (arith, short_digit_fits c.loop-byte.value c.from.result 0 c.loop-byte.byte-index c.loop-byte.invariant.small (omega (arith, c.requires.radix, c.from.ensures)) (omega arith) (omega (arith, c.requires.few, c.loop-byte-test.true)))

pub overflow_add-value : goal.overflow_add-value
overflow_add-value c = omega (arith, short_digit_fits c.loop-byte.value c.from.result c.from-in-loop-byte.result c.loop-byte.byte-index c.loop-byte.invariant.small (omega (arith, c.requires.radix, c.from.ensures)) (omega (arith, c.digit-digit.ensures.most, c.from-in-loop-byte.ensures)) (omega (arith, c.requires.few, c.loop-byte-test.true)))
