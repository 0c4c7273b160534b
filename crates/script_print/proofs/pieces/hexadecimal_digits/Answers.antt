use Rattle.std.proofs.Common.{refl, arith, length-set, ◌∙◌}
use Rattle.script_print.proofs.Hexadecimal.{onto_begin, some_place, fewer, digit_more, digit_last}
use Rattle.script_print.proofs.pieces.hexadecimal_digits.Goals as goal

pub loop-left-init : goal.loop-left-init
loop-left-init c = record { sixteen = refl; within = omega arith; few = omega (arith, c.ranges.n.fits); digits = onto_begin c.args.n }

pub loop-left-preserved : goal.loop-left-preserved
loop-left-preserved c =
    let i = c.loop-left.invariant in
    let some = some_place c.loop-left.start c.loop-left.left c.loop-left-test.true i.few in
    record {
      sixteen = length-set c.loop-left.places c.loop-left.start c.glyph.result ∙ i.sixteen;
      within = omega (arith, i.within);
      few = fewer c.loop-left.start c.loop-left.left some i.few;
      digits = digit_more c.loop-left.places c.loop-left.start c.loop-left.left c.glyph.result c.args.n i.sixteen i.within c.loop-left-test.true some c.glyph.ensures i.digits;
    }

pub returns-clause-digits : goal.returns-clause-digits
returns-clause-digits c =
    let i = c.loop-left.invariant in
    digit_last c.loop-left.places c.loop-left.start c.loop-left.left c.glyph-2.result c.args.n i.sixteen i.within (omega (arith, c.loop-left-test.false)) c.glyph-2.ensures i.digits
