use Rattle.std.proofs.Common.{arith, ◌≡◌, ◌-◌, ◌∙◌, length-set}
use Rattle.report.proofs.Digits.{digit_more, digits_end, space_stays}
use Rattle.report.proofs.rings.word_text.Goals as goal

pub loop-done-preserved : goal.loop-done-preserved
loop-done-preserved c =
    let i = c.loop-done.invariant in
    record {
      places = length-set c.loop-done.text (16 - c.loop-done.done) c.glyph.result ∙ i.places;
      space = space_stays c.loop-done.text c.loop-done.done c.glyph.result c.loop-done-test.true i.space;
      digits = digit_more c.loop-done.text c.loop-done.done c.loop-done.left c.glyph.result c.args.word i.places c.loop-done-test.true c.glyph.ensures i.digits;
    }

pub returns : goal.returns
returns c =
    let i = c.loop-done.invariant in
    let all : c.loop-done.done ≡ 16 = omega (arith, c.loop-done-test.false, c.loop-done.auto.done-end) in
    digits_end c.loop-done.text c.loop-done.left c.args.word i.space (rw all at i.digits)
