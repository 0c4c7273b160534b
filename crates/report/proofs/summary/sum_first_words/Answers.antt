use Rattle.std.proofs.{Common.{arith, sym}, lemmas.{Grind.{common_steps}, Option.{get_or_from_slice_get, slice_get_within}}}
use Rattle.report.proofs.summary.sum_first_words.Goals as goal

pub loop-place-preserved : goal.loop-place-preserved
loop-place-preserved c =
    let within = slice_get_within c.args.answers.now.items c.loop-place.place c.get.result c.get.ensures in
    let is = sym (get_or_from_slice_get c.args.answers.now.items c.loop-place.place c.get.result c.get.result c.get.ensures) in
    grind (arith, common_steps, within, is)
