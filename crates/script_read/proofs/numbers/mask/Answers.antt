use Rattle.std.proofs.Common.{◌∙◌, sym, arith}
use Rattle.script_read.proofs.{Fits.{mask_small}, Ranges.{mask_at}}
use Rattle.script_read.proofs.numbers.mask.Goals as goal

pub overflow_cast-result-then-is_mask_of : goal.overflow_cast-result-then-is_mask_of
overflow_cast-result-then-is_mask_of c =
    let own = mask_at c.args.script.now.pmus c.args.pmu c.args.mask c.in_ok-counters.counters (sym c.in_ok-counters.was ∙ c.counters_of.ensures) (c.is_mask_of.ensures.0 c.if-is_mask_of.true) in
    let small = mask_small c.args.script.now.pmus c.args.script.now.cpus c.args.pmu c.args.mask c.requires.pmus own in
    omega (arith, small.1)
