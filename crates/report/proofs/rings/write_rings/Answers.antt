use Rattle.std.proofs.{Common.{◌∙◌, ap, arith, map}, lemmas.List.{take_all}}
use Rattle.perf_io.proofs.Wrote.{wrote_text}
use Rattle.script_print.proofs.Loops.{loop_exit}
use Rattle.report.{specs.Told.{all_told, told_lines}, proofs.Told.{end_told, ends_each}}
use Rattle.report.proofs.rings.write_rings.Goals as goal

pub returns-in_err-write_ring-clause-wrote : goal.returns-in_err-write_ring-clause-wrote
returns-in_err-write_ring-clause-wrote g c =
    wrote_text (ap (λ ends. all_told (map (end_told c.args.ended.now.ins) ends)) c.ring_ends-end-items.ensures.ends)
    (loop_exit (ends_each c.args.ended.now.ins) c.ring_ends-end-items.result.now c.loop-end.end-index _ c.loop-end-test.true c.loop-end.invariant.wrote c.from_residual.ensures.0
    (wrote_text (ap (told_lines _ _) c.words.ensures) c.in_err-write_ring.ensures.wrote))

pub returns-clause-wrote : goal.returns-clause-wrote
returns-clause-wrote g c =
    wrote_text
    (ap (λ ends. all_told (map (end_told c.args.ended.now.ins) ends)) (take_all c.loop-end.end-index c.ring_ends-end-items.result.now (omega (arith, c.loop-end-test.false)) ∙ c.ring_ends-end-items.ensures.ends))
    c.loop-end.invariant.wrote
