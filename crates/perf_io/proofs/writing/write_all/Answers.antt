use Rattle.std.proofs.{Common.{◌≡◌, ◌-◌, ◌∙◌, length, take, drop, arith, length-drop}, lemmas.Grind.{common_steps}}
use Rattle.perf_io.proofs.Additions.{Adds-more}
use Rattle.perf_io.proofs.writing.write_all.Goals as goal

pub loop-done-preserved : goal.loop-done-preserved
loop-done-preserved g c =
    let rest : take (length c.args.piece.now - c.loop-done.done) (drop c.loop-done.done c.args.piece.now) ≡ drop c.loop-done.done c.args.piece.now =
    grind (arith, common_steps) in
    record {
      within = omega (arith, length-drop c.loop-done.done c.args.piece.now, c.in_ok-done.ensures.within);
      count = omega (arith, c.loop-done.invariant.count, c.in_ok-done.ensures.count);
      added = Adds-more _ _ _ _ _ _ c.loop-done.invariant.added (rw rest at c.in_ok-done.ensures.added);
      flushed = c.in_ok-done.ensures.flushed ∙ c.loop-done.invariant.flushed;
      nothing = λ none. absurd (omega arith);
    }

pub returns-clause-wrote : goal.returns-clause-wrote
returns-clause-wrote g c = grind (arith, common_steps)
