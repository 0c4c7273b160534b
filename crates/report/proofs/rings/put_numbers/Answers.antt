use Rattle.std.proofs.Common.{[], ◌∷◌, ◌++◌, codes, decimal}
use Rattle.perf_io.proofs.Wrote.{wrote_then, wrote_exit}
use Rattle.report.proofs.rings.put_numbers.Goals as goal

pub returns-in_err-put_ring-clause-wrote : goal.returns-in_err-put_ring-clause-wrote
returns-in_err-put_ring-clause-wrote g c =
    let n = c.args.numbers.now in
    wrote_exit ((codes " head=" ++ decimal n.head) ++ ((codes " tail=" ++ decimal n.tail) ++ ((codes " lost=" ++ decimal n.lost) ++ ((codes " pending=" ++ decimal n.pending) ++ 10 ∷ []))))
    c.from_residual.ensures.0 c.in_err-put_ring.ensures.wrote

pub returns-in_err-write_numbered-clause-wrote : goal.returns-in_err-write_numbered-clause-wrote
returns-in_err-write_numbered-clause-wrote g c =
    let n = c.args.numbers.now in
    wrote_then c.in_ok-put_ring.ensures.wrote
    (wrote_exit ((codes " tail=" ++ decimal n.tail) ++ ((codes " lost=" ++ decimal n.lost) ++ ((codes " pending=" ++ decimal n.pending) ++ 10 ∷ [])))
    c.from_residual-in_err-write_numbered.ensures.0 c.in_err-write_numbered.ensures.wrote)

pub returns-in_err-write_numbered-2-clause-wrote : goal.returns-in_err-write_numbered-2-clause-wrote
returns-in_err-write_numbered-2-clause-wrote g c =
    let n = c.args.numbers.now in
    wrote_then c.in_ok-put_ring.ensures.wrote (wrote_then c.in_ok-write_numbered.ensures.wrote
    (wrote_exit ((codes " lost=" ++ decimal n.lost) ++ ((codes " pending=" ++ decimal n.pending) ++ 10 ∷ []))
    c.from_residual-in_err-write_numbered-2.ensures.0 c.in_err-write_numbered-2.ensures.wrote))

pub returns-in_err-write_numbered-3-clause-wrote : goal.returns-in_err-write_numbered-3-clause-wrote
returns-in_err-write_numbered-3-clause-wrote g c =
    let n = c.args.numbers.now in
    wrote_then c.in_ok-put_ring.ensures.wrote (wrote_then c.in_ok-write_numbered.ensures.wrote (wrote_then c.in_ok-write_numbered-2.ensures.wrote
    (wrote_exit ((codes " pending=" ++ decimal n.pending) ++ 10 ∷ []) c.from_residual-in_err-write_numbered-3.ensures.0 c.in_err-write_numbered-3.ensures.wrote)))

pub returns-in_err-write_numbered-4-clause-wrote : goal.returns-in_err-write_numbered-4-clause-wrote
returns-in_err-write_numbered-4-clause-wrote g c =
    wrote_then c.in_ok-put_ring.ensures.wrote (wrote_then c.in_ok-write_numbered.ensures.wrote (wrote_then c.in_ok-write_numbered-2.ensures.wrote
    (wrote_then c.in_ok-write_numbered-3.ensures.wrote (wrote_exit (10 ∷ []) c.from_residual-in_err-write_numbered-4.ensures.0 c.in_err-write_numbered-4.ensures.wrote))))

pub returns-clause-wrote : goal.returns-clause-wrote
returns-clause-wrote g c =
    wrote_then c.in_ok-put_ring.ensures.wrote (wrote_then c.in_ok-write_numbered.ensures.wrote (wrote_then c.in_ok-write_numbered-2.ensures.wrote
    (wrote_then c.in_ok-write_numbered-3.ensures.wrote (wrote_then c.in_ok-write_numbered-4.ensures.wrote c.write_all.ensures.wrote))))
