use Rattle.std.proofs.Common.{codes, ◌∷◌, [], ap}
use Rattle.perf_ask.proofs.Asking.{none-make}
use Rattle.perf_ask.proofs.asked.asked_by_make.Goals as goal

pub returns-in-None : goal.returns-in-None
returns-in-None c = none-make c.args.word.now c.in-None.ensures

pub returns-in-Some : goal.returns-in-Some
returns-in-Some c =
    let h = c.in-Some.ensures in
    rw c.new.ensures ((h.0, h.1), ap (λ w. codes "make" ∷ w ∷ []) h.2)
