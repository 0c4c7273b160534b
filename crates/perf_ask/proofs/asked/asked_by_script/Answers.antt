use Rattle.std.proofs.Common.{codes, ◌∷◌, [], ap}
use Rattle.perf_ask.proofs.Asking.{none-script}
use Rattle.perf_ask.proofs.asked.asked_by_script.Goals as goal

pub returns-in-None : goal.returns-in-None
returns-in-None c = none-script c.args.word.now c.in-None.ensures

pub returns-in-Some : goal.returns-in-Some
returns-in-Some c =
    let h = c.in-Some.ensures in
    rw c.new.ensures ((h.0, h.1), ap (λ w. codes "make" ∷ w ∷ codes "script" ∷ []) h.2)
