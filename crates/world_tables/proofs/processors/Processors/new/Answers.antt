use Rattle.std.proofs.{Common.{arith, ◌≡◌, ℕ, ap, ◌∙◌, List, take, map, None, slice_index}, lemmas.List.{take_all}}
use Rattle.counter_match.specs.Seating.{empty_seating}
use Rattle.world_tables.{specs.Places.{places}, proofs.Parts.{idle-made}}
use Rattle.world_tables.proofs.processors.Processors.new.Goals as goal

pub returns-clause-idle : goal.returns-clause-idle
returns-clause-idle c =
    let whole : take c.loop-cpu.cpu c.args.pmus.now.cpu_pmus ≡ c.args.pmus.now.cpu_pmus = take_all c.loop-cpu.cpu c.args.pmus.now.cpu_pmus (omega (arith, c.cpus-cpus.ensures.number, c.loop-cpu-test.false)) in
    ap places c.loop-cpu.invariant
    ∙ (ap (λ (l : List ℕ). places (map (λ pmu. record { running = None; seats = empty_seating (slice_index c.args.pmus.now.counters pmu) }) l)) whole
    ∙ idle-made c.args.pmus.now c.args.pmus.now.cpu_pmus)
