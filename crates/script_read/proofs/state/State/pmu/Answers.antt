use Rattle.std.{proofs.Common.{◌∙◌, sym, ap}, specs.Prelude.{bit_and}}
use Rattle.script_read.proofs.Unions.{union_apart}
use Rattle.script_read.proofs.state.State.pmu.Goals as goal

pub add_pmu-requires-clause-apart : goal.add_pmu-requires-clause-apart
add_pmu-requires-clause-apart c =
    let free = rw c.in_ok-cpus.ensures.ok_part at c.cpu_mask.ensures in
    rw free.1 (union_apart c.args.self.now.script.pmus c.args.own (ap (λ n. bit_and n c.args.own) (sym c.requires.sound.named) ∙ free.0.2))
