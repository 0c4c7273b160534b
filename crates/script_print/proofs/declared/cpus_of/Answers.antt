use Rattle.std.{proofs.Common.{◌≡◌, ◌≢◌, ◌+◌, sym, ap, subst, ◌∙◌, rules}, specs.Int.{bit_at}}
use Rattle.script_print.proofs.Masks.{mask_at, IsGathered, own_bit, other_bit, IsGathered-own, IsGathered-other, gathered}
use Rattle.script_print.proofs.declared.cpus_of.Goals.{then-pmu_of_cpu-pmu, else-pmu_of_cpu-pmu}
use Rattle.script_print.proofs.declared.cpus_of.Goals as goal

pub loop-cpu-preserved : goal.loop-cpu-preserved
loop-cpu-preserved c =
    let pmus = c.args.script.now.pmus in
    let own : bit_at (mask_at pmus c.pmu_of_cpu.result) c.loop-cpu.cpu ≡ 1 =
    own_bit pmus c.pmu_of_cpu.result (record { 0 = c.loop-cpu.cpu }) c.pmu_of_cpu.ensures.within c.pmu_of_cpu.ensures.has in
    elim c.if-pmu_of_cpu-pmu.branch [
      | then-pmu_of_cpu-pmu w ↦
          let same : c.pmu_of_cpu.result ≡ c.args.pmu = search rules in
          let one : bit_at (mask_at pmus c.args.pmu) c.loop-cpu.cpu ≡ 1 = ap (λ k. bit_at (mask_at pmus k) c.loop-cpu.cpu) (sym same) ∙ own in
          subst (IsGathered pmus c.args.pmu (c.loop-cpu.cpu + 1)) (sym (ap (λ s. s.0) w.set-is ∙ w.insert.ensures)) (IsGathered-own pmus c.args.pmu c.loop-cpu.cpu c.loop-cpu.set.0 c.loop-cpu.invariant one)
      | else-pmu_of_cpu-pmu w ↦
          let other : c.pmu_of_cpu.result ≢ c.args.pmu = search rules in
          let none : bit_at (mask_at pmus c.args.pmu) c.loop-cpu.cpu ≡ 0 =
          other_bit pmus c.pmu_of_cpu.result c.args.pmu c.loop-cpu.cpu c.cpus-cpu-end.ensures.sound.pmus_apart c.pmu_of_cpu.ensures.within c.requires.within other own in
          subst (IsGathered pmus c.args.pmu (c.loop-cpu.cpu + 1)) (sym (ap (λ s. s.0) w.set-is)) (IsGathered-other pmus c.args.pmu c.loop-cpu.cpu c.loop-cpu.set.0 c.loop-cpu.invariant none)
    ]

pub returns : goal.returns
returns c =
    let all : c.loop-cpu.cpu ≡ c.args.script.now.cpus = search rules in
    gathered c.args.script.now c.args.pmu c.loop-cpu.set c.cpus-cpu-end.ensures.sound c.requires.within (subst (λ n. IsGathered c.args.script.now.pmus c.args.pmu n c.loop-cpu.set.0) all c.loop-cpu.invariant)
