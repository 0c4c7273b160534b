use Rattle.std.proofs.{Common.{◌≡◌, ◌≤◌, ◌<◌, ◌+◌, ◌*◌, All, length, take, get_or, [], sym, ap, subst, ◌∙◌, arith}, lemmas.List.{take_all}}
use Rattle.std.{proofs.lemmas.List.Sums.{sum_by_more, sum_by-take-le}, specs.Prelude.{sum_by}}
use Rattle.perf_base.{specs.{Scripts.{IsScript}, Light.{IsLight}, Weight.{line_shares}}, proofs.Weights.{lines_light, lines_few, sum_few}}
use Rattle.perf_base.proofs.script.Script.shares_of.Goals.{After-shares_in-sum, After-cpu_lines}
use Rattle.perf_base.proofs.script.Script.shares_of.Goals as goal

within : (c : After-cpu_lines) → c.loop-cpu.cpu < length c.args.self.now.cpu_lines
within c = omega (arith, c.cpu_lines.ensures.sound.processors)

pub shares_in-sum-requires : goal.shares_in-sum-requires
shares_in-sum-requires c =
    let sound = c.cpu_lines.ensures.sound in
    let is : get_or c.args.self.now.cpu_lines c.loop-cpu.cpu [] ≡ c.cpu_lines.result.now = sym c.cpu_lines.ensures.lines in
    record {
      period = c.requires;
      light = subst (All IsLight) is (lines_light (length c.args.self.now.kinds) (get_or c.args.self.now.cpu_lines c.loop-cpu.cpu []) (sound.cpu_lines c.loop-cpu.cpu [] (within c)));
      few = subst (λ ls. length ls ≤ 16384) is (lines_few c.args.self.now c.loop-cpu.cpu sound (within c));
    }

both : (c : After-shares_in-sum) → (c.loop-cpu.sum + c.shares_in-sum.result ≤ sum_by length (take (c.loop-cpu.cpu + 1) c.args.self.now.cpu_lines) * 16000000000) × (c.loop-cpu.sum + c.shares_in-sum.result ≤ 16384 * 16000000000)
both c =
    let l : c.loop-cpu.cpu < length c.args.self.now.cpu_lines = omega (arith, c.cpu_lines.ensures.sound.processors) in
    let few : c.shares_in-sum.result ≤ length (get_or c.args.self.now.cpu_lines c.loop-cpu.cpu []) * 16000000000 =
    subst (λ ls. c.shares_in-sum.result ≤ length ls * 16000000000) c.cpu_lines.ensures.lines c.shares_in-sum.ensures.few in
    sum_few c.args.self.now.cpu_lines c.loop-cpu.cpu c.loop-cpu.sum c.shares_in-sum.result l (omega (arith, c.cpu_lines.ensures.sound.lines_few)) c.loop-cpu.invariant.few few

pub overflow_add-sum : goal.overflow_add-sum
overflow_add-sum c = omega (arith, (both c).1)

pub loop-cpu-preserved : goal.loop-cpu-preserved
loop-cpu-preserved c =
    let l : c.loop-cpu.cpu < length c.args.self.now.cpu_lines = omega (arith, c.cpu_lines.ensures.sound.processors) in
    let m = sum_by_more (sum_by (line_shares c.args.period)) c.args.self.now.cpu_lines c.loop-cpu.cpu [] l in
    let here : c.shares_in-sum.result ≡ sum_by (line_shares c.args.period) (get_or c.args.self.now.cpu_lines c.loop-cpu.cpu []) =
    c.shares_in-sum.ensures.sum ∙ ap (sum_by (line_shares c.args.period)) c.cpu_lines.ensures.lines in
    record { sound = λ _. c.cpu_lines.ensures.sound; sum = omega (arith, m, here, c.loop-cpu.invariant.sum); few = (both c).0 }

pub returns-clause-sum : goal.returns-clause-sum
returns-clause-sum c =
    let sound : IsScript c.args.self.now = c.loop-cpu.invariant.sound (omega arith) in
    c.loop-cpu.invariant.sum ∙ ap (sum_by (sum_by (line_shares c.args.period))) (take_all c.loop-cpu.cpu c.args.self.now.cpu_lines (omega (arith, sound.processors)))

pub returns-clause-few : goal.returns-clause-few
returns-clause-few c =
    let sound : IsScript c.args.self.now = c.loop-cpu.invariant.sound (omega arith) in
    omega (arith, c.loop-cpu.invariant.few, sum_by-take-le length c.args.self.now.cpu_lines c.loop-cpu.cpu, sound.lines_few)
