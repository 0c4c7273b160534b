use Rattle.std.proofs.{Common.{◌≡◌, ℕ, ◌+◌, ◌<◌, eqb, List, get_or, take, length, sym, ap, subst, ◌∙◌, arith}, lemmas.List.{length-set}}
use Rattle.std.specs.Prelude.{count_by}
use Rattle.perf_base.specs.Scripts.{IsAct}
use Rattle.perf_base.specs.declared.acts.Act.TheVariants as act
use Rattle.stage_spec.specs.Order.{is_of_cpu, is_of_tool}
use Rattle.script_read.proofs.{Completed.{one_counted, none_counted_more, cpu_low, tool_low}, order.lines_done.Goals.{in-Processor, in-Tool, in-Seen}}
use Rattle.script_read.proofs.order.lines_done.Goals as goal

pub loop-act-preserved : goal.loop-act-preserved
loop-act-preserved c =
    let order = c.args.order.now in
    let i = c.loop-act.act-index in
    let within = c.loop-act-test.true in
    let so_far = c.loop-act.invariant in
    let of_cpu = λ (m : ℕ). is_of_cpu (record { 0 = m }) in
    let of_tool = λ (m : ℕ). is_of_tool (record { 0 = m }) in
    let CountsCpus = λ (counts : List ℕ). (m : ℕ) → m < 8 → get_or counts m 0 ≡ count_by (of_cpu m) (take (i + 1) order) in
    let CountsTools = λ (counts : List ℕ). (m : ℕ) → m < 4 → get_or counts m 0 ≡ count_by (of_tool m) (take (i + 1) order) in
    let here = c.requires.acts i (act.Processor (record { 0 = 0 })) within in
    elim c.match-act.branch [
      | in-Processor w ↦
          let is = w.in-Processor.is in
          let low = cpu_low c.args.script.now w.in-Processor.cpu c.requires.script.processors (subst (IsAct c.args.script.now) is here) in
          record {
            eight = ap length w.cpus-is ∙ (length-set c.loop-act.cpus _ _ ∙ so_far.eight);
            four = ap length w.tools-is ∙ so_far.four;
            cpus = subst CountsCpus (sym w.cpus-is)
                (one_counted of_cpu c.loop-act.cpus order i w.from.result 8 (act.Processor (record { 0 = 0 })) within (omega (arith, low, w.from.ensures, so_far.eight))
                (λ m. ap (of_cpu m) is ∙ ap (λ k. eqb k m) (sym w.from.ensures)) so_far.cpus);
            tools = subst CountsTools (sym w.tools-is) (none_counted_more of_tool c.loop-act.tools order i 4 (act.Processor (record { 0 = 0 })) within (λ m. ap (of_tool m) is) so_far.tools);
          }
      | in-Tool w ↦
          let is = w.in-Tool.is in
          let low = tool_low c.args.script.now w.in-Tool.tool c.requires.script.tools (subst (IsAct c.args.script.now) is here) in
          record {
            eight = ap length w.cpus-is ∙ so_far.eight;
            four = ap length w.tools-is ∙ (length-set c.loop-act.tools _ _ ∙ so_far.four);
            cpus = subst CountsCpus (sym w.cpus-is) (none_counted_more of_cpu c.loop-act.cpus order i 8 (act.Processor (record { 0 = 0 })) within (λ m. ap (of_cpu m) is) so_far.cpus);
            tools = subst CountsTools (sym w.tools-is)
                (one_counted of_tool c.loop-act.tools order i w.from-in-Tool.result 4 (act.Processor (record { 0 = 0 })) within (omega (arith, low, w.from-in-Tool.ensures, so_far.four))
                (λ m. ap (of_tool m) is ∙ ap (λ k. eqb k m) (sym w.from-in-Tool.ensures)) so_far.tools);
          }
      | in-Seen w ↦
          let is = w.in-Seen.is in
          record {
            eight = ap length w.cpus-is ∙ so_far.eight;
            four = ap length w.tools-is ∙ so_far.four;
            cpus = subst CountsCpus (sym w.cpus-is) (none_counted_more of_cpu c.loop-act.cpus order i 8 (act.Processor (record { 0 = 0 })) within (λ m. ap (of_cpu m) is) so_far.cpus);
            tools = subst CountsTools (sym w.tools-is) (none_counted_more of_tool c.loop-act.tools order i 4 (act.Processor (record { 0 = 0 })) within (λ m. ap (of_tool m) is) so_far.tools);
          }
    ]
