use Rattle.std.proofs.{Common.{◌≡◌, length, sym, ◌∙◌, rules}, lemmas.Slice.Eq.{bytes_eq-Decides}}
use Rattle.script_read.proofs.Completed.{cpus_iff, tools_iff}
use Rattle.script_read.proofs.order.order_complete.Goals as goal

pub returns-then-eq : goal.returns-then-eq
returns-then-eq c =
    let eight : length c.lines_done.result.0 ≡ 8 = search rules in
    let four : length c.lines_done.result.1 ≡ 4 = search rules in
    let cpus = cpus_iff c.args.script.now c.order.ensures.sound c.lines_done.result.0 eight (rw c.order.ensures.order at c.lines_done.ensures.cpus) in
    let tools = tools_iff c.args.script.now c.order.ensures.sound c.lines_done.result.1 four (rw c.order.ensures.order at c.lines_done.ensures.tools) in
    let same = (bytes_eq-Decides c.lines_done.result.0 c.lines_of_cpus.result).0 (sym c.eq.ensures ∙ c.if-eq.true) ∙ c.lines_of_cpus.ensures.counts in (
      λ t. record { cpus = λ cpu. cpus.0 same cpu.0; tools = λ tool. tools.0 ((bytes_eq-Decides c.lines_done.result.1 c.lines_of_tools.result).0 (sym c.eq-then-eq.ensures ∙ t) ∙ c.lines_of_tools.ensures.counts) tool.0 },
      λ whole. c.eq-then-eq.ensures ∙ (bytes_eq-Decides c.lines_done.result.1 c.lines_of_tools.result).1 (tools.1 (λ m. whole.tools (record { 0 = m })) ∙ sym c.lines_of_tools.ensures.counts),
    )

pub returns-else-eq : goal.returns-else-eq
returns-else-eq c =
    let eight : length c.lines_done.result.0 ≡ 8 = search rules in
    let cpus = cpus_iff c.args.script.now c.order.ensures.sound c.lines_done.result.0 eight (rw c.order.ensures.order at c.lines_done.ensures.cpus) in
    (λ t. absurd cc, λ whole. c.eq.ensures ∙ (bytes_eq-Decides c.lines_done.result.0 c.lines_of_cpus.result).1 (cpus.1 (λ m. whole.cpus (record { 0 = m })) ∙ sym c.lines_of_cpus.ensures.counts))
