use Rattle.std.proofs.{Common.{◌≡◌, ◌∙◌, Some, None, arith, sym, inl, inr}, lemmas.{Bool.{cases_lt}, List.{get_or_past}}}
use Rattle.perf_world.proofs.settling.processor_with.Goals as goal

pub returns-clause-nowhere : goal.returns-clause-nowhere
returns-clause-nowhere c cpu on = elim (cases_lt cpu.0 c.args.cpus) [
  | inl low ↦ c.loop-cpu.invariant cpu (omega (arith, low, c.loop-cpu-test.false)) on
  | inr past ↦ (let e : None ≡ Some c.args.task = sym (get_or_past c.args.processors.now.running cpu.0 None (omega (arith, past, c.requires))) ∙ on in absurd (cc e))
]
