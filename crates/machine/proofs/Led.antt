-- Where acts of a script lead to a machine, the lines that they do lead there as given lines.
use Rattle.std.specs.Prelude.{◌≡◌, ℕ, ◌+◌, ◌<◌, ◌≤◌, ◌==◌, true, Bool, false, cond, List, [], ◌∷◌, ◌++◌, count_by, length, Option, Some, None}
use Rattle.std.proofs.{Common.{arith, refl, sym, subst, ◌∙◌, append_assoc}, lemmas.Bool.{false≢true, Decides.{nat_tests}}}
use Rattle.std.proofs.lemmas.{Option.{none-some, slice_get-get_or}}
use Rattle.perf_base.specs.declared.{acts.Act.{Act}, lines.{CpuLine.{CpuLine}, ToolLine.{ToolLine}}, numbers.CpuNo.{CpuNo}}
use Rattle.perf_base.specs.Scripts.{Scripted, IsScript, lines_of_cpu}
use Rattle.perf_base.specs.declared.acts.Act.TheVariants as act
use Rattle.perf_base.specs.declared.lines.CpuLine.TheVariants as cpu_line
use Rattle.stage_spec.specs.History.{CpuStep, ToolStep, SeenStep, cpu_steps, tool_steps, steps_of, steps_from, history}
use Rattle.stage_spec.specs.Order.{done_by_cpu, is_of_cpu, next_of_cpu, next_of_tool}
use Rattle.stage_laws.specs.Bounds.{is_line}
use Rattle.ring_laws.proofs.{Orders.{cpus_from, none_done, tools_from, within}, Reached.{count-one}}
use Rattle.machine.{specs.Given.{LedByActsLaw, is_line_of}, proofs.History.{cpu-is}}
use Rattle.stage_laws.proofs.Counts.{count-append}
use Rattle.ring_laws.proofs.Small.{lines_counted, all_ones}

-- the lines of an order are at most those of the script
abbrev one_tool : ToolLine → ℕ
one_tool line = 1

abbrev one_cpu : CpuLine → ℕ
one_cpu line = 1

few-lines : (s : Scripted) (acts : List Act) → IsScript s → count_by is_line (history s acts) ≤ 16384
few-lines s acts h = omega (arith, lines_counted, tools_from, cpus_from, none_done, all_ones)

-- An act of a processor that has a line left does one line of it.
of-cpu : (other cpu : CpuNo) (line : Option CpuLine) → ((other.0 == cpu.0) ≡ true → line ≡ None → ⊥)
    → count_by (is_line_of cpu) (cpu_steps other line) ≡ cond (other.0 == cpu.0) 1 0
of-cpu other cpu None there = grind (arith, nat_tests)
of-cpu other cpu (Some line) there = omega (arith, count-one (is_line_of cpu) (CpuStep other line) [])

of-tool : (cpu : CpuNo) (line : Option ToolLine) → count_by (is_line_of cpu) (tool_steps line) ≡ 0
of-tool cpu None = refl
of-tool cpu (Some line) = omega (arith, count-one (is_line_of cpu) (ToolStep line) [])

some-line : (s : Scripted) (before : List Act) (cpu : CpuNo) → done_by_cpu cpu before < length (lines_of_cpu s cpu) → next_of_cpu s before cpu ≡ None → ⊥
some-line s before cpu low none = none-some _ (sym none ∙ slice_get-get_or (lines_of_cpu s cpu) (done_by_cpu cpu before) cpu_line.Tick low)

same-cpu : (other cpu : CpuNo) → (other.0 == cpu.0) ≡ true → other.0 ≡ cpu.0
same-cpu other cpu e = grind (arith, nat_tests)

of-act : (s : Scripted) (before : List Act) (cpu : CpuNo) (a : Act) → (is_of_cpu cpu a ≡ true → done_by_cpu cpu before < length (lines_of_cpu s cpu))
    → count_by (is_line_of cpu) (steps_of s before a) ≡ cond (is_of_cpu cpu a) 1 0
of-act s before cpu (act.Processor other) low = of-cpu other cpu (next_of_cpu s before other) (λ own none.
    let is : other ≡ cpu = cpu-is other cpu (same-cpu other cpu own) in
    some-line s before cpu (low own) (subst (λ (c : CpuNo). next_of_cpu s before c ≡ None) is none))
of-act s before cpu (act.Tool tool) low = of-tool cpu (next_of_tool s before tool)
of-act s before cpu (act.Seen ring place) low = omega (arith, count-one (is_line_of cpu) (SeenStep ring place) [])

-- where it is the act's turn, a line is left
has-left : (own : Bool) (done rest lines : ℕ) → done + (cond own 1 0 + rest) ≤ lines → own ≡ true → done < lines
has-left true done rest lines h on = omega (arith, h)
has-left false done rest lines h on = absurd (false≢true on)

own-lines : (s : Scripted) (before acts : List Act) (cpu : CpuNo) → done_by_cpu cpu (before ++ acts) ≤ length (lines_of_cpu s cpu)
    → count_by (is_line_of cpu) (steps_from s before acts) ≡ done_by_cpu cpu acts
unfolding steps_from
own-lines s before [] cpu h = refl
own-lines s before (a ∷ acts) cpu h =
    let all : done_by_cpu cpu before + (cond (is_of_cpu cpu a) 1 0 + done_by_cpu cpu acts) ≤ length (lines_of_cpu s cpu) =
    omega (arith, h, count-append (is_of_cpu cpu) before (a ∷ acts), count-one (is_of_cpu cpu) a acts) in
    omega (
      arith,
      count-append (is_line_of cpu) (steps_of s before a) (steps_from s (before ++ a ∷ []) acts),
      of-act s before cpu a (has-left (is_of_cpu cpu a) (done_by_cpu cpu before) (done_by_cpu cpu acts) (length (lines_of_cpu s cpu)) all),
      own-lines s (before ++ a ∷ []) acts cpu (subst (λ (l : List Act). done_by_cpu cpu l ≤ length (lines_of_cpu s cpu)) (sym (append_assoc before (a ∷ []) acts)) h),
      count-one (is_of_cpu cpu) a acts,
    )

pub led-by-acts : LedByActsLaw
led-by-acts s acts m h led = record {
  within = within s [] acts h;
  few = few-lines s acts h;
  cpus = λ cpu. led.cpus cpu ∙ sym (own-lines s [] acts cpu (led.counted.cpus cpu));
  hardware = led.hardware;
  agrees = led.agrees;
  ends = led.ends;
}
