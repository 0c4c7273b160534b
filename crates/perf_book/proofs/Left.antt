-- The lines that actors have left.
use Rattle.std.specs.Prelude.{◌≡◌, ℕ, ◌+◌, ◌-◌, ◌<◌, ◌≤◌, true, nat_lt, List, [], ◌∷◌, ◌++◌, length, count_by}
use Rattle.std.proofs.{Common.{arith, refl, sym, subst, inl, inr}, lemmas.{Bool.{cases_lt, Decides.{nat_tests}}, List.{get_or_past}}}
use mathlib.Core.List.{IsPrefix}
use Rattle.perf_base.specs.declared.{acts.{Act.{Act}, Actor.{Actor}}, numbers.{CpuNo.{CpuNo}, ToolNo.{ToolNo}}}
use Rattle.perf_base.specs.Scripts.{Scripted, lines_of_cpu, lines_of_tool}
use Rattle.perf_base.specs.declared.acts.Act.TheVariants as act
use Rattle.perf_base.specs.declared.acts.Actor.TheVariants as actor
use Rattle.stage_laws.proofs.Counts.{count-append}
use Rattle.stage_spec.specs.Order.{IsComplete, done_by_cpu, done_by_tool, is_of_cpu, is_of_tool}
use Rattle.machine.specs.Leading.{HasLine}
use Rattle.perf_book.specs.{Book.{Booked, IsBooked}, Plans.{actor_at}}

-- how many lines of an actor are left behind an order
abbrev pub lines_left : Scripted → List Act → Actor → ℕ
lines_left s order (actor.Processor cpu) = length (lines_of_cpu s cpu) - done_by_cpu cpu order
lines_left s order (actor.Tool tool) = length (lines_of_tool s tool) - done_by_tool tool order
lines_left s order (actor.Reader ring) = 0
lines_left s order actor.Watcher = 0

-- an actor has a line where some are left
pub has-left : (x : Booked) (a : Actor) → IsBooked x → HasLine x.script x.machine a → 0 < lines_left x.script x.order a
has-left x (actor.Processor cpu) h line = omega (arith, line, h.led.cpus cpu)
has-left x (actor.Tool tool) h line = omega (arith, line, h.led.tools tool)
has-left x (actor.Reader ring) h line = absurd line
has-left x actor.Watcher h line = absurd line

pub left-has : (x : Booked) (a : Actor) → IsBooked x → 0 < lines_left x.script x.order a → HasLine x.script x.machine a
left-has x (actor.Processor cpu) h left = omega (arith, left, h.led.cpus cpu)
left-has x (actor.Tool tool) h left = omega (arith, left, h.led.tools tool)
left-has x (actor.Reader ring) h left = omega (arith, left)
left-has x actor.Watcher h left = omega (arith, left)

-- no more are left behind a longer order
left-more : (s : Scripted) (a : Actor) (order more : List Act) → lines_left s (order ++ more) a ≤ lines_left s order a
left-more s (actor.Processor cpu) order more = omega (arith, count-append (is_of_cpu cpu) order more)
left-more s (actor.Tool tool) order more = omega (arith, count-append (is_of_tool tool) order more)
left-more s (actor.Reader ring) order more = omega arith
left-more s actor.Watcher order more = omega arith

-- an actor that has no line left has none later
pub still-none : (x y : Booked) (a : Actor) → IsBooked x → IsBooked y → y.script ≡ x.script → IsPrefix x.order y.order → (HasLine x.script x.machine a → ⊥) → HasLine y.script y.machine a → ⊥
still-none x y a hx hy same grows none line = grind (arith, nat_tests, has-left, left-has, left-more)

-- one fewer is left once a line is done
one-cpu : (cpu : CpuNo) → count_by (is_of_cpu cpu) (act.Processor cpu ∷ []) ≡ 1
one-cpu cpu = grind (arith, nat_tests)

one-tool : (tool : ToolNo) → count_by (is_of_tool tool) (act.Tool tool ∷ []) ≡ 1
one-tool tool = grind (arith, nat_tests)

-- the processors and tools stand at their numbers
cpu-at : (cpu : CpuNo) → cpu.0 < 8 → actor_at cpu.0 ≡ actor.Processor cpu
cpu-at cpu low = let its : nat_lt cpu.0 8 ≡ true = grind (arith, nat_tests, low) in rw its refl

tool-at : (tool : ToolNo) → actor_at (tool.0 + 8) ≡ actor.Tool tool
tool-at tool = grind (arith, nat_tests)

-- An order is complete where no processor and no tool has a line left.
pub all-done : (x : Booked) → IsBooked x → ((place : ℕ) → place < 12 → HasLine x.script x.machine (actor_at place) → ⊥) → IsComplete x.script x.order
all-done x h none = record {
  cpus = λ cpu. elim (cases_lt cpu.0 8) [
    | inl low ↦
        let past : length (lines_of_cpu x.script cpu) ≤ done_by_cpu cpu x.order = elim (cases_lt (done_by_cpu cpu x.order) (length (lines_of_cpu x.script cpu))) [
          | inl left ↦ absurd (none cpu.0 (omega (arith, low)) (subst (HasLine x.script x.machine) (sym (cpu-at cpu low)) (left-has x (actor.Processor cpu) h (omega (arith, left)))))
          | inr past ↦ past
        ] in
        omega (arith, past, h.led.counted.cpus cpu)
    | inr high ↦ grind (arith, nat_tests, get_or_past, high)
  ];
  tools = λ tool. elim (cases_lt tool.0 4) [
    | inl low ↦
        let past : length (lines_of_tool x.script tool) ≤ done_by_tool tool x.order = elim (cases_lt (done_by_tool tool x.order) (length (lines_of_tool x.script tool))) [
          | inl left ↦ absurd (none (tool.0 + 8) (omega (arith, low)) (subst (HasLine x.script x.machine) (sym (tool-at tool)) (left-has x (actor.Tool tool) h (omega (arith, left)))))
          | inr past ↦ past
        ] in
        omega (arith, past, h.led.counted.tools tool)
    | inr high ↦ grind (arith, nat_tests, get_or_past, high)
  ];
}
