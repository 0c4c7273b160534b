-- The history of an order with one act more, its record, and how many lines each actor has done then.
use Rattle.std.specs.Prelude.{◌≡◌, ℕ, ◌+◌, ◌<◌, ◌≤◌, ◌==◌, List, [], ◌∷◌, ◌++◌, fold, length}
use Rattle.std.proofs.{Common.{arith, refl, ap, ◌∙◌, cond, get_or, set, inl, inr}, lemmas.Bool.{cases_eq}}
use Rattle.std.proofs.lemmas.{Bool.Decides.{nat_tests}, Grind.{get_or-set_at}, List.{get_or-set_other, Sums.{sum_by_push}}}
use Rattle.perf_base.specs.{declared.{acts.Act.{Act}, numbers.{CpuNo.{CpuNo}, ToolNo.{ToolNo}}}, Scripts.{Scripted}}
use Rattle.perf_base.specs.declared.acts.Act.TheVariants as act
use Rattle.stage_spec.specs.{Hardware.{hardware_of}, History.{Step, steps_of, history, opening_stage}}
use Rattle.stage_spec.{specs.Order.{is_of_cpu, is_of_tool, done_by_cpu, done_by_tool}, proofs.Recurrence.{steps-push}}
use Rattle.ring_spec.specs.Running.{first_record, record_after, record_of}
use Rattle.machine.specs.{Given.{record_by}, Leading.{record_in}}

pub history-grows : (s : Scripted) (acts : List Act) (a : Act) → history s (acts ++ a ∷ []) ≡ history s acts ++ steps_of s acts a
history-grows s acts a = steps-push s [] acts a

pub history-push : (s : Scripted) (acts : List Act) (a : Act) (x : Step) → steps_of s acts a ≡ x ∷ [] → history s (acts ++ a ∷ []) ≡ history s acts ++ x ∷ []
history-push s acts a x e = history-grows s acts a ∙ ap (λ xs. history s acts ++ xs) e

fold-push : {X Y : Type 0} (f : Y → X → Y) (y : Y) (xs : List X) (x : X) → fold f y (xs ++ x ∷ []) ≡ f (fold f y xs) x
fold-push f y [] x = refl
fold-push f y (z ∷ xs) x = fold-push f (f y z) xs x

-- the record with one step more is the one after that step, and so it is with one act more
pub record-more : (s : Scripted) (steps : List Step) (x : Step) → record_by s (steps ++ x ∷ []) ≡ record_after (hardware_of s) (record_by s steps) x
unfolding record_of
record-more s steps x = fold-push (record_after (hardware_of s)) (first_record (opening_stage s) s.rings) steps x

pub record-push : (s : Scripted) (acts : List Act) (a : Act) (x : Step) → steps_of s acts a ≡ x ∷ [] → record_in s (acts ++ a ∷ []) ≡ record_after (hardware_of s) (record_in s acts) x
record-push s acts a x e = ap (record_by s) (history-push s acts a x e) ∙ record-more s (history s acts) x

-- one of the counts in a list rises
pub raised : (counts : List ℕ) (i j : ℕ) → i < length counts → get_or (set counts i (get_or counts i 0 + 1)) j 0 ≡ get_or counts j 0 + cond (i == j) 1 0
raised counts i j l = grind (arith, get_or-set_at, get_or-set_other, nat_tests)

pub cpu-push : (acts : List Act) (cpu own : CpuNo) → done_by_cpu own (acts ++ act.Processor cpu ∷ []) ≡ done_by_cpu own acts + cond (cpu.0 == own.0) 1 0
cpu-push acts cpu own = sum_by_push (λ a. cond (is_of_cpu own a) 1 0) acts (act.Processor cpu)

pub cpu-other : (acts : List Act) (tool : ToolNo) (own : CpuNo) → done_by_cpu own (acts ++ act.Tool tool ∷ []) ≡ done_by_cpu own acts
cpu-other acts tool own = sum_by_push (λ a. cond (is_of_cpu own a) 1 0) acts (act.Tool tool) ∙ omega arith

pub tool-push : (acts : List Act) (tool own : ToolNo) → done_by_tool own (acts ++ act.Tool tool ∷ []) ≡ done_by_tool own acts + cond (tool.0 == own.0) 1 0
tool-push acts tool own = sum_by_push (λ a. cond (is_of_tool own a) 1 0) acts (act.Tool tool)

pub tool-other : (acts : List Act) (cpu : CpuNo) (own : ToolNo) → done_by_tool own (acts ++ act.Processor cpu ∷ []) ≡ done_by_tool own acts
tool-other acts cpu own = sum_by_push (λ a. cond (is_of_tool own a) 1 0) acts (act.Processor cpu) ∙ omega arith

-- an actor that has a line may have one act more
pub counted-push : (done lines other own : ℕ) → (other ≡ own → done < lines) → done ≤ lines → done + cond (other == own) 1 0 ≤ lines
counted-push done lines other own has within = elim (cases_eq other own) [
  | inl e ↦ omega (arith, has e, one-more other own)
  | inr apart ↦ grind (arith, nat_tests, apart, within)
]
  where
    one-more : (other own : ℕ) → cond (other == own) 1 0 ≤ 1
    one-more other own = grind (arith, nat_tests)

pub cpu-is : (cpu own : CpuNo) → cpu.0 ≡ own.0 → cpu ≡ own
cpu-is cpu own e = λ i. record { 0 = e i }

pub tool-is : (tool own : ToolNo) → tool.0 ≡ own.0 → tool ≡ own
tool-is tool own e = λ i. record { 0 = e i }
