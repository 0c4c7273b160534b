-- believed
-- What is left of an instance's period over a history. After period_left and perf_event_period of
-- kernel/events/core.c, which restarts the remainder too.
use Rattle.std.specs.{Prelude.{◌≡◌, ℕ, ◌==◌, Bool, true, false, ◌&&◌, List, [], ◌∷◌, ◌++◌, find, Option, Some, None}, List.{list_any}}
use Rattle.perf_base.specs.declared.{lines.ToolLine.{ToolLine}, reasons.Reason.{Reason}}
use Rattle.perf_base.specs.declared.lines.ToolLine.TheVariants as tool_line
use Rattle.stage_spec.specs.{declared.instance.Instance.{Instance}, Hardware.{Hardware}, Stage.{Stage, all_instances, is_original}}
use Rattle.stage_spec.specs.{Commands.{period_refusal}, History.{Step, CpuStep, ToolStep, SeenStep, stage_step, stage_after}, Shares.{share}}
use Rattle.stage_spec.specs.Occurrences.{left_after}

-- the instance of an id, and its present period
abbrev pub instance_of : Stage → ℕ → Option Instance
instance_of s id = find (λ i. i.id == id) (all_instances s)

abbrev pub period_in : Option Instance → ℕ
period_in None = 0
period_in (Some i) = i.attr.period

-- the new period of an original that a step sets, if it sets one
abbrev pub period_unless : Option Reason → Bool → ℕ → Option ℕ
period_unless (Some r) reached period = None
period_unless None reached period = elim reached [ true ↦ Some period | false ↦ None ]

abbrev pub line_period : Stage → ToolLine → ℕ → Option ℕ
line_period s (tool_line.Period event period) id =
    period_unless (period_refusal s event period) (list_any (λ i. i.id == id && is_original event i) (all_instances s)) period
line_period s _ id = None

abbrev pub new_period : Stage → Step → ℕ → Option ℕ
new_period s (CpuStep cpu line) id = None
new_period s (ToolStep line) id = line_period s line id
new_period s (SeenStep ring place) id = None

-- What a step leaves of the remainder. A new period is whole, and so is the period of an instance that the step makes;
-- else the occurrences of the step are taken off, one by one.
abbrev pub left_by_hits : Hardware → Stage → Step → ℕ → Option Instance → ℕ → ℕ
left_by_hits hw s x id None left = period_in (instance_of (stage_step hw s x) id)
left_by_hits hw s x id (Some i) left = left_after (share hw s x id).count i.attr.period left

abbrev pub left_by_period : Hardware → Stage → Step → ℕ → Option ℕ → ℕ → ℕ
left_by_period hw s x id (Some period) left = period
left_by_period hw s x id None left = left_by_hits hw s x id (instance_of s id) left

abbrev pub left_by : Hardware → Stage → Step → ℕ → ℕ → ℕ
left_by hw s x id left = left_by_period hw s x id (new_period s x id) left

-- the remainder of the instance of an id after some steps, the first of them at a stage and with a remainder
unfoldable pub remainder_from : Hardware → Stage → ℕ → List Step → ℕ → ℕ
remainder_from hw s left [] id = left
remainder_from hw s left (x ∷ steps) id = remainder_from hw (stage_step hw s x) (left_by hw s x id left) steps id

unfoldable pub remainder_of : Hardware → Stage → List Step → ℕ → ℕ
remainder_of hw s steps id = remainder_from hw s 0 steps id

-- what one more step leaves of a remainder
abbrev pub RemainderLaw : Type 0
RemainderLaw = (hw : Hardware) (s : Stage) (steps : List Step) (x : Step) (id : ℕ)
    → remainder_of hw s (steps ++ x ∷ []) id ≡ left_by hw (stage_after hw s steps) x id (remainder_of hw s steps id)
