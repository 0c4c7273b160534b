-- inner
-- How many records lines send at most. This project's own profile.
use Rattle.std.specs.Prelude.{◌≡◌, ℕ, ◌*◌, ◌<◌, ◌≤◌, ◌⊎◌, Bool, false, All, List, length, count_by, sum_by}
use Rattle.perf_base.specs.{declared.{numbers.{RingNo.{RingNo}, TaskNo.{TaskNo}}, acts.Act.{Act}}, Scripts.{Scripted, IsScript, IsCovered}}
use Rattle.perf_base.specs.Weight.{period_of, opens_sampling, line_shares, weight}
use Rattle.stage_spec.specs.{Hardware.{Hardware, hardware_of}, Stage.{first_stage}, Limits.{Limits, IsMachine, AreTaskNumbers}}
use Rattle.stage_spec.specs.History.{Step, CpuStep, ToolStep, SeenStep, history, opening_stage}
use Rattle.stage_laws.specs.Bounds.{IsLineWithin}
use Rattle.ring_spec.specs.{Records.{words_of}, Sending.{sent_by_steps}, Rings.{account_in}}

-- of a step: the period that its line gives, whether it opens an event with a period, and how often its occurrences
-- fill a period
abbrev pub period_by : Step → ℕ
period_by (CpuStep cpu line) = 0
period_by (ToolStep line) = period_of line
period_by (SeenStep ring place) = 0

abbrev pub opens_by : Step → Bool
opens_by (CpuStep cpu line) = false
opens_by (ToolStep line) = opens_sampling line
opens_by (SeenStep ring place) = false

abbrev pub shares_by : ℕ → Step → ℕ
shares_by period (CpuStep cpu line) = line_shares period line
shares_by period (ToolStep line) = 0
shares_by period (SeenStep ring place) = 0

-- the steps' opens with a period, times their occurrences by a period, each rounded up
abbrev pub weight_by : ℕ → List Step → ℕ
weight_by period steps = count_by opens_by steps * sum_by (shares_by period) steps

-- each period that a line gives is at least so long
abbrev pub IsLeast : ℕ → List Step → Type 0
IsLeast period steps = All (λ x. (period_by x ≡ 0) ⊎ (period ≤ period_by x)) steps

-- No more records are sent than the weight of the steps by the least period that a line gives, or a lesser one.
abbrev pub FewSentLaw : Type 0
FewSentLaw = (l : Limits) (hw : Hardware) (declared : List TaskNo) (steps : List Step) (period : ℕ) → IsMachine l hw → AreTaskNumbers declared → All (IsLineWithin l) steps
    → 0 < period → IsLeast period steps → length (sent_by_steps hw (first_stage l.cpus declared) steps) ≤ weight_by period steps

-- No more records are sent over an order of a script, each of whose processors is of some PMU, than the script weighs,
-- and no ring gets more than 9 words for each.
abbrev pub FewOfScriptLaw : Type 0
FewOfScriptLaw = (s : Scripted) (order : List Act) → IsScript s → IsCovered s
    → length (sent_by_steps (hardware_of s) (opening_stage s) (history s order)) ≤ weight s

abbrev pub FewWordsLaw : Type 0
FewWordsLaw = (s : Scripted) (order : List Act) (ring : RingNo × ℕ) → IsScript s → IsCovered s
    → length (words_of (account_in s order ring).written) ≤ 9 * weight s
