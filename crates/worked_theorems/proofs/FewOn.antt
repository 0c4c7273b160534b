-- A case in which many events of a processor sample and few of them are on: what a line of work costs there goes by
-- these few.
use Rattle.std.{specs.Prelude.{◌≡◌, ℕ, ◌==◌, Bool, not, List, [], ◌∷◌, count_by, replicate, None, codes}, proofs.Common.{refl}}
use Rattle.perf_base.specs.{declared.{lines.ToolLine.{ToolLine}, numbers.CpuNo.{CpuNo}}, Scripts.{Scripted}}
use Rattle.perf_base.specs.declared.attr.Kind.TheVariants as kind
use Rattle.perf_base.specs.declared.attr.TaskSel.TheVariants as tasks
use Rattle.perf_base.specs.declared.attr.CpuSel.TheVariants as cpus
use Rattle.perf_base.specs.declared.lines.ToolLine.TheVariants as tool_line
use Rattle.stage_spec.specs.{declared.instance.Instance.{Instance}, Hardware.{hardware_of}, Stage.{Stage, first_stage}}
use Rattle.stage_spec.specs.{Fits.{fits, fits_beside, fits_below}, Verdict.{judge, judge_pass, judge_passes, verdicts, on_instances, reached}}
use Rattle.stage_spec.specs.{Settle.{settle_pass, settle, settle_each, settle_all}, Opening.{open_refusal, opened}}
use Rattle.stage_spec.specs.History.{stage_step, stage_after, steps_from, history, opening_stage}
use Rattle.worked_theorems.proofs.answers.Words.{cpu, slot, by_tool, pmu, kind_line, attr, eight, four}

-- an event of the one kind in each of some slots, on the first processor, with a period of 100
pub opens : List ℕ → List ToolLine
opens [] = []
opens (number ∷ numbers) = tool_line.Open (slot number) (attr (kind.Hard 0) tasks.All (cpus.One (cpu 0)) 100 0 0 0) None ∷ opens numbers

-- twelve such events on two counters
pub few_on : Scripted
few_on = record {
  cpus = 1;
  pmus = pmu 2 1 ∷ [];
  kinds = kind_line (codes "cycles") 0 3 ∷ [];
  tasks = [];
  rings = [];
  cpu_lines = eight [];
  tool_lines = four (opens (0 ∷ 1 ∷ 2 ∷ 3 ∷ 4 ∷ 5 ∷ 6 ∷ 7 ∷ 8 ∷ 9 ∷ 10 ∷ 11 ∷ []) ∷ []);
  readers = [];
  order = replicate 12 (by_tool 0);
}

pub samples : Instance → Bool
samples i = not (i.attr.period == 0)

-- how many instances that sample a processor reaches, and how many of them are on
unfoldable pub Counted : Scripted → CpuNo → ℕ → ℕ → Type 0
Counted s cpu reaching on =
    let at : Stage = stage_after (hardware_of s) (opening_stage s) (history s s.order) in
    (count_by samples (reached at cpu) ≡ reaching) × (count_by samples (on_instances (hardware_of s) at cpu) ≡ on)

-- The processor reaches all twelve, and two are on.
pub twelve_sample_and_two_are_on : Counted few_on (cpu 0) 12 2
unfolding Counted few_on opens samples first_stage fits fits_beside fits_below judge judge_pass judge_passes verdicts settle_pass settle settle_each settle_all open_refusal opened stage_step stage_after steps_from
twelve_sample_and_two_are_on = (refl, refl)
