-- That quiet steps leave accounts, and refused steps the world.
use Rattle.std.specs.{Prelude.{◌≡◌, ℕ, ◌<◌, Bool, true, false, not, ◌&&◌, ◌==◌, [], ◌∷◌, filter, Option, Some, None, slice_index_or}, List.{list_any}}
use Rattle.std.proofs.{Common.{arith, refl, sym, ap}, lemmas.Bool.{false≢true}}
use Rattle.perf_base.specs.declared.{lines.{CpuLine.{CpuLine}, ToolLine.{ToolLine}}, numbers.{CpuNo.{CpuNo}, EventNo.{EventNo}, Key.{Key}}}
use Rattle.perf_base.specs.declared.{numbers.TaskNo.{TaskNo}, reasons.Reason.{Reason}, reply.Sums.{Sums}}
use Rattle.perf_base.specs.declared.lines.CpuLine.TheVariants as cpu_line
use Rattle.perf_base.specs.declared.lines.ToolLine.TheVariants as tool_line
use Rattle.perf_base.specs.declared.reasons.Reason.TheVariants as reasons
use Rattle.stage_spec.specs.{Commands.{targets, is_reached}, Families.{leaving, leaving_by}, Hardware.{Hardware}}
use Rattle.stage_spec.specs.History.{Step, CpuStep, ToolStep, SeenStep, stage_step, unless_refused, cpu_changed, tool_changed, cpu_refusal, tool_refusal}
use Rattle.stage_spec.specs.{Occurrences.{left_after}, Refusals.{first_of}}
use Rattle.stage_spec.specs.Remainders.{period_unless, new_period, left_by}
use Rattle.stage_spec.specs.Shares.{share, no_sums, changes_task, switch_share}
use Rattle.stage_spec.specs.{Stage.{Stage, is_open, is_idle, is_of_family, groups_in, members, all_instances, is_original, task_on}, Sums.{resets}}
use Rattle.stage_spec.{specs.{Switching.{is_running}, Verdict.{task_lists}}, proofs.Recurrence.{plus-none}}
use Rattle.ring_spec.specs.Sending.{length_by}
use Rattle.world_spec.specs.{Kept.{IsKept}, StageOf.{stage_of}, Value.{World, is_live, instance_at}, Stepping.{HasItsShare}}
use Rattle.world_spec.specs.Quiet.{is_quiet, is_quiet_line, is_quiet_call, step_refusal, KeepsAccount, QuietLaw, RefusedLaw}
use Rattle.world_spec.proofs.Stepping.{instance-found}

-- What a step that gives nothing and sets no period leaves of the remainder of an instance.
record GivesNothing (hw : Hardware) (s : Stage) (x : Step) (id : ℕ) : Type 0 where
  share : share hw s x id ≡ no_sums
  resets : resets s x id ≡ false
  period : new_period s x id ≡ None

pub none-after : (period left : ℕ) → left_after 0 period left ≡ left
unfolding left_after
none-after period left = refl

left-stays : (hw : Hardware) (w : World) (x : Step) (k : Key) (left : ℕ) → IsKept hw w → is_live w k ≡ true → GivesNothing hw (stage_of w) x (instance_at w k).id
    → left_by hw (stage_of w) x (instance_at w k).id left ≡ left
left-stays hw w x k left h live g = grind (arith, instance-found, none-after)

shares-none : (hw : Hardware) (w after : World) (x : Step) (k : Key) → IsKept hw w → KeepsAccount w after k → GivesNothing hw (stage_of w) x (instance_at w k).id → HasItsShare hw w after x k
shares-none hw w after x k h keeps g = grind (arith, plus-none, left-stays)

-- quiet steps
quiet-line : (hw : Hardware) (s : Stage) (cpu : CpuNo) (line : CpuLine) (id : ℕ) → is_quiet_line line ≡ true → GivesNothing hw s (CpuStep cpu line) id
unfolding share
quiet-line hw s cpu (cpu_line.Switch to) id h = absurd (false≢true h)
quiet-line hw s cpu (cpu_line.Work w) id h = absurd (false≢true h)
quiet-line hw s cpu cpu_line.Tick id h = record { share = refl; resets = refl; period = refl }
quiet-line hw s cpu (cpu_line.Fork child) id h = record { share = refl; resets = refl; period = refl }
quiet-line hw s cpu cpu_line.Exit id h = record { share = refl; resets = refl; period = refl }

quiet-call : (hw : Hardware) (s : Stage) (line : ToolLine) (id : ℕ) → is_quiet_call line ≡ true → GivesNothing hw s (ToolStep line) id
unfolding share
quiet-call hw s (tool_line.Open slot attr leader) id h = record { share = refl; resets = refl; period = refl }
quiet-call hw s (tool_line.Enable event group) id h = record { share = refl; resets = refl; period = refl }
quiet-call hw s (tool_line.Disable event group) id h = record { share = refl; resets = refl; period = refl }
quiet-call hw s (tool_line.Reset event group) id h = absurd (false≢true h)
quiet-call hw s (tool_line.Period event period) id h = absurd (false≢true h)
quiet-call hw s (tool_line.Read event size) id h = record { share = refl; resets = refl; period = refl }
quiet-call hw s (tool_line.Map event ring) id h = record { share = refl; resets = refl; period = refl }
quiet-call hw s (tool_line.Output event target) id h = record { share = refl; resets = refl; period = refl }
quiet-call hw s (tool_line.Close event) id h = record { share = refl; resets = refl; period = refl }
quiet-call hw s (tool_line.Why event) id h = record { share = refl; resets = refl; period = refl }
quiet-call hw s (tool_line.Seats cpu) id h = record { share = refl; resets = refl; period = refl }

quiet-gives : (hw : Hardware) (s : Stage) (x : Step) (id : ℕ) → is_quiet x ≡ true → GivesNothing hw s x id
unfolding share
quiet-gives hw s (CpuStep cpu line) id h = quiet-line hw s cpu line id h
quiet-gives hw s (ToolStep line) id h = quiet-call hw s line id h
quiet-gives hw s (SeenStep ring place) id h = record { share = refl; resets = refl; period = refl }

pub quiet-keeps : QuietLaw
quiet-keeps hw w after x k h quiet keeps = shares-none hw w after x k h keeps (quiet-gives hw (stage_of w) x (instance_at w k).id quiet)

-- refused steps
refused-line : (hw : Hardware) (s : Stage) (cpu : CpuNo) (line : CpuLine) (id : ℕ) (r : Reason) → cpu_refusal s cpu line ≡ Some r → GivesNothing hw s (CpuStep cpu line) id
unfolding share
refused-line hw s cpu (cpu_line.Switch to) id r h = record {
  share = ap {B = Sums} (λ o. elim (changes_task o (is_running (task_on s cpu) to)) as (λ b. Sums) [ true ↦ switch_share hw s cpu to id | false ↦ no_sums ]) h;
  resets = refl;
  period = refl;
}
refused-line hw s cpu (cpu_line.Work w) id r h = absurd (cc)
refused-line hw s cpu cpu_line.Tick id r h = record { share = refl; resets = refl; period = refl }
refused-line hw s cpu (cpu_line.Fork child) id r h = record { share = refl; resets = refl; period = refl }
refused-line hw s cpu cpu_line.Exit id r h = record { share = refl; resets = refl; period = refl }

-- a reset that is refused is of an event that is not open
not-open : (b : Bool) (r : Reason) → first_of ((reasons.NoEvent, not b) ∷ []) ≡ Some r → b ≡ false
not-open true r h = absurd (cc)
not-open false r h = refl

refused-call : (hw : Hardware) (s : Stage) (line : ToolLine) (id : ℕ) (r : Reason) → tool_refusal hw s line ≡ Some r → GivesNothing hw s (ToolStep line) id
unfolding share
refused-call hw s (tool_line.Open slot attr leader) id r h = record { share = refl; resets = refl; period = refl }
refused-call hw s (tool_line.Enable event group) id r h = record { share = refl; resets = refl; period = refl }
refused-call hw s (tool_line.Disable event group) id r h = record { share = refl; resets = refl; period = refl }
refused-call hw s (tool_line.Reset event group) id r h = record {
  share = refl;
  resets = ap (λ b. b && list_any (λ i. i.id == id && is_reached (targets s event group) i) (all_instances s)) (not-open (is_open s event) r h);
  period = refl;
}
refused-call hw s (tool_line.Period event period) id r h = record {
  share = refl;
  resets = refl;
  period = ap (λ o. period_unless o (list_any (λ i. i.id == id && is_original event i) (all_instances s)) period) h;
}
refused-call hw s (tool_line.Read event size) id r h = record { share = refl; resets = refl; period = refl }
refused-call hw s (tool_line.Map event ring) id r h = record { share = refl; resets = refl; period = refl }
refused-call hw s (tool_line.Output event target) id r h = record { share = refl; resets = refl; period = refl }
refused-call hw s (tool_line.Close event) id r h = record { share = refl; resets = refl; period = refl }
refused-call hw s (tool_line.Why event) id r h = record { share = refl; resets = refl; period = refl }
refused-call hw s (tool_line.Seats cpu) id r h = record { share = refl; resets = refl; period = refl }

refused-gives : (hw : Hardware) (w : World) (x : Step) (id : ℕ) (r : Reason) → step_refusal hw w x ≡ Some r → GivesNothing hw (stage_of w) x id
refused-gives hw w (CpuStep cpu line) id r h = refused-line hw (stage_of w) cpu line id r h
refused-gives hw w (ToolStep line) id r h = refused-call hw (stage_of w) line id r h
refused-gives hw w (SeenStep ring place) id r h = absurd (cc)

refused-stage : (hw : Hardware) (w : World) (x : Step) (r : Reason) → step_refusal hw w x ≡ Some r → stage_of w ≡ stage_step hw (stage_of w) x
unfolding stage_step
refused-stage hw w (CpuStep cpu line) r h = sym (ap (λ o. unless_refused hw o (cpu_changed hw cpu line) (stage_of w)) h)
refused-stage hw w (ToolStep line) r h = sym (ap (λ o. unless_refused hw o (tool_changed line) (stage_of w)) h)
refused-stage hw w (SeenStep ring place) r h = refl

-- no copy goes by it, and no clock moves
idle-none : (o : Option TaskNo) (r : Reason) → first_of ((reasons.Idle, is_idle o) ∷ []) ≡ Some r → o ≡ None
idle-none None r h = refl
idle-none (Some task) r h = absurd (cc)

line-leaves : (s : Stage) (cpu : CpuNo) (line : CpuLine) (e : EventNo) (r : Reason) → cpu_refusal s cpu line ≡ Some r → leaving_by s cpu line e ≡ []
line-leaves s cpu (cpu_line.Switch to) e r h = refl
line-leaves s cpu (cpu_line.Work w) e r h = refl
line-leaves s cpu cpu_line.Tick e r h = refl
line-leaves s cpu (cpu_line.Fork child) e r h = refl
line-leaves s cpu cpu_line.Exit e r h = ap (λ o. filter (λ i. is_of_family e i && i.copy) (members (groups_in (task_lists s o)))) (idle-none (task_on s cpu) r h)

refused-leaves : (hw : Hardware) (w : World) (x : Step) (e : EventNo) (r : Reason) → step_refusal hw w x ≡ Some r → leaving (stage_of w) x e ≡ []
refused-leaves hw w (CpuStep cpu line) e r h = line-leaves (stage_of w) cpu line e r h
refused-leaves hw w (ToolStep line) e r h = refl
refused-leaves hw w (SeenStep ring place) e r h = refl

line-still : (s : Stage) (cpu own : CpuNo) (line : CpuLine) (r : Reason) → cpu_refusal s own line ≡ Some r → length_by cpu (CpuStep own line) ≡ 0
line-still s cpu own (cpu_line.Switch to) r h = refl
line-still s cpu own (cpu_line.Work w) r h = absurd (cc)
line-still s cpu own cpu_line.Tick r h = refl
line-still s cpu own (cpu_line.Fork child) r h = refl
line-still s cpu own cpu_line.Exit r h = refl

refused-still : (hw : Hardware) (w : World) (cpu : CpuNo) (x : Step) (r : Reason) → step_refusal hw w x ≡ Some r → length_by cpu x ≡ 0
refused-still hw w cpu (CpuStep own line) r h = line-still (stage_of w) cpu own line r h
refused-still hw w cpu (ToolStep line) r h = refl
refused-still hw w cpu (SeenStep ring place) r h = refl

pub refused-steps : RefusedLaw
refused-steps hw w x r h refused = record {
  stage = refused-stage hw w x r refused;
  drawn = omega arith;
  old = λ k live before. shares-none hw w w x k h (record { live = live; id = refl; account = refl }) (refused-gives hw w x (instance_at w k).id r refused);
  new = λ k live past. let low : (instance_at w k).id < w.quiet.next_id = (h.numbered.drawn k live).1 in absurd (omega (arith, low, past));
  slots = λ e current. current;
  folded = λ e current. (
    [],
    record {
      leaving = refused-leaves hw w x e r refused;
      live = λ k some. absurd (omega (arith, some));
      sums = sym (plus-none (slice_index_or w.folded e.0 no_sums));
    },
  );
  lost = λ e. refl;
  clock = λ cpu. let none : length_by cpu x ≡ 0 = refused-still hw w cpu x r refused in omega (arith, none);
}
