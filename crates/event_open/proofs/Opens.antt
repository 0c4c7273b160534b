-- The line of an open has made its change.
use Rattle.std.specs.Prelude.{◌≡◌, ℕ, ◌+◌, ◌<◌, ◌≤◌, ◌==◌, ◌↔◌, Bool, true, false, ◌||◌, List, [], ◌∷◌, ◌++◌, length, Option, Some, None, is_some, slice_index_or, if◌then◌else◌}
use Rattle.std.{specs.List.{list_any}, proofs.{Common.{arith, refl, sym, ap, subst, ◌∙◌, inl, inr}, lemmas.Bool.{cases_eq, false≢true}}}
use Rattle.std.proofs.lemmas.List.Folds.{list_any-append}
use Rattle.perf_base.specs.{Cpus.{HasCpu}, Scripts.{IsCpuSel}, declared.attr.{Attr.{Attr}, CpuSel.{CpuSel}, TaskSel.{TaskSel}}}
use Rattle.perf_base.specs.declared.numbers.{CpuNo.{CpuNo}, CpuSet.{CpuSet}, EventNo.{EventNo}, Key.{Key}, TaskNo.{TaskNo}}
use Rattle.perf_base.specs.{declared.standing.Context.{Context}, Contexts.{context_of, context_by}}
use Rattle.perf_base.specs.declared.attr.CpuSel.TheVariants as cpus
use Rattle.perf_base.specs.declared.attr.TaskSel.TheVariants as tasks
use Rattle.perf_base.specs.declared.lines.ToolLine.TheVariants as line
use Rattle.perf_base.specs.declared.standing.Context.TheVariants as context
use Rattle.stage_spec.specs.{Hardware.{Hardware}, History.{Step, ToolStep}, Opening.{open_refusal, opened, is_used}, Shares.{no_sums}, Stage.{Stage}}
use Rattle.stage_spec.proofs.Recurrence.{plus-none}
use Rattle.stage_laws.specs.Narrowing.{has_context, unless_left, unless_no}
use Rattle.world_spec.specs.{Adding.{Newcomer, add}, Kept.{IsKept}, Lines.{HasChanged}, Rescheduled.{AreUntouchedOutside}, Staying.{HasCome}}
use Rattle.world_spec.specs.{StageOf.{stage_of}, Value.{World, is_live, entry_at, instance_at, account_at}}
use Rattle.world_spec.proofs.{Families.{open-is}, Keys.{key-is}, Quiet.{quiet-keeps}}
use Rattle.event_open.{proofs.Refusing.{none-holds}, specs.Opened.{opened_as, IsOpenedAs}}
use Rattle.perf_world.proofs.Clear.{neither}
use Rattle.stage_spec.proofs.Carried.{used_refuses, no_fault}

-- What a newcomer leaves and draws, whether it is led or not.
record Draws (w v : World) (n : Newcomer) : Type 0 where
  hardware : v.hardware ≡ w.hardware
  running : v.quiet.running ≡ w.quiet.running
  clocks : v.quiet.clocks ≡ w.quiet.clocks
  totals : v.quiet.totals ≡ w.quiet.totals
  next : v.quiet.next_id ≡ w.quiet.next_id + 1
  used : v.quiet.used ≡ (if n.copy then w.quiet.used else w.quiet.used ++ n.event ∷ [])

added-draws : (w : World) (key : Key) (n : Newcomer) (leader : Option Key) → Draws w (add key (record n { leader = leader }) w) n
added-draws w key n None = record { hardware = refl; running = refl; clocks = refl; totals = refl; next = refl; used = refl }
added-draws w key n (Some leader) = record { hardware = refl; running = refl; clocks = refl; totals = refl; next = refl; used = refl }

-- a slot that is current after the open was so before it
-- the processor that an attribute within the limits names
processor-in : Context → ℕ
processor-in (context.Processor cpu) = cpu.0
processor-in (context.Task task) = 0

named-low : (running : List (Option TaskNo)) (task : TaskSel) (place : CpuSel) (cpu : CpuNo) → 1 ≤ length running → IsCpuSel (length running) place → context_by task place ≡ context.Processor cpu
    → cpu.0 < length running
unfolding processor-in
named-low running (tasks.One task) place cpu some within is = absurd (cc)
named-low running tasks.All (cpus.One own) cpu some within is = omega (arith, within, ap processor-in is)
named-low running tasks.All cpus.Any cpu some within is = omega (arith, some, ap processor-in is)

pub open-changed : (w v : World) (slot : EventNo) (a : Attr) (leader : Option EventNo) (set : CpuSet) → IsKept w.hardware w → IsKept v.hardware v → 1 ≤ length w.quiet.running
    → IsCpuSel (length w.quiet.running) a.cpu → open_refusal w.hardware (stage_of w) slot a leader ≡ None → IsOpenedAs w v (opened_as w slot a leader) → stage_of v ≡ opened (stage_of w) slot a leader
    → ((cpu : CpuNo) → cpu.0 < length w.quiet.running → (HasCpu set cpu ↔ (has_context (stage_of w) cpu (context_of a) ≡ true))) → ((cpu : CpuNo) → HasCpu set cpu → cpu.0 < length w.quiet.running)
    → AreUntouchedOutside set w v → HasChanged (ToolStep (line.Open slot a leader)) w v set
open-changed w v slot a leader set h h_then some place accepted o stage touched within others =
    let n : Newcomer = opened_as w slot a leader in
    let key : Key = o.key in
    let come : HasCome w v key n = o.come in
    let step : Step = ToolStep (line.Open slot a leader) in
    let draws : Draws w v n = subst (λ (y : World). Draws w y n) (sym o.world) (added-draws w key n n.leader) in
    let born : (k : Key) → k.0 ≡ key.0 → (instance_at v k).id ≡ w.quiet.next_id = λ k e. ap (λ q. (instance_at v q).id) (key-is k key e) ∙ ap (λ i. i.id) come.instance in
    record {
      accepted = accepted;
      made = record {
        stage = stage ∙ sym (ap (λ r. unless_left r (λ s. opened s slot a leader) (stage_of w)) accepted);
        drawn = omega (arith, draws.next);
        old = λ k live before.
            let apart : k.0 ≡ key.0 → ⊥ = λ e. omega (arith, before, born k e) in
            quiet-keeps w.hardware w v step k h refl (record {
              live = sym (come.others.live k apart) ∙ live;
              id = ap (λ i. i.id) (come.others.instances k apart);
              account = come.others.accounts k apart;
            });
        new = λ k live past. elim (cases_eq k.0 key.0) [
          | inl e ↦ grind (arith, key-is, e)
          | inr apart ↦
              let was : is_live w k ≡ true = sym (come.others.live k apart) ∙ live in
              absurd (omega (arith, past, ap (λ i. i.id) (come.others.instances k apart), (h.numbered.drawn k was).1))
        ];
        slots = λ e current. elim (cases_eq e.0 slot.0) [
          | inl same ↦ inr (ap (λ m. is_used (stage_of w) (record { 0 = m })) same ∙ used_refuses w.hardware (stage_of w) slot a leader accepted)
          | inr apart ↦ elim current [
            | inl opened_then ↦
                inl (open-is w.hardware w e h ∙ (ap (λ f. is_some f.original) (sym (come.families e apart)) ∙ (sym (open-is v.hardware v e h_then) ∙ opened_then)))
            | inr unused ↦
                inr (neither (is_used (stage_of w) e) (list_any (λ f. f.0 == e.0) (slot ∷ []))
                (sym (list_any-append (λ f. f.0 == e.0) w.quiet.used (slot ∷ [])) ∙ (ap (list_any (λ f. f.0 == e.0)) (sym draws.used) ∙ unused)))
          ]
        ];
        folded = λ e current. (
          [],
          record {
            leaving = refl;
            live = λ k some. absurd (omega (arith, some));
            sums = ap (λ f. slice_index_or f e.0 no_sums) come.folded ∙ sym (plus-none (slice_index_or w.folded e.0 no_sums));
          },
        );
        lost = λ e. ap (λ l. slice_index_or l e.0 0) come.others.lost;
        clock = λ cpu. let same : slice_index_or v.quiet.clocks cpu.0 0 ≡ slice_index_or w.quiet.clocks cpu.0 0 = ap (λ l. slice_index_or l cpu.0 0) draws.clocks in omega (arith, same);
      };
      hardware = draws.hardware;
      running = ap length draws.running;
      totals = draws.totals;
      homes = λ homes k cpu live at.
          let low : cpu.0 < length w.quiet.running = elim (cases_eq k.0 key.0) [
            | inl e ↦ grind (arith, key-is, e, named-low)
            | inr apart ↦ homes k cpu (sym (come.others.live k apart) ∙ live) (sym (come.others.contexts k apart) ∙ at)
          ] in
          omega (arith, low, ap length draws.running);
      touched = λ cpu low. subst (λ r. HasCpu set cpu ↔ (unless_no r (has_context (stage_of w) cpu (context_of a)) ≡ true)) (sym accepted) (touched cpu low);
      within = within;
      others = others;
    }
