-- What the passes of a processor have, also after some groups went to error.
use Rattle.std.specs.Prelude.{◌≡◌, ℕ, zero, suc, ◌+◌, ◌<◌, ◌≤◌, true, List, [], ◌∷◌, length, Some, take, slice_index_or}
use Rattle.std.proofs.{Common.{arith, sym, ap, subst, ◌∙◌, inl, inr}, Math.Seq.{take-suc}, lemmas.List.{get_or_past, Sums.{fold-append}}}
use Rattle.std.proofs.lemmas.Bool.{cases_lt, false≢true}
use Rattle.perf_base.specs.declared.numbers.{CpuNo.{CpuNo}, Key.{Key}, TaskNo.{TaskNo}}
use Rattle.stage_spec.specs.{Hardware.{Hardware}, Stage.{task_on, status_of, unknown_task, is_live}}
use Rattle.stage_laws.proofs.Counts.{count-append}
use Rattle.world_spec.specs.{Kept.{leads, post_at, IsKept}, Listings.{pass_leaders}, Rescheduled.{fail_group, fail_groups, pinned_leaders}}
use Rattle.world_spec.{specs.{StageOf.{stage_of}, Value.{World, is_key, times}}, proofs.{Failing.{failed-rest}, GoneStage.{AreLeading}}}
use Rattle.world_spec.proofs.{Listings.{reached-leading}, Copies.{times-at}}
use Rattle.cpu_sched.proofs.Telling.{told_all}

-- the task on a processor has a number
pub task-low : (hw : Hardware) (w : World) (cpu : CpuNo) (task : TaskNo) → IsKept hw w → task_on (stage_of w) cpu ≡ Some task → 8 + task.0 < 72
task-low hw w cpu task h on = elim (cases_lt task.0 64) [
  | inl low ↦ omega (arith, low)
  | inr past ↦
      let unknown : status_of (stage_of w) task ≡ unknown_task = get_or_past w.quiet.tasks task.0 unknown_task (omega (arith, past, h.shape.tasks)) in
      absurd (false≢true (ap (λ s. is_live s.state) (sym unknown) ∙ h.running.live cpu task on))
]

-- the passes go by the contexts and by what runs
pub same-passes : (w v : World) (cpu : CpuNo) → w.contexts ≡ v.contexts → w.quiet ≡ v.quiet → pass_leaders w cpu ≡ pass_leaders v cpu
same-passes w v cpu contexts quiet = λ i. pass_leaders (record v { contexts = contexts i; quiet = quiet i }) cpu

pub failed-passes : (keys : List Key) (w : World) (cpu : CpuNo) → pass_leaders (fail_groups keys w) cpu ≡ pass_leaders w cpu
failed-passes keys w cpu = same-passes (fail_groups keys w) w cpu (failed-rest keys w).0 (failed-rest keys w).1

pub failed-running : (keys : List Key) (w : World) → length (fail_groups keys w).quiet.running ≡ length w.quiet.running
failed-running keys w = ap (λ q. length q.running) (failed-rest keys w).1

-- a key of a pass is one of all
in-pass : (q : Key) (ps : List (List Key)) (pass : ℕ) → times q (slice_index_or ps pass []) ≤ times q (told_all ps)
in-pass q [] pass = omega arith
in-pass q (p ∷ ps) zero = omega (arith, count-append (is_key q) p (told_all ps))
in-pass q (p ∷ ps) (suc pass) = omega (arith, count-append (is_key q) p (told_all ps), in-pass q ps pass)

pub pass-leads : (hw : Hardware) (w : World) (cpu : CpuNo) (pass : ℕ) → IsKept hw w → AreLeading w (slice_index_or (pass_leaders w cpu) pass [])
pass-leads hw w cpu pass h q some = reached-leading hw w h cpu q (omega (arith, some, in-pass q (pass_leaders w cpu) pass))

-- the leader at a place of a pass
pub leads-at : (hw : Hardware) (w : World) (cpu : CpuNo) (pass place : ℕ) (d : Key) (keys : List Key) → IsKept hw w → keys ≡ slice_index_or (pass_leaders w cpu) pass [] → place < length keys
    → leads (post_at w) (slice_index_or keys place d) ≡ true
leads-at hw w cpu pass place d keys h is low =
    subst (λ ks. 1 ≤ times (slice_index_or keys place d) ks → leads (post_at w) (slice_index_or keys place d) ≡ true) (sym is) (pass-leads hw w cpu pass h (slice_index_or keys place d))
    (times-at keys place d low)

-- one group more goes to error
pub failed-next : (keys : List Key) (place : ℕ) (d : Key) (w : World) → place < length keys
    → fail_group (fail_groups (take place keys) w) (slice_index_or keys place d) ≡ fail_groups (take (place + 1) keys) w
failed-next keys place d w low =
    let one : place + 1 ≡ suc place = omega arith in
    sym (ap (λ ks. fail_groups ks w) (ap (λ n. take n keys) one ∙ take-suc keys place d low) ∙ fold-append fail_group w (take place keys) (slice_index_or keys place d ∷ []))

-- both pinned passes
pub failed-both : (w : World) (cpu : CpuNo)
    → fail_groups (slice_index_or (pass_leaders w cpu) 1 []) (fail_groups (slice_index_or (pass_leaders w cpu) 0 []) w) ≡ fail_groups (pinned_leaders w cpu) w
failed-both w cpu = sym (fold-append fail_group w (slice_index_or (pass_leaders w cpu) 0 []) (slice_index_or (pass_leaders w cpu) 1 []))

-- the leaders of a pass after some groups went to error
pub failed-list : (keys done : List Key) (v w : World) (cpu : CpuNo) (pass : ℕ) → w ≡ fail_groups done v → keys ≡ slice_index_or (pass_leaders w cpu) pass [] → keys ≡ slice_index_or (pass_leaders v cpu) pass []
failed-list keys done v w cpu pass after is = grind (arith, failed-passes)
