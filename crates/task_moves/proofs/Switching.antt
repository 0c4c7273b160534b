-- That a switch is one of a task that is free, and that other processors stand as they stood.
use Rattle.std.specs.Prelude.{◌≡◌, ◌≢◌, ◌<◌, ◌==◌, Bool, true, false, not, [], ◌∷◌, map, filter, Option, Some, None, slice_index_or, slice_set}
use Rattle.std.{specs.{FinMap.{get}, Option.{unwrap_or}}, proofs.{Common.{refl, sym, ap, subst, ◌∙◌}, lemmas.Bool.{false≢true}}}
use Rattle.std.proofs.lemmas.List.{get_or-set_other}
use Rattle.perf_base.specs.declared.{numbers.{CpuNo.{CpuNo}, Key.{Key}, TaskNo.{TaskNo}}, reasons.Reason.{Reason}, standing.Context.{Context}}
use Rattle.perf_base.specs.declared.reasons.Reason.TheVariants as reason
use Rattle.perf_base.specs.declared.standing.Context.TheVariants as context
use Rattle.perf_base.specs.declared.standing.Standing.TheVariants as standing
use Rattle.stage_spec.specs.{Hardware.{Hardware}, Refusals.{first_of, holds_of}}
use Rattle.stage_spec.specs.{Stage.{Stage, lists_of, task_on, cpu_of, status_of, is_live}, declared.instance.TaskState.{TaskState}}
use Rattle.stage_spec.specs.{Switching.{is_running, switch_refusal, put_on, switched}, Verdict.{is_eligible, passes, task_lists}}
use Rattle.stage_spec.specs.declared.instance.TaskState.TheVariants as state
use Rattle.stage_laws.{specs.{Narrowing.{has_context}, Standings.{brief_of}}, proofs.Tasks.{free-task, has-same}}
use Rattle.counter_match.specs.Seating.{empty_seating}
use Rattle.world_spec.specs.{Changes.{place}, Kept.{post_at, leads, IsKept}, Laws.{IsFree}, Rescheduled.{IsUntouched}, StageOf.{group_at, stage_of}}
use Rattle.world_spec.{specs.Value.{World, entry_at}, proofs.Standing.{left-untouched}}

-- of two reasons in their order, neither holds where there is none
none-first : (r t : Reason) (a b : Bool) → first_of ((r, a) ∷ (t, b) ∷ []) ≡ None → (a ≡ false) × (b ≡ false)
none-first r t true b h = absurd (cc)
none-first r t false true h = absurd (cc)
none-first r t false false h = (refl, refl)

-- a task that may be switched to is free
is-live : (s : TaskState) → not (is_live s) ≡ false → s ≡ state.Live
is-live state.Unknown h = absurd (false≢true (sym h))
is-live state.Live h = refl
is-live state.Exited h = absurd (false≢true (sym h))

pub free-to : (hw : Hardware) (w : World) (cpu : CpuNo) (to : Option TaskNo) → IsKept hw w → switch_refusal (stage_of w) cpu to ≡ None → (t : TaskNo) → to ≡ Some t → IsFree w cpu t
free-to hw w cpu to h accepted t is =
    let none : (not (is_live (status_of (stage_of w) t).state) ≡ false) × (holds_of (λ other. not (other.0 == cpu.0)) (cpu_of (stage_of w) t) ≡ false) =
    none-first reason.NoTask reason.Busy (not (is_live (status_of (stage_of w) t).state)) (holds_of (λ other. not (other.0 == cpu.0)) (cpu_of (stage_of w) t))
    (subst (λ o. switch_refusal (stage_of w) cpu o ≡ None) is accepted) in
    record {
      live = is-live (status_of (stage_of w) t).state none.0;
      on_no_other = λ other on. free-task (stage_of w) cpu other t h.running none.1 on;
    }

pub switched-on : (s : Stage) (cpu : CpuNo) (to : Option TaskNo) → is_running (task_on s cpu) to ≡ false → put_on cpu to s ≡ switched cpu to s
unfolding switched
switched-on s cpu to h = sym (ap {B = Stage} (λ b. elim b as (λ x. Stage) [ true ↦ s | false ↦ put_on cpu to s ]) h)

-- What a placed task changes: what runs on its processor, and where the task was last.
placed-running : (cpu : CpuNo) (to : Option TaskNo) (w : World) → (place cpu to w).quiet.running ≡ slice_set w.quiet.running cpu.0 to
placed-running cpu None w = refl
placed-running cpu (Some task) w = refl

pub record IsPlacedOnly (w x : World) : Type 0 where
  pub entries : x.entries ≡ w.entries
  pub standings : x.standings ≡ w.standings
  pub contexts : x.contexts ≡ w.contexts
  pub seats : x.quiet.seats ≡ w.quiet.seats

placed-only : (cpu : CpuNo) (to : Option TaskNo) (w : World) → IsPlacedOnly w (place cpu to w)
placed-only cpu None w = record { entries = refl; standings = refl; contexts = refl; seats = refl }
placed-only cpu (Some task) w = record { entries = refl; standings = refl; contexts = refl; seats = refl }

-- Another processor runs what it ran, and stands as it stood.
passes-same : (w x : World) (other : CpuNo) → IsPlacedOnly w x → task_on (stage_of x) other ≡ task_on (stage_of w) other → passes (stage_of x) other ≡ passes (stage_of w) other
passes-same w x other only on =
    let lists : (c : Context) → lists_of (stage_of x) c ≡ lists_of (stage_of w) c = λ c. λ i. lists_of (stage_of (record w { entries = only.entries i; contexts = only.contexts i })) c in
    let task : (o : Option TaskNo) → task_lists (stage_of x) o ≡ task_lists (stage_of w) o = λ o. λ i. task_lists (stage_of (record w { entries = only.entries i; contexts = only.contexts i })) o in
    let both : task_lists (stage_of x) (task_on (stage_of x) other) ≡ task_lists (stage_of w) (task_on (stage_of w) other) = ap (task_lists (stage_of x)) on ∙ task (task_on (stage_of w) other) in
    λ i. (lists (context.Processor other) i).pinned ∷ (both i).pinned ∷ (lists (context.Processor other) i).flexible ∷ (both i).flexible ∷ []

pub others-stay : (hw : Hardware) (w x : World) (cpu other : CpuNo) (to : Option TaskNo) → x ≡ place cpu to w → other.0 < 8 → other.0 ≢ cpu.0 → IsUntouched hw w x other
others-stay hw w x cpu other to is low apart =
    let only : IsPlacedOnly w x = subst (IsPlacedOnly w) (sym is) (placed-only cpu to w) in
    let on : task_on (stage_of x) other ≡ task_on (stage_of w) other =
    ap (λ (y : World). slice_index_or y.quiet.running other.0 None) is
    ∙ (ap (λ r. slice_index_or r other.0 None) (placed-running cpu to w) ∙ get_or-set_other w.quiet.running cpu.0 other.0 to None apart) in
    let groups : (k : Key) → group_at x k ≡ group_at w k = λ k. λ i. group_at (record w { entries = only.entries i }) k in
    let posts : post_at x ≡ post_at w = λ i. post_at (record w { entries = only.entries i }) in
    let same : passes (stage_of x) other ≡ passes (stage_of w) other = passes-same w x other only on in
    left-untouched hw w x other low (record {
      briefs = ap (map (λ pass. map (brief_of hw) (filter (is_eligible hw other) pass))) same;
      seats = ap (λ seats. slice_index_or seats other.0 (empty_seating 0)) only.seats;
      groups = λ k lead there. (
        ap (λ at. leads at k) (sym posts) ∙ lead,
        sym (has-same (stage_of w) (stage_of x) other (entry_at w k).context on) ∙ (ap (λ at. has_context (stage_of x) other (at k).context) (sym posts) ∙ there),
        ap (λ at. (at k).id) posts,
        ap (λ st. unwrap_or (get st k.0) standing.Out) only.standings,
      );
    })
