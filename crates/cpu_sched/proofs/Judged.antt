-- A processor all of whose groups were told is judged.
use Rattle.std.specs.Prelude.{◌≡◌, ◌+◌, ◌<◌, ◌≤◌, ◌==◌, Bool, true, false, ◌&&◌, nat_lt, List, [], ◌++◌, length, map, filter, Option, Some, None, if◌then◌else◌}
use Rattle.std.{specs.List.{fold}, proofs.{Common.{arith, refl, sym, ap, subst, ◌∙◌, inl, inr}, lemmas.Bool.{cases_eq, false≢true}}}
use Rattle.std.proofs.lemmas.{Bool.Decides.{nat_tests}, List.{append-nil, length-set, get_or-set_same}}
use Rattle.perf_base.specs.declared.{numbers.{CpuNo.{CpuNo}, Key.{Key}, TaskNo.{TaskNo}}, standing.Context.{Context}}
use Rattle.perf_base.specs.declared.standing.Context.TheVariants as context
use Rattle.stage_spec.specs.{Hardware.{Hardware}}
use Rattle.stage_spec.specs.Stage.{place_of, task_on, is_task}
use Rattle.stage_spec.specs.Verdict.{Judged, is_eligible, judge_passes, verdicts}
use Rattle.stage_laws.{specs.Narrowing.{has_context}, proofs.Counts.{count-append}}
use Rattle.world_spec.specs.{Kept.{leads, post_at, once_if, IsKept}, Listings.{pass_leaders, task_leaders}, Rescheduled.{IsJudged}}
use Rattle.world_spec.specs.{StageOf.{group_at, stage_of}, Value.{World, leaders_of, entry_at, standing_at, seats_at, times}}
use Rattle.world_spec.proofs.Families.{leaders_both, leaders-at}
use Rattle.world_spec.proofs.Listings.{passes-are, reached_leaders, reached-once, reached-context, reached-leading}
use Rattle.cpu_sched.{specs.{declared.judging.SoFar.{SoFar}, Judging.{Tally, tally_in, tally_none, tell_pass, retold}}, proofs.Telling.{Stands, passes-told}}
use Rattle.world_spec.proofs.Tables.{same_number}
use Rattle.world_spec.proofs.Coming.{number_true}
use Rattle.stage_laws.proofs.Briefs.{counted-on}

-- A leader in one of a processor's contexts is among those that it reaches.
led-here : (live here : Bool) → live ≡ true → here ≡ true → once_if (live && here) ≡ 1
led-here true true a b = refl
led-here true false a b = absurd (false≢true b)
led-here false here a b = absurd (false≢true a)

parts-reached : (w : World) (cpu : CpuNo) (q : Key)
    → times q (reached_leaders w cpu) ≡ times q (leaders_both (leaders_of w (context.Processor cpu))) + times q (leaders_both (task_leaders w (task_on (stage_of w) cpu)))
parts-reached w cpu q = grind (arith, nat_tests, count-append)

in-task : (hw : Hardware) (w : World) → IsKept hw w → (q : Key) → leads (post_at w) q ≡ true → (task : TaskNo) → (entry_at w q).context ≡ context.Task task → (o : Option TaskNo) → is_task o task ≡ true
    → times q (leaders_both (task_leaders w o)) ≡ 1
in-task hw w h q lead task at None is = absurd (false≢true is)
in-task hw w h q lead task at (Some other) is =
    leaders-at hw w h q (8 + other.0)
    ∙ led-here (leads (post_at w) q) (place_of (entry_at w q).context == 8 + other.0) lead
    (same_number (place_of (entry_at w q).context) (8 + other.0) (ap place_of at ∙ ap (λ n. 8 + n) (sym (number_true other.0 task.0 is))))

reached-by : (hw : Hardware) (w : World) (cpu : CpuNo) → IsKept hw w → (q : Key) → leads (post_at w) q ≡ true → (c : Context) → (entry_at w q).context ≡ c
    → has_context (stage_of w) cpu c ≡ true → 1 ≤ times q (reached_leaders w cpu)
reached-by hw w cpu h q lead (context.Processor other) at has =
    let same : place_of (entry_at w q).context ≡ place_of (context.Processor cpu) = ap place_of at ∙ ap (λ n. if nat_lt n 8 then n else 72) (number_true other.0 cpu.0 has) in
    grind (arith, parts-reached w cpu q, leaders-at hw w h q (place_of (context.Processor cpu)))
reached-by hw w cpu h q lead (context.Task task) at has = omega (arith, parts-reached w cpu q, in-task hw w h q lead task at (task_on (stage_of w) cpu) has)

pub reached-there : (hw : Hardware) (w : World) (cpu : CpuNo) → IsKept hw w → (q : Key) → leads (post_at w) q ≡ true → has_context (stage_of w) cpu (entry_at w q).context ≡ true
    → 1 ≤ times q (reached_leaders w cpu)
reached-there hw w cpu h q lead has = reached-by hw w cpu h q lead (entry_at w q).context refl has

-- The hardware instances that are on are the members that need counters of the groups that are on.
-- all leaders of a processor are told
abbrev pub all_verdicts : World → CpuNo → List Judged
all_verdicts v cpu = judge_passes v.hardware [] (map (filter (is_eligible v.hardware cpu)) (map (map (group_at v)) (pass_leaders v cpu)))

abbrev pub is_tallied : World → Tally → CpuNo → Type 0
is_tallied v t cpu = t ≡ fold (tell_pass v.hardware cpu (group_at v)) (tally_none v) (pass_leaders v cpu)

-- no group is told yet
pub none-told : (v : World) (cpu : CpuNo) → Stands v cpu v.standings [] [] [] (tally_none v)
none-told v cpu = record {
  groups = refl;
  standings = λ q some. absurd (omega (arith, some));
  others = λ q none. refl;
  events = refl;
  exclusive = refl;
  first = refl;
  refused = refl;
}

pub all-verdicts : (v : World) (cpu : CpuNo) → all_verdicts v cpu ≡ verdicts v.hardware (stage_of v) cpu
unfolding verdicts
all-verdicts v cpu = ap (λ ps. judge_passes v.hardware [] (map (filter (is_eligible v.hardware cpu)) ps)) (sym (passes-are v cpu))

all-told : (v : World) (t : Tally) (cpu : CpuNo) → IsKept v.hardware v → is_tallied v t cpu → Stands v cpu v.standings (reached_leaders v cpu) (all_verdicts v cpu) [] t
all-told v t cpu kept tally =
    subst (Stands v cpu v.standings (reached_leaders v cpu) (all_verdicts v cpu) []) (sym tally)
    (passes-told v cpu v.standings (pass_leaders v cpu) [] [] (tally_none v) kept (reached-leading v.hardware v kept cpu) (reached-once v.hardware v kept cpu) (none-told v cpu))

pub all-judged : (v w : World) (cpu : CpuNo) (f : SoFar) → IsKept v.hardware v → IsKept v.hardware w → cpu.0 < length v.quiet.seats → w ≡ retold cpu v w
    → is_tallied v (tally_in w (seats_at w cpu) f) cpu → IsJudged v.hardware w cpu
all-judged v w cpu f kept kept_now low is tally =
    let hw : Hardware = v.hardware in
    let h : Stands v cpu v.standings (reached_leaders v cpu) (all_verdicts v cpu) [] (tally_in w (seats_at w cpu) f) = all-told v (tally_in w (seats_at w cpu) f) cpu kept tally in
    let whole : all_verdicts v cpu ++ [] ≡ verdicts hw (stage_of v) cpu = grind (arith, nat_tests, append-nil, all-verdicts) in
    let judged_now : IsJudged hw (retold cpu v w) cpu = grind (arith, nat_tests, reached-there, get_or-set_same, counted-on, length-set) in
    subst (λ x. IsJudged hw x cpu) (sym is) judged_now

-- standings of groups elsewhere stay
pub others-stand : (v w : World) (cpu : CpuNo) (f : SoFar) → IsKept v.hardware v → is_tallied v (tally_in w (seats_at w cpu) f) cpu → (q : Key)
    → has_context (stage_of v) cpu (entry_at v q).context ≡ false → standing_at w q ≡ standing_at v q
others-stand v w cpu f kept tally q away =
    (all-told v (tally_in w (seats_at w cpu) f) cpu kept tally).others q (elim (cases_eq (times q (reached_leaders v cpu)) 0) [
      | inl none ↦ none
      | inr more ↦ absurd (false≢true (sym away ∙ reached-context v.hardware v kept cpu q (omega (arith, more))))
    ])
