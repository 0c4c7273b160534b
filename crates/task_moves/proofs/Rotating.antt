-- The rotation of a tick by both contexts, what it turns, and that other processors stand as they stood.
use Rattle.std.specs.Prelude.{◌≡◌, ◌≢◌, ◌<◌, ◌==◌, true, false, [], ◌∷◌, map, filter, Option, Some, None, slice_index_or}
use Rattle.std.{specs.{FinMap.{get}, Option.{unwrap_or}}, proofs.Common.{arith, refl, sym, ap, subst, ◌∙◌}}
use Rattle.std.proofs.lemmas.{Bool.{Decides.{nat_tests}}, List.{get_or-set_other}}
use Rattle.perf_base.specs.declared.{numbers.{CpuNo.{CpuNo}, Key.{Key}, TaskNo.{TaskNo}}, standing.Context.{Context}}
use Rattle.perf_base.specs.declared.standing.Context.TheVariants as context
use Rattle.perf_base.specs.declared.standing.Standing.TheVariants as standing
use Rattle.stage_spec.specs.{Hardware.{Hardware}, Rotation.{turn_task, rotated}}
use Rattle.stage_spec.specs.{Stage.{Stage, place_of, task_on, is_task}, History.{stage_step}}
use Rattle.stage_spec.specs.Verdict.{is_eligible, passes, verdicts}
use Rattle.stage_laws.specs.{Narrowing.{has_context}, Standings.{brief_of}, Turns.{flexible_of, is_waiting, ticked, IsTurned}}
use Rattle.stage_laws.proofs.Turns.{tick_turns, settle_all-flexible}
use Rattle.counter_match.specs.Seating.{empty_seating}
use Rattle.world_spec.specs.{Kept.{post_at, leads, IsKept}, Listings.{pass_leaders, task_leaders}, Rescheduled.{IsJudged, IsUntouched}}
use Rattle.world_spec.{specs.{StageOf.{group_at, stage_of}, Value.{World, no_leaders, leaders_of, entry_at, times}}, proofs.Listings.{passes-are}}
use Rattle.world_spec.proofs.{Placing.{task-low}, Standing.{left-untouched}}
use Rattle.task_moves.{specs.Turning.{turn_keys, turn_in, turn_of_task, turned_world}, proofs.Turning.{turn-stage, flexible-once, waits-same}}
use Rattle.stage_spec.proofs.Settled.{place_of-cpu}

-- a processor's place, and a task's
is-own : (cpu : CpuNo) → (cpu.0 == cpu.0) ≡ true
is-own cpu = grind (arith, nat_tests)

runs-it : (s : Stage) (cpu : CpuNo) (task : TaskNo) → task_on s cpu ≡ Some task → is_task (task_on s cpu) task ≡ true
runs-it s cpu task on = ap (λ o. is_task o task) on ∙ (let same : (task.0 == task.0) ≡ true = grind (arith, nat_tests) in same)

-- both contexts are the stage's
task-turned : (hw : Hardware) (w : World) (cpu : CpuNo) (o : Option TaskNo) → IsKept hw w → w.hardware ≡ hw → IsJudged hw w cpu → cpu.0 < 8 → task_on (stage_of w) cpu ≡ o
    → stage_of (turn_of_task cpu o (turn_in cpu (context.Processor cpu) w)) ≡ turn_task hw cpu (verdicts hw (stage_of w) cpu) o (stage_of (turn_in cpu (context.Processor cpu) w))
task-turned hw w cpu None h is judged low on = refl
task-turned hw w cpu (Some task) h is judged low on =
    let small : task.0 < 64 = task-low hw w cpu task h on in
    let apart : place_of (context.Task task) ≢ place_of (context.Processor cpu) = λ e. omega (arith, e, place_of-cpu cpu low, low) in
    let same : leaders_of (turn_in cpu (context.Processor cpu) w) (context.Task task) ≡ leaders_of w (context.Task task) =
    get_or-set_other w.contexts (place_of (context.Processor cpu)) (place_of (context.Task task)) (turn_keys w cpu (leaders_of w (context.Processor cpu))) no_leaders apart in
    turn-stage hw cpu (verdicts hw (stage_of w) cpu) (turn_in cpu (context.Processor cpu) w) (context.Task task) is
    (λ q. omega (arith, ap (λ l. times q l.flexible) same, flexible-once hw w (context.Task task) h q))
    (λ q some. waits-same hw w cpu (context.Task task) h is judged (omega (arith, small)) (runs-it (stage_of w) cpu task on) q (omega (arith, some, ap (λ l. times q l.flexible) same)))

pub is-rotated : (hw : Hardware) (w : World) (cpu : CpuNo) → IsKept hw w → w.hardware ≡ hw → IsJudged hw w cpu → cpu.0 < 8 → stage_of (turned_world cpu w) ≡ rotated hw cpu (stage_of w)
unfolding rotated
is-rotated hw w cpu h is judged low =
    task-turned hw w cpu (task_on (stage_of w) cpu) h is judged low refl
    ∙ ap (turn_task hw cpu (verdicts hw (stage_of w) cpu) (task_on (stage_of w) cpu))
    (turn-stage hw cpu (verdicts hw (stage_of w) cpu) w (context.Processor cpu) is (flexible-once hw w (context.Processor cpu) h)
    (waits-same hw w cpu (context.Processor cpu) h is judged (omega (arith, place_of-cpu cpu low, low)) (is-own cpu)))

-- what is turned, and what is still: settling leaves the flexible groups
tick-flexible : (hw : Hardware) (cpu : CpuNo) (c : Context) (s : Stage) → flexible_of (ticked hw cpu s) c ≡ flexible_of (rotated hw cpu s) c
unfolding stage_step
tick-flexible hw cpu c s = settle_all-flexible hw (rotated hw cpu s) c

pub turns : (hw : Hardware) (cpu : CpuNo) (c : Context) (s t : Stage) → t ≡ rotated hw cpu s → cpu.0 < 8 → has_context s cpu c ≡ true → is_waiting hw cpu c s ≡ true → IsTurned hw cpu c s t
turns hw cpu c s t is low has waiting = grind (arith, nat_tests, tick_turns, tick-flexible)

pub stays : (hw : Hardware) (cpu : CpuNo) (c : Context) (s t : Stage) → t ≡ rotated hw cpu s → cpu.0 < 8 → has_context s cpu c ≡ true → is_waiting hw cpu c s ≡ false → flexible_of t c ≡ flexible_of s c
stays hw cpu c s t is low has waiting = ap (λ x. flexible_of x c) is ∙ (sym (tick-flexible hw cpu c s) ∙ (tick_turns hw cpu c s low has).1 waiting)

-- the contexts of another processor are as they were
pub turned-elsewhere : (w : World) (cpu : CpuNo) (c d : Context) → place_of d ≢ place_of c → leaders_of (turn_in cpu c w) d ≡ leaders_of w d
turned-elsewhere w cpu c d apart = get_or-set_other w.contexts (place_of c) (place_of d) (turn_keys w cpu (leaders_of w c)) no_leaders apart

both-elsewhere : (w : World) (cpu : CpuNo) (o : Option TaskNo) (d : Context) → place_of d ≢ place_of (context.Processor cpu) → ((task : TaskNo) → o ≡ Some task → place_of d ≢ place_of (context.Task task))
    → leaders_of (turn_of_task cpu o (turn_in cpu (context.Processor cpu) w)) d ≡ leaders_of w d
both-elsewhere w cpu None d first second = turned-elsewhere w cpu (context.Processor cpu) d first
both-elsewhere w cpu (Some task) d first second = search (nat_tests, turned-elsewhere)

leaders-elsewhere : (hw : Hardware) (w : World) (cpu other : CpuNo) (o : Option TaskNo) → IsKept hw w → cpu.0 < 8 → other.0 < 8 → other.0 ≢ cpu.0 → task_on (stage_of w) other ≡ o
    → task_leaders (turned_world cpu w) o ≡ task_leaders w o
leaders-elsewhere hw w cpu other None h low small apart on = refl
leaders-elsewhere hw w cpu other (Some task) h low small apart on =
    both-elsewhere w cpu (task_on (stage_of w) cpu) (context.Task task) (λ e. omega (arith, e, place_of-cpu cpu low, low))
    (λ t runs e. apart (h.running.once other cpu task on (runs ∙ ap (λ n. Some (record { 0 = n })) (let same : t.0 ≡ task.0 = omega (arith, e) in same))))

same-task : (w : World) (cpu other : CpuNo) (o : Option TaskNo) → task_on (stage_of (turn_of_task cpu o (turn_in cpu (context.Processor cpu) w))) other ≡ task_on (stage_of w) other
same-task w cpu other None = refl
same-task w cpu other (Some task) = refl

passes-elsewhere : (hw : Hardware) (w : World) (cpu other : CpuNo) → IsKept hw w → cpu.0 < 8 → other.0 < 8 → other.0 ≢ cpu.0 → pass_leaders (turned_world cpu w) other ≡ pass_leaders w other
passes-elsewhere hw w cpu other h low small apart =
    let x : World = turned_world cpu w in
    let own : leaders_of x (context.Processor other) ≡ leaders_of w (context.Processor other) =
    both-elsewhere w cpu (task_on (stage_of w) cpu) (context.Processor other) (λ e. apart (omega (arith, e, place_of-cpu cpu low, place_of-cpu other small)))
    (λ t runs e. omega (arith, e, place_of-cpu other small, small)) in
    let task : task_leaders x (task_on (stage_of x) other) ≡ task_leaders w (task_on (stage_of w) other) =
    ap (task_leaders x) (same-task w cpu other (task_on (stage_of w) cpu)) ∙ leaders-elsewhere hw w cpu other (task_on (stage_of w) other) h low small apart refl in
    λ i. (own i).pinned ∷ (task i).pinned ∷ (own i).flexible ∷ (task i).flexible ∷ []

-- Another processor stands as it stood.
pub record IsTurnedOnly (w x : World) : Type 0 where
  pub entries : x.entries ≡ w.entries
  pub standings : x.standings ≡ w.standings
  pub quiet : x.quiet ≡ w.quiet

turned-only : (w : World) (cpu : CpuNo) (o : Option TaskNo) → IsTurnedOnly w (turn_of_task cpu o (turn_in cpu (context.Processor cpu) w))
turned-only w cpu None = record { entries = refl; standings = refl; quiet = refl }
turned-only w cpu (Some task) = record { entries = refl; standings = refl; quiet = refl }

pub others-stay : (hw : Hardware) (w x : World) (cpu other : CpuNo) → IsKept hw w → x ≡ turned_world cpu w → cpu.0 < 8 → other.0 < 8 → other.0 ≢ cpu.0 → IsUntouched hw w x other
others-stay hw w x cpu other h is low small apart =
    let only : IsTurnedOnly w x = subst (IsTurnedOnly w) (sym is) (turned-only w cpu (task_on (stage_of w) cpu)) in
    let lists : pass_leaders x other ≡ pass_leaders w other = ap (λ (y : World). pass_leaders y other) is ∙ passes-elsewhere hw w cpu other h low small apart in
    let groups : group_at x ≡ group_at w = λ i. λ k. group_at (record w { entries = only.entries i }) k in
    let same : passes (stage_of x) other ≡ passes (stage_of w) other = passes-are x other ∙ ((λ i. map (map (groups i)) (lists i)) ∙ sym (passes-are w other)) in
    let posts : post_at x ≡ post_at w = λ i. post_at (record w { entries = only.entries i }) in
    let has : (k : Key) → has_context (stage_of x) other (entry_at x k).context ≡ has_context (stage_of w) other (entry_at w k).context =
    λ k. λ i. has_context (stage_of (record w { quiet = only.quiet i })) other (posts i k).context in
    left-untouched hw w x other small (record {
      briefs = ap (map (λ pass. map (brief_of hw) (filter (is_eligible hw other) pass))) same;
      seats = ap (λ q. slice_index_or q.seats other.0 (empty_seating 0)) only.quiet;
      groups = λ k lead there.
          (ap (λ at. leads at k) (sym posts) ∙ lead, sym (has k) ∙ there, ap (λ at. (at k).id) posts, ap (λ st. unwrap_or (get st k.0) standing.Out) only.standings);
    })
