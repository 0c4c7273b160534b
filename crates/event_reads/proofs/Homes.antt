-- On which processor a context is, and that a group is out on every other one.
use Rattle.std.specs.Prelude.{◌≡◌, ℕ, ◌≤◌, ◌==◌, Bool, true, false, List, [], ◌∷◌, map, filter, flat_map, count_by}
use Rattle.std.proofs.{Common.{arith, sym, ap, ◌∙◌}, lemmas.Bool.{false≢true}}
use Rattle.perf_base.specs.declared.{numbers.{CpuNo.{CpuNo}, Key.{Key}}, standing.Context.{Context}}
use Rattle.perf_base.specs.declared.standing.Context.TheVariants as context
use Rattle.perf_base.specs.declared.standing.Standing.TheVariants as standing
use Rattle.stage_spec.specs.{Hardware.{Hardware}, Stage.{Stage, Group, task_on}, Verdict.{is_eligible, passes, verdicts, standing_of}}
use Rattle.stage_laws.{specs.Narrowing.{has_context}, proofs.{Counts.{count-append, count-filter}, Tasks.{is_task-some, runs-within}}}
use Rattle.world_spec.specs.{Kept.{leads, post_at, IsKept}, Listings.{pass_leaders}, Rescheduled.{IsRescheduled}, StageOf.{group_at, stage_of}}
use Rattle.world_spec.{specs.Value.{World, entry_at, instance_at, is_live}, proofs.Coming.{number_true}}
use Rattle.world_spec.proofs.Listings.{count-none, passes-are, reached_leaders, reached-context, reached-leading}
use Rattle.world_spec.proofs.{Rescheduling.{about-groups, among-none, is_led, same-id, count-leaders}, Standing.{passes-groups}}
use Rattle.event_reads.specs.Homes.{StandRescheduled}

-- a processor that has the context of a leader stands as rescheduling leaves it
pub has-stood : (w : World) (k : Key) (cpu : CpuNo) (c : Context) → StandRescheduled w → is_live w k ≡ true → (entry_at w k).context ≡ c → has_context (stage_of w) cpu c ≡ true
    → IsRescheduled w.hardware w cpu
has-stood w k cpu (context.Processor own) stand live at there =
    let same : own ≡ cpu = ap (λ (n : ℕ). let c : CpuNo = record { 0 = n } in c) (number_true own.0 cpu.0 there) in
    stand.counted k cpu live (at ∙ ap context.Processor same)
has-stood w k cpu (context.Task task) stand live at there = stand.machine cpu (runs-within w.quiet.running cpu.0 task (is_task-some (task_on (stage_of w) cpu) task there))

-- of the groups that pass a test those of an id are at most as many as the leaders of that id
led-among : (w : World) (id : ℕ) (test : Group → Bool) (ps : List (List Key))
    → count_by (is_led id) (flat_map (λ p. p) (map (filter test) (map (map (group_at w)) ps))) ≤ count_by (λ q. (instance_at w q).id == id) (flat_map (λ keys. keys) ps)
led-among w id test [] = omega arith
led-among w id test (keys ∷ ps) =
    omega (
      arith,
      count-append (is_led id) (filter test (map (group_at w) keys)) (flat_map (λ p. p) (map (filter test) (map (map (group_at w)) ps))),
      count-filter (is_led id) test (map (group_at w) keys),
      count-leaders w id keys,
      count-append (λ q. (instance_at w q).id == id) keys (flat_map (λ k. k) ps),
      led-among w id test ps,
    )

-- a group is out on a processor that its context is not on
pub out-elsewhere : (hw : Hardware) (w : World) (cpu : CpuNo) (k : Key) → IsKept hw w → leads (post_at w) k ≡ true
    → has_context (stage_of w) cpu (entry_at w k).context ≡ false → standing.Out ≡ standing_of hw (stage_of w) cpu (group_at w k)
unfolding verdicts
out-elsewhere hw w cpu k h lead off =
    let s : Stage = stage_of w in
    let id : ℕ = (instance_at w k).id in
    let test : Group → Bool = is_eligible hw cpu in
    let none : count_by (λ q. (instance_at w q).id == id) (reached_leaders w cpu) ≡ 0 = count-none (λ q. (instance_at w q).id == id) (reached_leaders w cpu)
    (λ q some same. false≢true (sym off ∙ (ap (λ j. has_context s cpu (entry_at w j).context) (sym (same-id hw w h q k (reached-leading hw w h cpu q some) lead same)) ∙ reached-context hw w h cpu q some))) in
    let groups : map (λ j. j.group) (verdicts hw s cpu) ≡ flat_map (λ p. p) (map (filter test) (map (map (group_at w)) (pass_leaders w cpu))) =
    passes-groups hw [] (map (filter test) (passes s cpu)) ∙ ap (λ ps. flat_map (λ p. p) (map (filter test) ps)) (passes-are w cpu) in
    sym (among-none (verdicts hw s cpu) (group_at w k)
    (omega (arith, about-groups id (verdicts hw s cpu), ap (count_by (is_led id)) groups, led-among w id test (pass_leaders w cpu), none)))
