-- What contexts and processors have on the stage, by the keys of a world.
use Rattle.std.specs.Prelude.{◌≡◌, ℕ, ◌+◌, ◌<◌, ◌≤◌, ◌==◌, Bool, true, false, not, ◌&&◌, cond, All, List, [], ◌∷◌, ◌++◌, length, map, count_by, flat_map, Option, Some, None, nat_lt, slice_index_or, if◌then◌else◌}
use Rattle.std.proofs.{Common.{arith, refl, sym, ap, subst, ◌∙◌, inl, inr}, lemmas.Bool.{cases_Bool, false≢true, not-true, Decides.{nat_tests}}}
use Rattle.std.proofs.{lemmas.List.{get_or-map as get_or-mapped, length-map, map-append}, Math.ListN.{get_or-map}}
use Rattle.perf_base.specs.declared.{numbers.{CpuNo.{CpuNo}, Key.{Key}, TaskNo.{TaskNo}}, standing.Context.{Context}}
use Rattle.perf_base.specs.declared.standing.Context.TheVariants as context
use Rattle.stage_spec.specs.{declared.instance.Instance.{Instance}, Hardware.{Hardware}, Opening.{is_used}}
use Rattle.stage_spec.specs.Stage.{Stage, Group, members, groups_in, lists_of, all_instances, place_of, is_of_family, is_original, task_on}
use Rattle.stage_spec.specs.Verdict.{task_lists, reached}
use Rattle.stage_laws.{specs.{Narrowing.{has_context}, Sound.{has_id}}, proofs.Counts.{count-cons, count-append}}
use Rattle.stage_laws.proofs.Totals.{one_if, total-map, total-same, total-none, count_by-is-total}
use Rattle.world_spec.specs.Value.{World, Leaders, no_leaders, leaders_of, is_live, entry_at, instance_at, is_key, times}
use Rattle.world_spec.specs.{StageOf.{group_at, lists_at, stage_of}, Kept.{post_at, once_if, leads, IsKept}}
use Rattle.world_spec.specs.Listings.{task_leaders, pass_leaders, keys_in, PassesLaw, ContextLaw, NumberedLaw, OneInContextLaw, OneOnProcessorLaw}
use Rattle.world_spec.proofs.{Keys.{key-is, is_key-same, is_key-turned, times-cons, once-true, once-false}, Moving.{leads-parts}}
use Rattle.world_spec.proofs.{Coming.{number_true}, AddedStage.{one-in_option}, Copies.{times-at}, GoneStage.{AreLeading}, Counting.{times-flat}}
use Rattle.world_spec.proofs.Reaching.{one-reached}
use Rattle.world_spec.proofs.Families.{all_keys, times-keys, leaders_both, leaders-at, members_at, members-are, instances-are, key-lives, stands-original, copies-are}
use Rattle.world_spec.proofs.Copying.{at-most-once}

-- the groups of a context and of the passes
pub lists-are : (w : World) (c : Context) → lists_of (stage_of w) c ≡ lists_at w (leaders_of w c)
lists-are w c = get_or-map (lists_at w) w.contexts (place_of c) no_leaders

task-lists : (w : World) (o : Option TaskNo) → task_lists (stage_of w) o ≡ lists_at w (task_leaders w o)
task-lists w None = refl
task-lists w (Some task) = lists-are w (context.Task task)

pub passes-are : PassesLaw
passes-are w cpu =
    let own : lists_of (stage_of w) (context.Processor cpu) ≡ lists_at w (leaders_of w (context.Processor cpu)) = lists-are w (context.Processor cpu) in
    let task : task_lists (stage_of w) (task_on (stage_of w) cpu) ≡ lists_at w (task_leaders w (task_on (stage_of w) cpu)) = task-lists w (task_on (stage_of w) cpu) in
    λ i. (own i).pinned ∷ (task i).pinned ∷ (own i).flexible ∷ (task i).flexible ∷ []

-- the instances of a context
both-lead : (hw : Hardware) (w : World) → IsKept hw w → (place : ℕ) → AreLeading w (leaders_both (slice_index_or w.contexts place no_leaders))
both-lead hw w h place q some = grind (arith, nat_tests, leaders-at, once-false, some, leaders-at hw w h q place)

pub context-is : ContextLaw
context-is hw w c h =
    let l : Leaders = leaders_of w c in
    ap (λ x. members (groups_in x)) (lists-are w c) ∙ (ap members (sym (map-append (group_at w) l.pinned l.flexible))
    ∙ members-are hw w h (leaders_both l) (both-lead hw w h (place_of c)))

-- tests that one key alone passes
pub count-none : (test : Key → Bool) (keys : List Key) → ((k : Key) → 1 ≤ times k keys → test k ≡ true → ⊥) → count_by test keys ≡ 0
count-none test [] none = refl
count-none test (q ∷ keys) none = elim (cases_Bool (test q)) [
  | inl e ↦ absurd (none q (omega (arith, times-cons q q keys, once-true (is_key q q) (is_key-same q q refl))) e)
  | inr e ↦ omega (arith, count-cons test q keys, once-false (test q) e, count-none test keys (λ k some. none k (omega (arith, some, times-cons k q keys))))
]

pub count-one : (test : Key → Bool) (keys : List Key) → ((k : Key) → times k keys ≤ 1)
    → ((j k : Key) → 1 ≤ times j keys → 1 ≤ times k keys → test j ≡ true → test k ≡ true → j.0 ≡ k.0) → count_by test keys ≤ 1
count-one test [] once same = omega arith
count-one test (q ∷ keys) once same =
    let mine : times q (q ∷ keys) ≡ 1 + times q keys = omega (arith, times-cons q q keys, once-true (is_key q q) (is_key-same q q refl)) in
    elim (cases_Bool (test q)) [
      | inl e ↦
          let rest : count_by test keys ≡ 0 = count-none test keys (λ k some passes.
          (let is : k.0 ≡ q.0 = same k q (omega (arith, some, times-cons k q keys)) (omega (arith, mine)) passes e in
          omega (arith, some, mine, once q, ap (λ x. times x keys) (key-is k q is)))) in
          omega (arith, count-cons test q keys, once-true (test q) e, rest)
      | inr e ↦
          omega (
            arith,
            count-cons test q keys,
            once-false (test q) e,
            count-one test keys (λ k. omega (arith, once k, times-cons k q keys))
                (λ j k some_j some_k. same j k (omega (arith, some_j, times-cons j q keys)) (omega (arith, some_k, times-cons k q keys))),
          )
    ]

pub count-mapped : (w : World) (p : Instance → Bool) (keys : List Key) → count_by p (map (instance_at w) keys) ≡ count_by (λ k. p (instance_at w k)) keys
count-mapped w p keys = grind (arith, nat_tests, count_by-is-total, total-map, one_if)

all-mapped : (w : World) (P : Instance → Type 0) (keys : List Key) → ((k : Key) → 1 ≤ times k keys → P (instance_at w k)) → All P (map (instance_at w) keys)
all-mapped w P keys h i d low =
    let size : length (map (instance_at w) keys) ≡ length keys = length-map keys (instance_at w) in
    let k : Key = slice_index_or keys i (record { 0 = 0 }) in
    subst P (sym (get_or-mapped (instance_at w) keys i (record { 0 = 0 }) d (omega (arith, low, size)))) (h k (times-at keys i (record { 0 = 0 }) (omega (arith, low, size))))

ap-le : {m n : ℕ} → m ≡ n → n ≤ 1 → m ≤ 1
ap-le e low = omega (arith, e, low)

-- the whole stage
all-once : (hw : Hardware) (w : World) → IsKept hw w → (k : Key) → times k (all_keys w) ≤ 1
all-once hw w h k = omega (arith, times-keys hw w h k, at-most-once (is_live w k))

pub is-numbered : NumberedLaw
is-numbered hw w h =
    let lives : (k : Key) → 1 ≤ times k (all_keys w) → is_live w k ≡ true = key-lives hw w h in
    let everywhere : (P : Instance → Type 0) → ((k : Key) → is_live w k ≡ true → P (instance_at w k)) → All P (all_instances (stage_of w)) =
    λ P each. subst (All P) (sym (instances-are hw w h)) (all-mapped w P (all_keys w) (λ k some. each k (lives k some))) in
    let counted : (p : Instance → Bool) → count_by p (all_instances (stage_of w)) ≡ count_by (λ k. p (instance_at w k)) (all_keys w) =
    λ p. ap (count_by p) (instances-are hw w h) ∙ count-mapped w p (all_keys w) in
    record {
      first = h.numbered.first;
      drawn = everywhere (λ i. (1 ≤ i.id) × (i.id < w.quiet.next_id)) h.numbered.drawn;
      once = λ id. subst (λ n. n ≤ 1) (sym (counted (has_id id))) (count-one (λ k. has_id id (instance_at w k)) (all_keys w) (all-once hw w h)
          (λ j k some_j some_k first second. ap (λ x. x.0) (h.numbered.once j k (lives j some_j) (lives k some_k)
          (number_true (instance_at w j).id id first ∙ sym (number_true (instance_at w k).id id second)))));
      slots = everywhere (λ i. i.event.0 < 256) h.numbered.slots;
      one_original = λ e. subst (λ n. n ≤ 1) (sym (counted (is_original e))) (count-one (λ k. is_original e (instance_at w k)) (all_keys w) (all-once hw w h)
          (λ j k some_j some_k first second. one-in_option _ j k (stands-original hw w h e j (lives j some_j) first) (stands-original hw w h e k (lives k some_k) second)));
      used = λ e unused. counted (is_original e) ∙ count-none (λ k. is_original e (instance_at w k)) (all_keys w) (λ k some passes.
          let parts : (is_of_family e (instance_at w k) ≡ true) × (not (instance_at w k).copy ≡ true) = leads-parts (is_of_family e (instance_at w k)) (not (instance_at w k).copy) passes in
          let was : is_used (stage_of w) (instance_at w k).event ≡ true = h.lawful.used k (lives k some) (not-true (instance_at w k).copy parts.1) in
          false≢true (sym unused ∙ (ap (λ n. is_used (stage_of w) (record { 0 = n })) (sym (number_true (instance_at w k).event.0 e.0 parts.0)) ∙ was)));
      few_copies = subst (λ n. n ≤ 4096) (sym (copies-are hw w h)) h.copies.few;
    }

-- a context
pub held-by : (hw : Hardware) (w : World) → IsKept hw w → (k : Key) (keys : List Key) → times k (flat_map (members_at w) keys) ≡ cond (is_live w k) (times (entry_at w k).leader keys) 0
held-by hw w h k keys =
    let m : Key = (entry_at w k).leader in
    times-flat k (members_at w) keys
    ∙ (total-same (λ q. times k (members_at w q)) (λ q. once_if (is_live w k && is_key q m)) (λ q. h.linked.members k q) keys
    ∙ elim (cases_Bool (is_live w k)) [
      | inl live ↦ grind (arith, nat_tests, total-same, one_if, live, is_key-turned, count_by-is-total)
      | inr dead ↦ search (nat_tests, total-same, dead, total-none)
    ])

pub keys-at : (hw : Hardware) (w : World) → IsKept hw w → (k : Key) (place : ℕ)
    → times k (flat_map (members_at w) (leaders_both (slice_index_or w.contexts place no_leaders))) ≡ once_if (is_live w k && place_of (entry_at w k).context == place)
keys-at hw w h k place = grind (arith, leaders_both, held-by, leaders-at)

stands-at : (hw : Hardware) (w : World) → IsKept hw w → (k : Key) (place : ℕ) → 1 ≤ times k (flat_map (members_at w) (leaders_both (slice_index_or w.contexts place no_leaders)))
    → (is_live w k ≡ true) × (place_of (entry_at w k).context ≡ place)
stands-at hw w h k place some = elim (cases_Bool (is_live w k && place_of (entry_at w k).context == place)) [
  | inl both ↦ grind (arith, nat_tests, leads-parts, both, number_true)
  | inr off ↦ absurd (omega (arith, some, keys-at hw w h k place, once-false (is_live w k && place_of (entry_at w k).context == place) off))
]

pub one-in_context : OneInContextLaw
one-in_context hw w c e h =
    ap-le (ap (count_by (is_of_family e)) (context-is hw w c h) ∙ count-mapped w (is_of_family e) (keys_in w c))
    (count-one (λ k. is_of_family e (instance_at w k)) (keys_in w c)
    (λ k. omega (arith, keys-at hw w h k (place_of c), at-most-once (is_live w k && place_of (entry_at w k).context == place_of c)))
    (λ j k some_j some_k first second.
    let at_j : (is_live w j ≡ true) × (place_of (entry_at w j).context ≡ place_of c) = stands-at hw w h j (place_of c) some_j in
    let at_k : (is_live w k ≡ true) × (place_of (entry_at w k).context ≡ place_of c) = stands-at hw w h k (place_of c) some_k in
    ap (λ x. x.0) (h.apart.one_each j k at_j.0 at_k.0 (number_true (instance_at w j).event.0 e.0 first ∙ sym (number_true (instance_at w k).event.0 e.0 second)) (at_j.1 ∙ sym at_k.1))))

-- what a processor reaches
abbrev pub reached_leaders : World → CpuNo → List Key
reached_leaders w cpu = flat_map (λ keys. keys) (pass_leaders w cpu)

pub flat-mapped : (f : Key → Group) (ps : List (List Key)) → flat_map (λ gs. gs) (map (map f) ps) ≡ map f (flat_map (λ keys. keys) ps)
flat-mapped f [] = refl
flat-mapped f (p ∷ ps) = ap (λ gs. map f p ++ gs) (flat-mapped f ps) ∙ sym (map-append f p (flat_map (λ keys. keys) ps))

four-lists : (q : Key) (a b c d : List Key) → times q (a ++ (b ++ (c ++ (d ++ [])))) ≡ times q (a ++ c) + times q (b ++ d)
four-lists q a b c d = grind (arith, nat_tests, count-append)

-- whether a place is that of the task that runs
abbrev pub stands_in_task : Option TaskNo → ℕ → Bool
stands_in_task None place = false
stands_in_task (Some task) place = place == 8 + task.0

nobody : (b : Bool) → ◌≡◌ {A = ℕ} 0 (once_if (b && false))
nobody true = refl
nobody false = refl

below_true : (m n : ℕ) → nat_lt m n ≡ true → m < n
below_true m n h = grind (arith, nat_tests, h)

-- a leader in the list of the task that runs, and where a live key of a processor stands
task-at : (hw : Hardware) (w : World) → IsKept hw w → (q : Key) (o : Option TaskNo)
    → times q (leaders_both (task_leaders w o)) ≡ once_if (leads (post_at w) q && stands_in_task o (place_of (entry_at w q).context))
task-at hw w h q None = nobody (leads (post_at w) q)
task-at hw w h q (Some task) = leaders-at hw w h q (8 + task.0)

pub counted-there : (hw : Hardware) (w : World) → IsKept hw w → (cpu : CpuNo) (q : Key)
    → times q (reached_leaders w cpu)
    ≡ once_if (leads (post_at w) q && place_of (entry_at w q).context == place_of (context.Processor cpu))
    + once_if (leads (post_at w) q && stands_in_task (task_on (stage_of w) cpu) (place_of (entry_at w q).context))
counted-there hw w h cpu q =
    let own : Leaders = leaders_of w (context.Processor cpu) in
    let task : Leaders = task_leaders w (task_on (stage_of w) cpu) in
    omega (arith, four-lists q own.pinned task.pinned own.flexible task.flexible, leaders-at hw w h q (place_of (context.Processor cpu)), task-at hw w h q (task_on (stage_of w) cpu))

-- a place below 72 is not a processor's and a task's
not-both : (cpu place : ℕ) (o : Option TaskNo) → place < 72 → (place == (if nat_lt cpu 8 then cpu else 72)) ≡ true → stands_in_task o place ≡ true → ⊥
not-both cpu place None low own task = false≢true task
not-both cpu place (Some t) low own task = grind (arith, nat_tests, number_true, below_true)

few-of_two : (a b : Bool) → (a ≡ true → b ≡ true → ⊥) → once_if a + once_if b ≤ 1
few-of_two true true h = absurd (h refl refl)
few-of_two true false h = omega arith
few-of_two false true h = omega arith
few-of_two false false h = omega arith

pub reached-once : (hw : Hardware) (w : World) → IsKept hw w → (cpu : CpuNo) (q : Key) → times q (reached_leaders w cpu) ≤ 1
reached-once hw w h cpu q =
    let place : ℕ = place_of (entry_at w q).context in
    let own : Bool = leads (post_at w) q && place == place_of (context.Processor cpu) in
    let task : Bool = leads (post_at w) q && stands_in_task (task_on (stage_of w) cpu) place in
    omega (
      arith,
      counted-there hw w h cpu q,
      few-of_two own task (λ first second.
          let one : (leads (post_at w) q ≡ true) × ((place == place_of (context.Processor cpu)) ≡ true) = leads-parts (leads (post_at w) q) (place == place_of (context.Processor cpu)) first in
          let two : (leads (post_at w) q ≡ true) × (stands_in_task (task_on (stage_of w) cpu) place ≡ true) = leads-parts (leads (post_at w) q) (stands_in_task (task_on (stage_of w) cpu) place) second in
          let live : is_live w q ≡ true = (leads-parts (is_live w q) (is_key q (entry_at w q).leader) one.0).0 in
          not-both cpu.0 place (task_on (stage_of w) cpu) (h.numbered.places q live) one.1 two.1),
    )

-- a context at one of the two places is the processor's or its task's
own-context : (s : Stage) (cpu : CpuNo) (c : Context) → place_of c < 72 → (place_of c == place_of (context.Processor cpu)) ≡ true → has_context s cpu c ≡ true
own-context s cpu (context.Processor b) low same = grind (arith, nat_tests, number_true)
own-context s cpu (context.Task t) low same = absurd (not-both cpu.0 (8 + t.0) (Some t) low same (let e : ((8 + t.0) == (8 + t.0)) ≡ true = grind (arith, nat_tests) in e))

task-context : (cpu : CpuNo) (o : Option TaskNo) (c : Context) → place_of c < 72 → stands_in_task o (place_of c) ≡ true → (s : Stage) → task_on s cpu ≡ o → has_context s cpu c ≡ true
task-context cpu None c low there s on = absurd (false≢true there)
task-context cpu (Some t) (context.Task u) low there s on = grind (arith, nat_tests, number_true)
task-context cpu (Some t) (context.Processor b) low there s on = grind (arith, nat_tests, not-both)

pub reached-context : (hw : Hardware) (w : World) → IsKept hw w → (cpu : CpuNo) (q : Key) → 1 ≤ times q (reached_leaders w cpu) → has_context (stage_of w) cpu (entry_at w q).context ≡ true
reached-context hw w h cpu q some =
    let place : ℕ = place_of (entry_at w q).context in
    let o : Option TaskNo = task_on (stage_of w) cpu in
    let low : leads (post_at w) q ≡ true → place < 72 = λ lead. h.numbered.places q (leads-parts (is_live w q) (is_key q (entry_at w q).leader) lead).0 in
    elim (cases_Bool (leads (post_at w) q && place == place_of (context.Processor cpu))) [
      | inl own ↦ grind (arith, nat_tests, leads-parts, own, own-context)
      | inr not_own ↦ elim (cases_Bool (leads (post_at w) q && stands_in_task o place)) [
        | inl task ↦ grind (arith, nat_tests, leads-parts, task, task-context)
        | inr not_task ↦ grind (arith, nat_tests, counted-there, once-false, not_task)
      ]
    ]

pub reached-leading : (hw : Hardware) (w : World) → IsKept hw w → (cpu : CpuNo) → AreLeading w (reached_leaders w cpu)
reached-leading hw w h cpu q some = grind (arith, some, counted-there hw w h cpu q, place_of (entry_at w q).context)

reached-key : (hw : Hardware) (w : World) → IsKept hw w → (cpu : CpuNo) (k : Key) → 1 ≤ times k (flat_map (members_at w) (reached_leaders w cpu))
    → (is_live w k ≡ true) × (has_context (stage_of w) cpu (entry_at w k).context ≡ true)
reached-key hw w h cpu k some = grind (arith, held-by, reached-context)

cond-few : (b : Bool) (n : ℕ) → n ≤ 1 → cond b n 0 ≤ 1
cond-few true n h = h
cond-few false n h = omega arith

pub one-on_processor : OneOnProcessorLaw
one-on_processor hw w cpu e h =
    let leaders : List Key = reached_leaders w cpu in
    let keys : List Key = flat_map (members_at w) leaders in
    let are : reached (stage_of w) cpu ≡ map (instance_at w) keys =
    ap (λ ps. members (flat_map (λ p. p) ps)) (passes-are w cpu) ∙ (ap members (flat-mapped (group_at w) (pass_leaders w cpu)) ∙ members-are hw w h leaders (reached-leading hw w h cpu)) in
    ap-le (ap (count_by (is_of_family e)) are ∙ count-mapped w (is_of_family e) keys) (count-one (λ k. is_of_family e (instance_at w k)) keys
    (λ k. omega (arith, held-by hw w h k leaders, cond-few (is_live w k) (times (entry_at w k).leader leaders) (reached-once hw w h cpu (entry_at w k).leader)))
    (λ j k some_j some_k first second.
    let at_j : (is_live w j ≡ true) × (has_context (stage_of w) cpu (entry_at w j).context ≡ true) = reached-key hw w h cpu j some_j in
    let at_k : (is_live w k ≡ true) × (has_context (stage_of w) cpu (entry_at w k).context ≡ true) = reached-key hw w h cpu k some_k in
    ap (λ x. x.0) (one-reached hw w cpu j k h at_j.0 at_k.0 (number_true (instance_at w j).event.0 e.0 first ∙ sym (number_true (instance_at w k).event.0 e.0 second)) at_j.1 at_k.1)))
