-- A processor that was judged, after its refused pinned groups went to error: it is settled, and stands by its
-- verdicts.
use Rattle.std.specs.Prelude.{◌≡◌, ℕ, ◌+◌, ◌<◌, ◌≤◌, ◌==◌, Bool, true, false, ◌&&◌, cond, List, [], ◌∷◌, ◌++◌, length, map, filter, flat_map, count_by, take, drop, Option, Some, None, slice_index_or, if◌then◌else◌}
use Rattle.std.proofs.{Common.{arith, refl, sym, ap, subst, ◌∙◌, inl, inr, append_assoc}, lemmas.Bool.{cases_eq, cases_Bool, false≢true}}
use Rattle.std.proofs.lemmas.{Bool.Decides.{nat_tests}, List.{append-nil, append_cancel_left, map-append}, Simd.{map-map}}
use Rattle.std.proofs.Math.Seq.{drop-append_seam}
use Rattle.perf_base.specs.declared.{numbers.{CpuNo.{CpuNo}, EventNo.{EventNo}, Key.{Key}, TaskNo.{TaskNo}}, standing.Context.{Context}}
use Rattle.perf_base.specs.{declared.standing.Standing.{Standing}, Standings.{stands_on}}
use Rattle.perf_base.specs.declared.standing.Context.TheVariants as context
use Rattle.perf_base.specs.declared.standing.Standing.TheVariants as standing
use Rattle.stage_spec.specs.{Effective.{is_ready, is_hardware}, Fits.{IsAssignment}, Hardware.{Hardware}}
use Rattle.stage_spec.specs.Settle.{IsSettled, failed, pinned_verdicts, flexible_verdicts}
use Rattle.stage_spec.specs.{Stage.{Stage, Group, members_of, place_of, task_on, is_task}, Tight.{masks_of}}
use Rattle.stage_spec.specs.Verdict.{Judged, is_eligible, passes, judge_pass, judge_passes, verdicts, groups_on, with_masks, standing_among}
use Rattle.stage_spec.proofs.{Settled.{settled_verdicts, settles_once}, Settling.{kept, groups_on-append, groups_on-kept}}
use Rattle.stage_laws.{specs.{Narrowing.{has_context}, Standings.{fail_lists}}, proofs.ByStandings.{settles_by_standings}}
use Rattle.stage_laws.proofs.Counts.{count-cons, count-append, count-filter}
use Rattle.counter_match.specs.Seating.{empty_seating}
use Rattle.world_spec.specs.Value.{World, Leaders, no_leaders, leaders_of, is_live, entry_at, instance_at, standing_at, seats_at, is_key, times}
use Rattle.world_spec.specs.{StageOf.{after_first, group_at, lists_at, stage_of}, Kept.{post_at, once_if, is_member_of, leads, IsKept}}
use Rattle.world_spec.specs.{Listings.{task_leaders}, Rescheduled.{IsJudged, pinned_leaders, fail_groups, FailStageLaw, FailLaw, FailKeptLaw}}
use Rattle.world_spec.proofs.{Keys.{key-is, once-true, once-false}, Moving.{leads-parts}, Coming.{number_true}, AddedStage.{map-places}}
use Rattle.world_spec.proofs.{Disbanding.{AreSiblings, member-follows}, GoneLeader.{siblings-stand}, GoneLeaderStage.{map-within}}
use Rattle.world_spec.proofs.Standing.{passes-groups, standing_by, standing-is}
use Rattle.world_spec.proofs.Listings.{is-numbered, passes-are, reached_leaders, reached-once, reached-context, count-none, count-one}
use Rattle.world_spec.proofs.Failing.{calmed, AreFailed, are-failed, failed-rest, AllLead, failed-posts, failed-kept}

-- groups and verdicts by a leader's id
abbrev pub is_led : ℕ → Group → Bool
is_led id g = g.leader.id == id

abbrev pub is_about : ℕ → Judged → Bool
is_about id j = is_led id j.group

pub about-groups : (id : ℕ) (js : List Judged) → count_by (is_about id) js ≡ count_by (is_led id) (map (λ j. j.group) js)
about-groups id [] = refl
about-groups id (j ∷ js) = search (nat_tests, count-cons, about-groups id js)

-- a standing among verdicts that are put together
abbrev pub either : Bool → Standing → Standing → Standing
either b here there = elim b [ true ↦ here | false ↦ there ]

pub own_id : (g : Group) → is_led g.leader.id g ≡ true
own_id g = grind (arith, nat_tests)

pub among-cons : (j : Judged) (js : List Judged) (g : Group) (b : Bool) → is_about g.leader.id j ≡ b → standing_among (j ∷ js) g ≡ either b j.standing (standing_among js g)
among-cons j js g b e = ap {B = Standing} (λ x. elim x as (λ y. Standing) [ true ↦ j.standing | false ↦ standing_among js g ]) e

pub among-none : (js : List Judged) (g : Group) → count_by (is_about g.leader.id) js ≡ 0 → standing_among js g ≡ standing.Out
among-none [] g none = refl
among-none (j ∷ js) g none = elim (cases_Bool (is_about g.leader.id j)) [
  | inl e ↦ absurd (omega (arith, none, count-cons (is_about g.leader.id) j js, once-true (is_about g.leader.id j) e))
  | inr e ↦ among-cons j js g false e ∙ among-none js g (omega (arith, none, count-cons (is_about g.leader.id) j js, once-false (is_about g.leader.id j) e))
]

pub among-later : (xs ys : List Judged) (g : Group) → count_by (is_about g.leader.id) xs ≡ 0 → standing_among (xs ++ ys) g ≡ standing_among ys g
among-later [] ys g none = refl
among-later (x ∷ xs) ys g none = elim (cases_Bool (is_about g.leader.id x)) [
  | inl e ↦ absurd (omega (arith, none, count-cons (is_about g.leader.id) x xs, once-true (is_about g.leader.id x) e))
  | inr e ↦ among-cons x (xs ++ ys) g false e ∙ among-later xs ys g (omega (arith, none, count-cons (is_about g.leader.id) x xs, once-false (is_about g.leader.id x) e))
]

among-first : (xs ys : List Judged) (g : Group) → count_by (is_about g.leader.id) ys ≡ 0 → standing_among (xs ++ ys) g ≡ standing_among xs g
among-first [] ys g none = among-none ys g none
among-first (x ∷ xs) ys g none = grind (arith, nat_tests, among-first xs ys g none)

kept-cons : (j : Judged) (js : List Judged) (b : Bool) → stands_on j.standing ≡ b → kept (j ∷ js) ≡ cond b (j ∷ kept js) (kept js)
kept-cons j js b e = ap {B = List Judged} (λ c. cond c (j ∷ kept js) (kept js)) e

on-or_not : (s : Standing) → stands_on s ≡ false → calmed s ≡ standing.Out
on-or_not standing.Out e = refl
on-or_not standing.On e = absurd (false≢true (sym e))
on-or_not (standing.Refused cause) e = refl

on-calm : (s : Standing) → stands_on s ≡ true → calmed s ≡ s
on-calm standing.Out e = absurd (false≢true e)
on-calm standing.On e = refl
on-calm (standing.Refused cause) e = absurd (false≢true e)

among-kept : (js : List Judged) (g : Group) → count_by (is_about g.leader.id) js ≤ 1 → standing_among (kept js) g ≡ calmed (standing_among js g)
among-kept [] g few = refl
among-kept (j ∷ js) g few = elim (cases_Bool (is_about g.leader.id j)) [
  | inl mine ↦
      let rest : count_by (is_about g.leader.id) js ≡ 0 = omega (arith, few, count-cons (is_about g.leader.id) j js, once-true (is_about g.leader.id j) mine) in
      let left : count_by (is_about g.leader.id) (kept js) ≡ 0 = omega (arith, rest, count-filter (is_about g.leader.id) (λ x. stands_on x.standing) js) in
      elim (cases_Bool (stands_on j.standing)) [
        | inl on ↦ grind (arith, nat_tests, kept-cons, on, among-cons, kept, on-calm, calmed)
        | inr off ↦ grind (arith, nat_tests, kept-cons, off, among-none, kept, on-or_not, calmed, among-cons)
      ]
  | inr other ↦
      let next : standing_among (kept js) g ≡ calmed (standing_among js g) = among-kept js g (omega (arith, few, count-cons (is_about g.leader.id) j js)) in
      elim (cases_Bool (stands_on j.standing)) [
        | inl on ↦ grind (arith, nat_tests, kept-cons, on, among-cons, kept, calmed)
        | inr off ↦ ap (λ xs. standing_among xs g) (kept-cons j js false off) ∙ (next ∙ ap calmed (sym (among-cons j js g false other)))
      ]
]

-- a standing goes by the leader's id
among-id : (js : List Judged) (g h : Group) → g.leader.id ≡ h.leader.id → standing_among js g ≡ standing_among js h
among-id js g h e = standing-is js g ∙ (ap (standing_by (map (λ j. (j.group.leader.id, j.standing)) js)) e ∙ sym (standing-is js h))

-- the verdicts of the pinned passes come first
record Follows (hw : Hardware) (before : List Judged) (ps : List (List Group)) : Type 0 where
  rest : List Judged
  is : judge_passes hw before ps ≡ before ++ rest

follows : (hw : Hardware) (before : List Judged) (ps : List (List Group)) → Follows hw before ps
unfolding judge_passes
follows hw before [] = record { rest = []; is = sym (append-nil before) }
follows hw before (p ∷ ps) =
    let next : Follows hw (before ++ judge_pass hw before [] p) ps = follows hw (before ++ judge_pass hw before [] p) ps in
    record { rest = judge_pass hw before [] p ++ next.rest; is = next.is ∙ append_assoc before (judge_pass hw before [] p) next.rest }

-- of each processor, the two parts
record Parts (hw : Hardware) (s : Stage) (cpu : CpuNo) : Type 0 where
  whole : verdicts hw s cpu ≡ pinned_verdicts hw s cpu ++ flexible_verdicts hw s cpu
  pinned_groups : map (λ j. j.group) (pinned_verdicts hw s cpu) ≡ flat_map (λ p. p) (map (filter (is_eligible hw cpu)) (take 2 (passes s cpu)))
  flexible_groups : map (λ j. j.group) (flexible_verdicts hw s cpu) ≡ flat_map (λ p. p) (map (filter (is_eligible hw cpu)) (drop 2 (passes s cpu)))

parts : (hw : Hardware) (s : Stage) (cpu : CpuNo) → Parts hw s cpu
unfolding verdicts judge_passes
parts hw s cpu =
    let test : Group → Bool = is_eligible hw cpu in
    let first : List Judged = pinned_verdicts hw s cpu in
    let last : List (List Group) = map (filter test) (drop 2 (passes s cpu)) in
    let f : Follows hw first last = follows hw first last in
    let later : flexible_verdicts hw s cpu ≡ f.rest = ap (drop (length first)) f.is ∙ drop-append_seam first f.rest in
    let groups : map (λ j. j.group) first ++ map (λ j. j.group) f.rest ≡ map (λ j. j.group) first ++ flat_map (λ p. p) last =
    sym (map-append (λ j. j.group) first f.rest) ∙ (ap (map (λ j. j.group)) (sym f.is) ∙ passes-groups hw first last) in
    search (nat_tests, first, later, passes-groups, test, append_cancel_left, last, groups)

-- how many of them have an id
count-passes : (id : ℕ) (test : Group → Bool) (ps : List (List Group)) → count_by (is_led id) (flat_map (λ p. p) (map (filter test) ps)) ≤ count_by (is_led id) (flat_map (λ p. p) ps)
count-passes id test [] = omega arith
count-passes id test (p ∷ ps) = grind (arith, nat_tests, count-append, count-filter, count-passes id test ps)

pub count-leaders : (w : World) (id : ℕ) (keys : List Key) → count_by (is_led id) (map (group_at w) keys) ≡ count_by (λ k. (instance_at w k).id == id) keys
count-leaders w id [] = refl
count-leaders w id (k ∷ keys) = search (nat_tests, count-cons, count-leaders w id keys)

-- the leaders of a processor: of its pinned groups, and of the others
abbrev flexible_leaders : World → CpuNo → List Key
flexible_leaders w cpu = (leaders_of w (context.Processor cpu)).flexible ++ (task_leaders w (task_on (stage_of w) cpu)).flexible

leaders-split : (w : World) (cpu : CpuNo) (q : Key) → times q (reached_leaders w cpu) ≡ times q (pinned_leaders w cpu) + times q (flexible_leaders w cpu)
leaders-split w cpu q = grind (arith, nat_tests, count-append)

-- in which list a leader stands
flag_on : (a b pinned : Bool) → 1 ≤ once_if (a && b && (if pinned then true else false)) → (a ≡ true) × (pinned ≡ true)
flag_on true true true some = (refl, refl)
flag_on true true false some = absurd (omega (arith, some))
flag_on true false pinned some = absurd (omega (arith, some))
flag_on false b pinned some = absurd (omega (arith, some))

flag_off : (a b pinned : Bool) → 1 ≤ once_if (a && b && (if pinned then false else true)) → (a ≡ true) × (pinned ≡ false)
flag_off true true false some = (refl, refl)
flag_off true true true some = absurd (omega (arith, some))
flag_off true false pinned some = absurd (omega (arith, some))
flag_off false b pinned some = absurd (omega (arith, some))

pinned-there : (hw : Hardware) (w : World) → IsKept hw w → (q : Key) (place : ℕ) → 1 ≤ times q (slice_index_or w.contexts place no_leaders).pinned
    → (leads (post_at w) q ≡ true) × ((entry_at w q).pinned ≡ true)
pinned-there hw w h q place some = grind (arith, nat_tests, flag_on, some, h.linked.pinned q place)

flexible-there : (hw : Hardware) (w : World) → IsKept hw w → (q : Key) (place : ℕ) → 1 ≤ times q (slice_index_or w.contexts place no_leaders).flexible
    → (leads (post_at w) q ≡ true) × ((entry_at w q).pinned ≡ false)
flexible-there hw w h q place some = grind (arith, nat_tests, flag_off, some, h.linked.flexible q place)

task-pinned : (hw : Hardware) (w : World) → IsKept hw w → (q : Key) (o : Option TaskNo) → 1 ≤ times q (task_leaders w o).pinned → (leads (post_at w) q ≡ true) × ((entry_at w q).pinned ≡ true)
task-pinned hw w h q None some = absurd (omega (arith, some))
task-pinned hw w h q (Some task) some = pinned-there hw w h q (place_of (context.Task task)) some

task-flexible : (hw : Hardware) (w : World) → IsKept hw w → (q : Key) (o : Option TaskNo) → 1 ≤ times q (task_leaders w o).flexible → (leads (post_at w) q ≡ true) × ((entry_at w q).pinned ≡ false)
task-flexible hw w h q None some = absurd (omega (arith, some))
task-flexible hw w h q (Some task) some = flexible-there hw w h q (place_of (context.Task task)) some

pinned-flag : (hw : Hardware) (w : World) → IsKept hw w → (cpu : CpuNo) (q : Key) → 1 ≤ times q (pinned_leaders w cpu) → (leads (post_at w) q ≡ true) × ((entry_at w q).pinned ≡ true)
pinned-flag hw w h cpu q some = grind (arith, nat_tests, pinned-there, task-pinned, count-append)

flexible-flag : (hw : Hardware) (w : World) → IsKept hw w → (cpu : CpuNo) (q : Key) → 1 ≤ times q (flexible_leaders w cpu) → (leads (post_at w) q ≡ true) × ((entry_at w q).pinned ≡ false)
flexible-flag hw w h cpu q some = grind (arith, nat_tests, flexible-there, task-flexible, count-append)

-- keys by their ids
pub same-id : (hw : Hardware) (w : World) → IsKept hw w → (q k : Key) → leads (post_at w) q ≡ true → leads (post_at w) k ≡ true → ((instance_at w q).id == (instance_at w k).id) ≡ true → q ≡ k
same-id hw w h q k lead_q lead_k same =
    h.numbered.once q k (leads-parts (is_live w q) (is_key q (entry_at w q).leader) lead_q).0 (leads-parts (is_live w k) (is_key k (entry_at w k).leader) lead_k).0
    (number_true (instance_at w q).id (instance_at w k).id same)

id-nowhere : (hw : Hardware) (w : World) → IsKept hw w → (k : Key) → leads (post_at w) k ≡ true → (keys : List Key) → ((q : Key) → 1 ≤ times q keys → leads (post_at w) q ≡ true) → times k keys ≡ 0
    → count_by (λ q. (instance_at w q).id == (instance_at w k).id) keys ≡ 0
id-nowhere hw w h k lead keys all none = count-none (λ q. (instance_at w q).id == (instance_at w k).id) keys
    (λ q some same. omega (arith, some, none, ap (λ x. times x keys) (same-id hw w h q k (all q some) lead same)))

id-once : (hw : Hardware) (w : World) → IsKept hw w → (k : Key) → leads (post_at w) k ≡ true → (keys : List Key) → ((q : Key) → 1 ≤ times q keys → leads (post_at w) q ≡ true) → ((q : Key) → times q keys ≤ 1)
    → count_by (λ q. (instance_at w q).id == (instance_at w k).id) keys ≤ 1
id-once hw w h k lead keys all once = count-one (λ q. (instance_at w q).id == (instance_at w k).id) keys once
    (λ i j some_i some_j first second. ap (λ x. x.0) (same-id hw w h i k (all i some_i) lead first ∙ sym (same-id hw w h j k (all j some_j) lead second)))

-- the verdicts of the two parts are about those keys
two-passes : (a b : List Key) (f : Key → Group) → flat_map (λ p. p) (map f a ∷ map f b ∷ []) ≡ map f (a ++ b)
two-passes a b f = ap (λ gs. map f a ++ gs) (append-nil (map f b)) ∙ sym (map-append f a b)

about-keys : (hw : Hardware) (w : World) (cpu : CpuNo) (id : ℕ) (js : List Judged) (ps : List (List Group)) (own task : List Key)
    → map (λ j. j.group) js ≡ flat_map (λ p. p) (map (filter (is_eligible hw cpu)) ps) → ps ≡ map (group_at w) own ∷ map (group_at w) task ∷ []
    → count_by (is_about id) js ≤ count_by (λ q. (instance_at w q).id == id) (own ++ task)
about-keys hw w cpu id js ps own task groups are =
    omega (
      arith,
      about-groups id js,
      ap (count_by (is_led id)) groups,
      count-passes id (is_eligible hw cpu) ps,
      ap (count_by (is_led id)) (ap (flat_map (λ p. p)) are ∙ two-passes own task (group_at w)),
      count-leaders w id (own ++ task),
    )

about-pinned : (hw : Hardware) (w : World) (cpu : CpuNo) (id : ℕ) → count_by (is_about id) (pinned_verdicts hw (stage_of w) cpu) ≤ count_by (λ q. (instance_at w q).id == id) (pinned_leaders w cpu)
about-pinned hw w cpu id =
    let s : Stage = stage_of w in
    about-keys hw w cpu id (pinned_verdicts hw s cpu) (take 2 (passes s cpu)) (leaders_of w (context.Processor cpu)).pinned (task_leaders w (task_on s cpu)).pinned
    (parts hw s cpu).pinned_groups (ap (take 2) (passes-are w cpu))

about-flexible : (hw : Hardware) (w : World) (cpu : CpuNo) (id : ℕ) → count_by (is_about id) (flexible_verdicts hw (stage_of w) cpu) ≤ count_by (λ q. (instance_at w q).id == id) (flexible_leaders w cpu)
about-flexible hw w cpu id =
    let s : Stage = stage_of w in
    about-keys hw w cpu id (flexible_verdicts hw s cpu) (drop 2 (passes s cpu)) (leaders_of w (context.Processor cpu)).flexible (task_leaders w (task_on s cpu)).flexible
    (parts hw s cpu).flexible_groups (ap (drop 2) (passes-are w cpu))

-- so of each leader: none is about one that is not among the keys, and one at most about another
none-pinned : (hw : Hardware) (w : World) → IsKept hw w → (cpu : CpuNo) (k : Key) → leads (post_at w) k ≡ true → times k (pinned_leaders w cpu) ≡ 0
    → count_by (is_about (instance_at w k).id) (pinned_verdicts hw (stage_of w) cpu) ≡ 0
none-pinned hw w h cpu k lead none =
    omega (arith, about-pinned hw w cpu (instance_at w k).id, id-nowhere hw w h k lead (pinned_leaders w cpu) (λ q some. (pinned-flag hw w h cpu q some).0) none)

none-flexible : (hw : Hardware) (w : World) → IsKept hw w → (cpu : CpuNo) (k : Key) → leads (post_at w) k ≡ true → (entry_at w k).pinned ≡ true
    → count_by (is_about (instance_at w k).id) (flexible_verdicts hw (stage_of w) cpu) ≡ 0
none-flexible hw w h cpu k lead pinned =
    let away : times k (flexible_leaders w cpu) ≡ 0 = grind (arith, nat_tests, false≢true, flexible-flag) in
    omega (arith, about-flexible hw w cpu (instance_at w k).id, id-nowhere hw w h k lead (flexible_leaders w cpu) (λ q some. (flexible-flag hw w h cpu q some).0) away)

few-pinned : (hw : Hardware) (w : World) → IsKept hw w → (cpu : CpuNo) (k : Key) → leads (post_at w) k ≡ true
    → count_by (is_about (instance_at w k).id) (pinned_verdicts hw (stage_of w) cpu) ≤ 1
few-pinned hw w h cpu k lead =
    omega (
      arith,
      about-pinned hw w cpu (instance_at w k).id,
      id-once hw w h k lead (pinned_leaders w cpu) (λ q some. (pinned-flag hw w h cpu q some).0)
          (λ q. omega (arith, leaders-split w cpu q, reached-once hw w h cpu q)),
    )

-- the stage
pinned-lead : (hw : Hardware) (w : World) → IsKept hw w → (cpu : CpuNo) → AllLead w (pinned_leaders w cpu)
pinned-lead hw w h cpu q some = (pinned-flag hw w h cpu q some).0

pinned-context : (hw : Hardware) (w : World) → IsKept hw w → (cpu : CpuNo) (q : Key) → 1 ≤ times q (pinned_leaders w cpu) → has_context (stage_of w) cpu (entry_at w q).context ≡ true
pinned-context hw w h cpu q some = reached-context hw w h cpu q (omega (arith, some, leaders-split w cpu q))

siblings-same : (hw : Hardware) (w : World) → IsKept hw w → (cpu : CpuNo) (q : Key) → leads (post_at w) q ≡ true
    → map (instance_at (fail_groups (pinned_leaders w cpu) w)) (after_first (entry_at (fail_groups (pinned_leaders w cpu) w) q).members)
    ≡ map (instance_at w) (after_first (entry_at w q).members)
siblings-same hw w h cpu q lead =
    let keys : List Key = pinned_leaders w cpu in
    let t : World = fail_groups keys w in
    let f : AreFailed w t keys = are-failed keys w in
    let sib : AreSiblings (post_at w) q (after_first (entry_at w q).members) = siblings-stand hw w q h lead in
    ap (λ at. map (instance_at t) (after_first (at q).members)) (failed-posts keys w (pinned-lead hw w h cpu))
    ∙ map-within (instance_at t) (instance_at w) (after_first (entry_at w q).members) (λ j some. f.other_instances j (elim (cases_eq (times j keys) 0) [
      | inl none ↦ none
      | inr more ↦
          let lead_j : leads (post_at w) j ≡ true = pinned-lead hw w h cpu j (omega (arith, more)) in
          let apart : j.0 ≡ q.0 → ⊥ = λ e. omega (arith, some, sib.not_itself, ap (λ x. times x (after_first (entry_at w q).members)) (key-is j q e)) in
          let member : is_member_of (post_at w) q j ≡ true = grind (arith, nat_tests, once-false) in
          absurd (false≢true (sym (member-follows (post_at w) q j apart member) ∙ (leads-parts (is_live w j) (is_key j (entry_at w j).leader) lead_j).1))
    ]))

group-failed : (hw : Hardware) (w : World) → IsKept hw w → (cpu : CpuNo) (q : Key) → 1 ≤ times q (pinned_leaders w cpu)
    → group_at (fail_groups (pinned_leaders w cpu) w) q ≡ failed (standing_at w q) (group_at w q)
group-failed hw w h cpu q some = grind (arith, are-failed (pinned_leaders w cpu) w, siblings-same hw w h cpu q (pinned-lead hw w h cpu q some))

group-same : (hw : Hardware) (w : World) → IsKept hw w → (cpu : CpuNo) (q : Key) → leads (post_at w) q ≡ true → times q (pinned_leaders w cpu) ≡ 0
    → group_at (fail_groups (pinned_leaders w cpu) w) q ≡ group_at w q
group-same hw w h cpu q lead none = grind (arith, are-failed (pinned_leaders w cpu) w, siblings-same hw w h cpu q lead)

stands-out : (hw : Hardware) (w : World) → IsKept hw w → (cpu : CpuNo) (q : Key) → leads (post_at w) q ≡ true → (entry_at w q).pinned ≡ true → times q (pinned_leaders w cpu) ≡ 0
    → standing_among (verdicts hw (stage_of w) cpu) (group_at w q) ≡ standing.Out
stands-out hw w h cpu q lead pinned none = grind (arith, nat_tests, parts, among-later, none-pinned, among-none, none-flexible)

pinned-group : (hw : Hardware) (w : World) (cpu : CpuNo) → IsKept hw w → IsJudged hw w cpu → (place : ℕ) (q : Key) → 1 ≤ times q (slice_index_or w.contexts place no_leaders).pinned
    → group_at (fail_groups (pinned_leaders w cpu) w) q ≡ failed (standing_among (verdicts hw (stage_of w) cpu) (group_at w q)) (group_at w q)
pinned-group hw w cpu h judged place q some = grind (arith, nat_tests, pinned-there, group-same, stands-out, group-failed, pinned-context)

flexible-group : (hw : Hardware) (w : World) (cpu : CpuNo) → IsKept hw w → (place : ℕ) (q : Key) → 1 ≤ times q (slice_index_or w.contexts place no_leaders).flexible
    → group_at (fail_groups (pinned_leaders w cpu) w) q ≡ group_at w q
flexible-group hw w cpu h place q some = grind (arith, nat_tests, flexible-there, group-same, false≢true, pinned-flag)

pub fail-stage : FailStageLaw
fail-stage hw w cpu low h judged =
    let t : World = fail_groups (pinned_leaders w cpu) w in
    let js : List Judged = verdicts hw (stage_of w) cpu in
    let rest : (t.contexts ≡ w.contexts) × (t.quiet ≡ w.quiet) = failed-rest (pinned_leaders w cpu) w in
    let each : (p : ℕ) → lists_at t (slice_index_or w.contexts p no_leaders) ≡ fail_lists js (lists_at w (slice_index_or w.contexts p no_leaders)) = λ p.
    (let l : Leaders = slice_index_or w.contexts p no_leaders in
    let pinned : map (group_at t) l.pinned ≡ map (λ g. failed (standing_among js g) g) (map (group_at w) l.pinned) =
    search (nat_tests, map-within, pinned-group, map-map) in
    let flexible : map (group_at t) l.flexible ≡ map (group_at w) l.flexible = map-within (group_at t) (group_at w) l.flexible (flexible-group hw w cpu h p) in
    λ i. record { pinned = pinned i; flexible = flexible i }) in
    let contexts : map (lists_at t) t.contexts ≡ map (fail_lists js) (map (lists_at w) w.contexts) =
    ap (map (lists_at t)) rest.0 ∙ (map-places (lists_at t) (λ l. fail_lists js (lists_at w l)) no_leaders w.contexts each ∙ sym (map-map (fail_lists js) (lists_at w) w.contexts)) in
    grind (arith, nat_tests, contexts, settles_by_standings, is-numbered)

-- the verdicts afterwards
new-verdicts : (hw : Hardware) (w : World) (cpu : CpuNo) → cpu.0 < 8 → IsKept hw w → IsJudged hw w cpu
    → verdicts hw (stage_of (fail_groups (pinned_leaders w cpu) w)) cpu ≡ kept (pinned_verdicts hw (stage_of w) cpu) ++ flexible_verdicts hw (stage_of w) cpu
new-verdicts hw w cpu low h judged = ap (λ s. verdicts hw s cpu) (fail-stage hw w cpu low h judged) ∙ settled_verdicts hw cpu (stage_of w) low

stays-judged : (hw : Hardware) (w : World) (cpu : CpuNo) → IsKept hw w → IsJudged hw w cpu → (k : Key) → leads (post_at w) k ≡ true → has_context (stage_of w) cpu (entry_at w k).context ≡ true
    → standing_at (fail_groups (pinned_leaders w cpu) w) k ≡ standing_among (kept (pinned_verdicts hw (stage_of w) cpu) ++ flexible_verdicts hw (stage_of w) cpu) (group_at w k)
stays-judged hw w cpu h judged k lead there =
    let s : Stage = stage_of w in
    let g : Group = group_at w k in
    let first : List Judged = pinned_verdicts hw s cpu in
    let last : List Judged = flexible_verdicts hw s cpu in
    let f : AreFailed w (fail_groups (pinned_leaders w cpu) w) (pinned_leaders w cpu) = are-failed (pinned_leaders w cpu) w in
    let now : standing_at w k ≡ standing_among (first ++ last) g = judged.standings k lead there ∙ ap (λ js. standing_among js g) (parts hw s cpu).whole in
    elim (cases_eq (times k (pinned_leaders w cpu)) 0) [
      | inl none ↦ grind (arith, nat_tests, none-pinned, none, kept, count-filter, among-later)
      | inr more ↦ grind (arith, nat_tests, more, none-flexible, pinned-flag, calmed, among-first, among-kept, few-pinned, kept)
    ]

-- whether a context is a processor's goes by what runs
has-same : (s t : Stage) (cpu : CpuNo) (c : Context) → t.running ≡ s.running → has_context t cpu c ≡ has_context s cpu c
has-same s t cpu (context.Processor other) e = refl
has-same s t cpu (context.Task task) e = ap (λ r. is_task (slice_index_or r cpu.0 None) task) e

abbrev events_of : Hardware → List Judged → List (EventNo × ℕ)
events_of hw js = with_masks hw (filter is_hardware (flat_map (λ g. filter (λ i. is_ready i.own) (members_of g)) (groups_on js)))

pub fail-rescheduled : FailLaw
fail-rescheduled hw w cpu low h judged =
    let s : Stage = stage_of w in
    let t : World = fail_groups (pinned_leaders w cpu) w in
    let first : List Judged = pinned_verdicts hw s cpu in
    let last : List Judged = flexible_verdicts hw s cpu in
    let posts : post_at t ≡ post_at w = failed-posts (pinned_leaders w cpu) w (pinned-lead hw w h cpu) in
    let quiet : t.quiet ≡ w.quiet = (failed-rest (pinned_leaders w cpu) w).1 in
    let now : verdicts hw (stage_of t) cpu ≡ kept first ++ last = new-verdicts hw w cpu low h judged in
    let seats : seats_at t cpu ≡ seats_at w cpu = ap (λ q. slice_index_or q.seats cpu.0 (empty_seating 0)) quiet in
    let on : groups_on (kept first ++ last) ≡ groups_on (verdicts hw s cpu) = grind (arith, groups_on-append, kept, groups_on-kept, parts) in
    let events : events_of hw (verdicts hw s cpu) ≡ events_of hw (verdicts hw (stage_of t) cpu) = grind (arith, nat_tests) in
    record {
      settled = subst (IsSettled hw cpu) (sym (fail-stage hw w cpu low h judged)) (settles_once hw cpu s low);
      judged = record {
        standings = λ k lead there.
            let was : leads (post_at w) k ≡ true = ap (λ at. leads at k) (sym posts) ∙ lead in
            let at_cpu : has_context s cpu (entry_at w k).context ≡ true =
            ap (λ at. has_context s cpu (at k).context) (sym posts) ∙ (sym (has-same s (stage_of t) cpu (entry_at t k).context (ap (λ q. q.running) quiet)) ∙ there) in
            stays-judged hw w cpu h judged k was at_cpu
            ∙ (among-id (kept first ++ last) (group_at w k) (group_at t k) (ap (λ at. (at k).id) (sym posts))
            ∙ ap (λ js. standing_among js (group_at t k)) (sym now));
        served = record {
          events = ap (λ x. x.events) seats ∙ (judged.served.events ∙ events);
          assigned = subst (λ x. IsAssignment (masks_of x.events) x.seats) (sym seats) judged.served.assigned;
        };
      };
    }

pub fail-kept : FailKeptLaw
fail-kept hw w cpu h = failed-kept hw (pinned_leaders w cpu) w (pinned-lead hw w h cpu) h
