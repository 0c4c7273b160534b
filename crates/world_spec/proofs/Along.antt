-- The keys that a processor reaches: those that are on and those that are ready are the stage's, and what the
-- definitions give each of a stretch of work is what it has along the processor.
use Rattle.std.specs.Prelude.{◌≡◌, ℕ, ◌+◌, ◌≤◌, ◌==◌, Bool, true, false, ◌&&◌, cond, All, List, [], ◌∷◌, ◌++◌, map, filter, flat_map, count_by, option_map, slice_index_or, if◌then◌else◌}
use Rattle.std.proofs.{Common.{arith, refl, sym, ap, ◌∙◌, inl, inr}, lemmas.Bool.{cases_eq, cases_Bool, and_parts, and_right, eq-eqb, false≢true, Decides.{nat_tests}}}
use Rattle.std.proofs.lemmas.List.Elements.{filter-append}
use Rattle.perf_base.specs.declared.{attr.{Attr.{Attr}, Kind.{Kind}}, lines.Work.{Work}, numbers.{CpuNo.{CpuNo}, Key.{Key}}, reply.Sums.{Sums}}
use Rattle.perf_base.specs.{declared.standing.{Context.{Context}, Own.{Own}}, Standings.{stands_on}}
use Rattle.perf_base.specs.declared.attr.Kind.TheVariants as kind
use Rattle.perf_base.specs.declared.standing.Context.TheVariants as context
use Rattle.perf_base.specs.declared.standing.Own.TheVariants as own
use Rattle.perf_base.specs.declared.standing.Standing.TheVariants as standing
use Rattle.stage_spec.specs.{declared.instance.Instance.{Instance}, Effective.{effective, is_ready}, Hardware.{Hardware}, Reading.{is_error}}
use Rattle.stage_spec.specs.{Shares.{measured, of_instance, counted_by, work_hits, share, ready_instances}, Stage.{Stage, place_of, task_on}}
use Rattle.stage_spec.specs.Verdict.{Judged, is_eligible, verdicts, on_instances}
use Rattle.stage_laws.{specs.Narrowing.{has_context}, proofs.{Counts.{count-cons}, Tasks.{is_task-some}}}
use Rattle.world_spec.specs.{Value.{World, is_live, entry_at, instance_at, standing_at, is_key, times}, StageOf.{group_at, stage_of}}
use Rattle.world_spec.specs.{Kept.{post_at, once_if, leads, IsKept}, Metering.{is_metered, work_given, ShareLaw, GivenLaw, AlongLaw}}
use Rattle.world_spec.specs.{Rescheduled.{IsJudged}, Ways.{is_ready_at, is_on_at}}
use Rattle.world_spec.specs.Working.{is_effective, is_on, leaders_by_pass, keys_by_pass, ready_in, effective_in, ReachedKeysLaw}
use Rattle.world_spec.proofs.{Coming.{number_true}, Copies.{times-at}, Counting.{find-mapped, find-one, find-none, times-filter}, Families.{members_at}}
use Rattle.world_spec.proofs.Keys.{key-is, is_key-same, is_key-true, times-cons, once-true, once-false}
use Rattle.world_spec.proofs.{Listings.{held-by, counted-there, stands_in_task, reached-once, reached-leading, reached-context}, Moving.{leads-parts}}
use Rattle.world_spec.proofs.Rescheduling.{is_led, is_about, about-groups, among-none, same-id}
use Rattle.world_spec.proofs.Working.{on-is, ready-is, judged-groups, filter-same}
use Rattle.world_spec.proofs.Tables.{same_number}
use Rattle.world_spec.proofs.ComingLinks.{none_of_three}

-- the members of groups
pub once-both : (b : Bool) → 1 ≤ once_if b → b ≡ true
once-both true h = refl
once-both false h = absurd (omega (arith, h))

pub once-three : (a b c : Bool) → 1 ≤ once_if (a && b && c) → (a ≡ true) × (b ≡ true) × (c ≡ true)
once-three a b c some =
    let parts = and_parts (a && b) c (once-both (a && b && c) some) in
    let front = and_parts a b parts.0 in (front.0, front.1, parts.1)

pub member-of : (hw : Hardware) (w : World) → IsKept hw w → (q k : Key) → 1 ≤ times k (members_at w q) → (is_live w k ≡ true) × ((entry_at w k).leader ≡ q)
member-of hw w h q k some = grind (arith, nat_tests, leads-parts, once-both, key-is, is_key-true, some, h.linked.members k q)

pub members-live : (hw : Hardware) (w : World) (leader : Key) → IsKept hw w → All (λ k. is_live w k ≡ true) (entry_at w leader).members
members-live hw w leader h i d low =
    (member-of hw w h leader (slice_index_or (entry_at w leader).members i d) (times-at (entry_at w leader).members i d low)).0

-- a test that no key passes
pub filter-no : (keys : List Key) → filter (λ k. false) keys ≡ []
filter-no [] = refl
filter-no (k ∷ keys) = filter-no keys

-- those that are ready
pub effective-are : (hw : Hardware) (w : World) → IsKept hw w → (leaders : List Key) → flat_map (effective_in w) leaders ≡ filter (is_effective w) (flat_map (members_at w) leaders)
effective-are hw w h [] = refl
effective-are hw w h (q ∷ leaders) = grind (arith, nat_tests, members_at, filter-same, member-of, filter-append, effective-are hw w h leaders)

pub ready-keys : (hw : Hardware) (w : World) (cpu : CpuNo) → IsKept hw w
    → ready_instances (stage_of w) cpu ≡ map (instance_at w) (filter (is_effective w) (keys_by_pass w cpu))
ready-keys hw w cpu h = ready-is hw w cpu h ∙ ap (map (instance_at w)) (effective-are hw w h (leaders_by_pass w cpu))

-- A group that stands on is eligible, and so its leader is ready.
none-eligible : (hw : Hardware) (w : World) (cpu : CpuNo) (id : ℕ) (keys : List Key)
    → ((k : Key) → 1 ≤ times k keys → ((instance_at w k).id == id) ≡ true → is_eligible hw cpu (group_at w k) ≡ false)
    → count_by (is_led id) (filter (is_eligible hw cpu) (map (group_at w) keys)) ≡ 0
none-eligible hw w cpu id [] none = refl
none-eligible hw w cpu id (k ∷ keys) none =
    let rest : count_by (is_led id) (filter (is_eligible hw cpu) (map (group_at w) keys)) ≡ 0 =
    none-eligible hw w cpu id keys (λ j some. none j (omega (arith, some, times-cons j k keys))) in
    elim (cases_Bool (is_eligible hw cpu (group_at w k))) [
      | inl goes ↦ elim (cases_Bool ((instance_at w k).id == id)) [
        | inl its ↦ absurd (false≢true (sym (none k (omega (arith, times-cons k k keys, once-true (is_key k k) (is_key-same k k refl))) its) ∙ goes))
        | inr other ↦ grind (arith, nat_tests, is_led, count-cons, once-false, other)
      ]
      | inr stays ↦ grind (arith, nat_tests, is_led, stays)
    ]

pub on-ready : (hw : Hardware) (w : World) (cpu : CpuNo) → IsKept hw w → IsJudged hw w cpu → (q : Key) → 1 ≤ times q (leaders_by_pass w cpu) → stands_on (standing_at w q) ≡ true
    → is_ready (instance_at w q).own ≡ true
on-ready hw w cpu h judged q some on = elim (cases_Bool (is_ready (instance_at w q).own)) [
  | inl ready ↦ ready
  | inr off ↦
      let js : List Judged = verdicts hw (stage_of w) cpu in
      let id : ℕ = (instance_at w q).id in
      let lead : (k : Key) → 1 ≤ times k (leaders_by_pass w cpu) → leads (post_at w) k ≡ true = reached-leading hw w h cpu in
      let none : count_by (is_about id) js ≡ 0 =
      about-groups id js ∙ (ap (count_by (is_led id)) (judged-groups hw w cpu)
      ∙ none-eligible hw w cpu id (leaders_by_pass w cpu) (λ k there same.
      none_of_three (is_ready (instance_at w k).own) _ _ (ap (λ x. is_ready (instance_at w x).own) (same-id hw w h k q (lead k there) (lead q some) same) ∙ off))) in
      let out : standing_at w q ≡ standing.Out = judged.standings q (lead q some) (reached-context hw w h cpu q some) ∙ among-none js (group_at w q) none in
      absurd (false≢true (sym (ap stands_on out) ∙ on))
]

-- those that are on
under-ready : (leader mine : Own) → is_ready leader ≡ true → (is_error mine ≡ true → mine ≡ leader) → is_ready (effective leader mine) ≡ is_ready mine
under-ready own.Ready own.Off ready h = refl
under-ready own.Ready own.Ready ready h = refl
under-ready own.Ready (own.Error cause) ready h = absurd (false≢true (ap is_ready (h refl)))
under-ready own.Off mine ready h = absurd (false≢true ready)
under-ready (own.Error cause) mine ready h = absurd (false≢true ready)

both-true : (a b : Bool) → b ≡ true → (a && b) ≡ a
both-true true true h = refl
both-true false b h = refl
both-true true false h = absurd (false≢true h)

on-in : (hw : Hardware) (w : World) → IsKept hw w → (q : Key) → (stands_on (standing_at w q) ≡ true → is_ready (instance_at w q).own ≡ true)
    → cond (stands_on (standing_at w q)) (ready_in w q) [] ≡ filter (is_on w) (members_at w q)
on-in hw w h q ready = elim (cases_Bool (stands_on (standing_at w q))) [
  | inl on ↦
      ap (λ b. cond b (ready_in w q) []) on
      ∙ filter-same (λ k. is_ready (instance_at w k).own) (is_on w) (members_at w q) (λ k some.
      let m = member-of hw w h q k some in
      let l : Key = (entry_at w k).leader in
      let stands : stands_on (standing_at w l) ≡ true = ap (λ x. stands_on (standing_at w x)) m.1 ∙ on in
      let led : is_ready (instance_at w l).own ≡ true = ap (λ x. is_ready (instance_at w x).own) m.1 ∙ ready on in
      sym (both-true (is_effective w k) (stands_on (standing_at w l)) stands
      ∙ under-ready (instance_at w l).own (instance_at w k).own led
      (λ error. ap (λ x. (instance_at w x).own) (sym (key-is l k (is_key-true k l (h.lawful.errors k m.0 error)))))))
  | inr off ↦
      ap (λ b. cond b (ready_in w q) []) off
      ∙ sym (filter-same (is_on w) (λ k. false) (members_at w q) (λ k some.
      and_right (is_effective w k) (stands_on (standing_at w (entry_at w k).leader)) (ap (λ x. stands_on (standing_at w x)) (member-of hw w h q k some).1 ∙ off))
      ∙ filter-no (members_at w q))
]

flat-chosen : (b : Bool) (f : Key → List Key) (q : Key) (rest : List Key) → flat_map f (cond b (q ∷ rest) rest) ≡ cond b (f q) [] ++ flat_map f rest
flat-chosen true f q rest = refl
flat-chosen false f q rest = refl

on-are : (hw : Hardware) (w : World) → IsKept hw w → (leaders : List Key) → ((q : Key) → 1 ≤ times q leaders → stands_on (standing_at w q) ≡ true → is_ready (instance_at w q).own ≡ true)
    → flat_map (ready_in w) (filter (λ k. stands_on (standing_at w k)) leaders) ≡ filter (is_on w) (flat_map (members_at w) leaders)
on-are hw w h [] ready = refl
on-are hw w h (q ∷ leaders) ready =
    let more : List Key = filter (λ k. stands_on (standing_at w k)) leaders in
    flat-chosen (stands_on (standing_at w q)) (ready_in w) q more
    ∙ (ap (λ keys. keys ++ flat_map (ready_in w) more) (on-in hw w h q (ready q (omega (arith, times-cons q q leaders, once-true (is_key q q) (is_key-same q q refl)))))
    ∙ (ap (λ keys. filter (is_on w) (members_at w q) ++ keys) (on-are hw w h leaders (λ j some. ready j (omega (arith, some, times-cons j q leaders))))
    ∙ sym (filter-append (is_on w) (members_at w q) (flat_map (members_at w) leaders))))

pub on-keys : (hw : Hardware) (w : World) (cpu : CpuNo) → IsKept hw w → IsJudged hw w cpu
    → on_instances hw (stage_of w) cpu ≡ map (instance_at w) (filter (is_on w) (keys_by_pass w cpu))
on-keys hw w cpu h judged = grind (arith, nat_tests, on-is, on-are, on-ready)

-- what an instance of a list gives by its id
by-id : (hw : Hardware) (w : World) → IsKept hw w → (j k : Key) → is_live w j ≡ true → is_live w k ≡ true → ((instance_at w j).id == (instance_at w k).id) ≡ true → j.0 ≡ k.0
by-id hw w h j k live_j live_k same = ap (λ q. q.0) (h.numbered.once j k live_j live_k (number_true (instance_at w j).id (instance_at w k).id same))

pub measure-in : (hw : Hardware) (w : World) → IsKept hw w → (f : Instance → ℕ) (keys : List Key) (k : Key) → ((q : Key) → 1 ≤ times q keys → is_live w q ≡ true)
    → is_live w k ≡ true → 1 ≤ times k keys → of_instance f (instance_at w k).id (map (instance_at w) keys) ≡ f (instance_at w k)
measure-in hw w h f keys k lives live some =
    ap (measured f) (find-mapped (λ i. i.id == (instance_at w k).id) (instance_at w) keys
    ∙ ap (option_map (instance_at w)) (find-one (λ q. (instance_at w q).id == (instance_at w k).id) keys k (eq-eqb (instance_at w k).id (instance_at w k).id refl) some
    (λ q there same. by-id hw w h q k (lives q there) live same)))

pub measure-out : (hw : Hardware) (w : World) → IsKept hw w → (f : Instance → ℕ) (keys : List Key) (k : Key) → ((q : Key) → 1 ≤ times q keys → is_live w q ≡ true)
    → is_live w k ≡ true → times k keys ≡ 0 → of_instance f (instance_at w k).id (map (instance_at w) keys) ≡ 0
measure-out hw w h f keys k lives live none =
    ap (measured f) (find-mapped (λ i. i.id == (instance_at w k).id) (instance_at w) keys
    ∙ ap (option_map (instance_at w)) (find-none (λ q. (instance_at w q).id == (instance_at w k).id) keys
    (λ q there same. omega (arith, there, none, ap (λ j. times j keys) (key-is q k (by-id hw w h q k (lives q there) live same))))))

-- and one of those of a list that pass a test
pub chosen-some : (p : Key → Bool) (keys : List Key) (q : Key) → 1 ≤ times q (filter p keys) → 1 ≤ times q keys
chosen-some p keys q some = at-most (p q) (omega (arith, some, times-filter q p keys))
  where
    at-most : (b : Bool) → 1 ≤ cond b (times q keys) 0 → 1 ≤ times q keys
    at-most true h = h
    at-most false h = absurd (omega (arith, h))

pub chosen-passes : (p : Key → Bool) (keys : List Key) (q : Key) → 1 ≤ times q (filter p keys) → p q ≡ true
chosen-passes p keys q some = elim (cases_Bool (p q)) [
  | inl e ↦ e
  | inr e ↦ absurd (omega (arith, some, times-filter q p keys, ap (λ b. cond b (times q keys) 0) e))
]

pub chosen-measure : (hw : Hardware) (w : World) → IsKept hw w → (f : Instance → ℕ) (p : Key → Bool) (keys : List Key) (k : Key)
    → ((q : Key) → 1 ≤ times q keys → is_live w q ≡ true) → is_live w k ≡ true → 1 ≤ times k keys
    → of_instance f (instance_at w k).id (map (instance_at w) (filter p keys)) ≡ if p k then f (instance_at w k) else 0
chosen-measure hw w h f p keys k lives live some =
    let chosen : (q : Key) → 1 ≤ times q (filter p keys) → is_live w q ≡ true = λ q there. lives q (chosen-some p keys q there) in
    grind (arith, nat_tests, measure-in, chosen, times-filter, measure-out)

pub chosen-none : (hw : Hardware) (w : World) → IsKept hw w → (f : Instance → ℕ) (p : Key → Bool) (keys : List Key) (k : Key)
    → ((q : Key) → 1 ≤ times q keys → is_live w q ≡ true) → is_live w k ≡ true → times k keys ≡ 0
    → of_instance f (instance_at w k).id (map (instance_at w) (filter p keys)) ≡ 0
chosen-none hw w h f p keys k lives live none =
    measure-out hw w h f (filter p keys) k (λ q there. lives q (chosen-some p keys q there)) live (nothing (p k) (omega (arith, none)) (times-filter k p keys))
  where
    nothing : (b : Bool) → times k keys ≡ 0 → times k (filter p keys) ≡ cond b (times k keys) 0 → times k (filter p keys) ≡ 0
    nothing true none e = omega (arith, none, e)
    nothing false none e = e

-- a key stands once among those that a processor reaches where its context is on it
either-place : (s : Stage) (cpu : CpuNo) (c : Context) → has_context s cpu c ≡ true
    → 1 ≤ once_if (place_of c == place_of (context.Processor cpu)) + once_if (stands_in_task (task_on s cpu) (place_of c))
either-place s cpu (context.Processor b) there = grind (arith, nat_tests, number_true, once-true, same_number)
either-place s cpu (context.Task task) there = grind (arith, nat_tests, is_task-some, stands_in_task, same_number, once-true)

reached-keys-live : (hw : Hardware) (w : World) (cpu : CpuNo) (k : Key) → IsKept hw w → is_live w k ≡ true → times k (keys_by_pass w cpu) ≡ times (entry_at w k).leader (leaders_by_pass w cpu)
reached-keys-live hw w cpu k h live = grind (arith, nat_tests, held-by)

pub reached-keys : ReachedKeysLaw
reached-keys hw w cpu k h live =
    let m : Key = (entry_at w k).leader in
    let there : Bool = has_context (stage_of w) cpu (entry_at w k).context in
    let few : times m (leaders_by_pass w cpu) ≤ 1 = reached-once hw w h cpu m in
    let together : has_context (stage_of w) cpu (entry_at w m).context ≡ there = ap (has_context (stage_of w) cpu) (h.grouped.together k live) in
    reached-keys-live hw w cpu k h live ∙ elim (cases_Bool there) [
      | inl here ↦
          let lead : leads (post_at w) m ≡ true = h.grouped.led k live in
          let place : ℕ = place_of (entry_at w m).context in
          let some : 1 ≤ times m (leaders_by_pass w cpu) =
          omega (
            arith,
            counted-there hw w h cpu m,
            either-place (stage_of w) cpu (entry_at w m).context (together ∙ here),
            ap (λ b. once_if (b && place == place_of (context.Processor cpu))) lead,
            ap (λ b. once_if (b && stands_in_task (task_on (stage_of w) cpu) place)) lead,
          ) in
          omega (arith, some, few, once-true there here)
      | inr away ↦ elim (cases_eq (times m (leaders_by_pass w cpu)) 0) [
        | inl none ↦ omega (arith, none, once-false there away)
        | inr more ↦ absurd (false≢true (sym (together ∙ away) ∙ reached-context hw w h cpu m (omega (arith, more))))
      ]
    ]

pub keys-live : (hw : Hardware) (w : World) (cpu : CpuNo) → IsKept hw w → (q : Key) → 1 ≤ times q (keys_by_pass w cpu) → is_live w q ≡ true
keys-live hw w cpu h q some = grind (arith, nat_tests, held-by)

-- what an instance gives among those that are on, and among those that are ready
on-here : (e b s : Bool) → b ≡ true → ((e && b) && s) ≡ (e && s)
on-here true true s h = refl
on-here true false s h = absurd (false≢true h)
on-here false b s h = refl

on-nowhere : (e b s : Bool) → b ≡ false → ((e && b) && s) ≡ false
on-nowhere true true s h = absurd (false≢true (sym h))
on-nowhere true false s h = refl
on-nowhere false b s h = refl

module _ (w : World) (cpu : CpuNo) (h : IsKept w.hardware w) (judged : IsJudged w.hardware w cpu) (f : Instance → ℕ) (k : Key) (live : is_live w k ≡ true) where
  abbrev there : Bool
  there = has_context (stage_of w) cpu (entry_at w k).context

  abbrev stands : Bool
  stands = stands_on (standing_at w (entry_at w k).leader)

  some_there : there ≡ true → 1 ≤ times k (keys_by_pass w cpu)
  some_there here = omega (arith, reached-keys w.hardware w cpu k h live, once-true there here)

  none_there : there ≡ false → times k (keys_by_pass w cpu) ≡ 0
  none_there away = reached-keys w.hardware w cpu k h live ∙ once-false there away

  pub on-share : of_instance f (instance_at w k).id (on_instances w.hardware (stage_of w) cpu) ≡ if is_on_at w cpu k then f (instance_at w k) else 0
  on-share = ap (of_instance f (instance_at w k).id) (on-keys w.hardware w cpu h judged) ∙ elim (cases_Bool there) [
    | inl here ↦
        chosen-measure w.hardware w h f (is_on w) (keys_by_pass w cpu) k (keys-live w.hardware w cpu h) live (some_there here)
        ∙ sym (ap (λ b. if b then f (instance_at w k) else 0) (on-here (is_effective w k) there stands here))
    | inr away ↦
        chosen-none w.hardware w h f (is_on w) (keys_by_pass w cpu) k (keys-live w.hardware w cpu h) live (none_there away)
        ∙ sym (ap (λ b. if b then f (instance_at w k) else 0) (on-nowhere (is_effective w k) there stands away))
  ]

  ready-share : of_instance f (instance_at w k).id (ready_instances (stage_of w) cpu) ≡ if is_ready_at w cpu k then f (instance_at w k) else 0
  ready-share = ap (of_instance f (instance_at w k).id) (ready-keys w.hardware w cpu h) ∙ elim (cases_Bool there) [
    | inl here ↦
        chosen-measure w.hardware w h f (is_effective w) (keys_by_pass w cpu) k (keys-live w.hardware w cpu h) live (some_there here)
        ∙ sym (ap (λ b. if b then f (instance_at w k) else 0) (both-true (is_effective w k) there here))
    | inr away ↦
        chosen-none w.hardware w h f (is_effective w) (keys_by_pass w cpu) k (keys-live w.hardware w cpu h) live (none_there away)
        ∙ sym (ap (λ b. if b then f (instance_at w k) else 0) (and_right (is_effective w k) there away))
  ]

-- the share of a stretch of work
same-sums : (a b c d e f : ℕ) → a ≡ d → b ≡ e → c ≡ f → ◌≡◌ {A = Sums} (record { count = a; enabled = b; running = c }) (record { count = d; enabled = e; running = f })
same-sums a b c d e f x y z = λ i. record { count = x i; enabled = y i; running = z i }

pub share-is : ShareLaw
unfolding share
share-is w cpu work k h judged live =
    same-sums _ _ _ _ _ _ (on-share w cpu h judged (work_hits work) k live) (ready-share w cpu h judged (λ i. work.length) k live) (on-share w cpu h judged (λ i. work.length) k live)

both-tests : (on none : Bool) (n : ℕ) → (if on && none then n else 0) ≡ (if none then (if on then n else 0) else 0)
both-tests true true n = refl
both-tests true false n = refl
both-tests false true n = refl
both-tests false false n = refl

pub given-is : GivenLaw
given-is w cpu work k h judged live =
    let none : Bool = (instance_at w k).attr.period == 0 in
    let count : (work_given w cpu work k).count ≡ (if none then (if is_on_at w cpu k then work_hits work (instance_at w k) else 0) else 0) =
    both-tests (is_on_at w cpu k) none (work_hits work (instance_at w k)) in
    grind (arith, nat_tests, count, none, share-is)

-- the kinds that lines of work do not count occur 0 times by them
no-hits : (b : Bool) → ◌≡◌ {A = ℕ} 0 (if b then 0 else 0)
no-hits true = refl
no-hits false = refl

by-kind : (on none : Bool) (work : Work) (a : Attr) (k : Kind) → (if on && none then counted_by work a k else 0) ≡ (if on && (is_metered k && none) then counted_by work a k else 0)
by-kind on none work a (kind.Hard n) = refl
by-kind on none work a kind.TaskClock = refl
by-kind on none work a kind.ContextSwitches = sym (no-hits (on && none)) ∙ no-hits (on && false)
by-kind on none work a kind.CpuMigrations = sym (no-hits (on && none)) ∙ no-hits (on && false)
by-kind on none work a kind.Dummy = sym (no-hits (on && none)) ∙ no-hits (on && false)

pub along-is : AlongLaw
along-is w cpu work k =
    let i : Instance = instance_at w k in
    by-kind (is_on_at w cpu k) (i.attr.period == 0) work i.attr i.attr.kind
