-- Which instances count on a processor, by the keys of a world.
use Rattle.std.specs.Prelude.{◌≡◌, ℕ, ◌≤◌, ◌==◌, Bool, true, false, ◌&&◌, cond, List, [], ◌∷◌, ◌++◌, map, filter, flat_map, count_by}
use Rattle.std.proofs.{Common.{arith, refl, sym, ap, ◌∙◌, inl, inr, append_assoc}, lemmas.Bool.{cases_Bool, false≢true, Decides.{nat_tests}}}
use Rattle.std.proofs.lemmas.List.{map-append, Elements.{filter-append}}
use Rattle.perf_base.specs.{declared.{numbers.{CpuNo.{CpuNo}, Key.{Key}}, standing.Standing.{Standing}}, Standings.{stands_on}}
use Rattle.perf_base.specs.declared.standing.Standing.TheVariants as standing
use Rattle.stage_spec.specs.{declared.instance.Instance.{Instance}, Effective.{is_ready, ready_members}, Hardware.{Hardware}}
use Rattle.stage_spec.specs.{Stage.{Group, members_of}, Verdict.{Judged, is_eligible, passes, verdicts, groups_on, standing_among}}
use Rattle.stage_laws.proofs.{Counts.{count-cons, count-append, count-filter}, Images.{filter-map}}
use Rattle.world_spec.specs.{Value.{World, entry_at, instance_at, standing_at, is_key, times}, StageOf.{group_at, stage_of}}
use Rattle.world_spec.specs.{Kept.{post_at, once_if, leads, IsKept}, Listings.{pass_leaders}}
use Rattle.world_spec.specs.Working.{leaders_by_pass, leaders_on, ready_in, effective_in, OnLaw, ReadyLaw}
use Rattle.world_spec.proofs.{Keys.{is_key-same, times-cons, once-true}, Moving.{leads-parts}, Coming.{number_true}, Standing.{passes-groups}}
use Rattle.world_spec.proofs.Families.{group-members}
use Rattle.world_spec.proofs.Listings.{passes-are, flat-mapped, reached-once, reached-leading, reached-context, count-none, count-one}
use Rattle.world_spec.proofs.Rescheduling.{is_led, is_about, about-groups, own_id, among-cons, among-none, among-later, same-id}

-- lists of keys that are mapped and joined
flat-within : (w : World) (f : Key → List Instance) (g : Key → List Key) (keys : List Key) → ((q : Key) → 1 ≤ times q keys → f q ≡ map (instance_at w) (g q))
    → flat_map f keys ≡ map (instance_at w) (flat_map g keys)
flat-within w f g [] h = refl
flat-within w f g (q ∷ keys) h =
    let first : f q ≡ map (instance_at w) (g q) = h q (omega (arith, times-cons q q keys, once-true (is_key q q) (is_key-same q q refl))) in
    grind (arith, nat_tests, first, times-cons, map-append, flat-within w f g keys (λ j some. h j (omega (arith, some, times-cons j q keys))))

flat-of_map : {X : Type 0} (f : X → List Instance) (g : Key → X) (keys : List Key) → flat_map f (map g keys) ≡ flat_map (λ q. f (g q)) keys
flat-of_map f g [] = refl
flat-of_map f g (q ∷ keys) = ap (λ is. f (g q) ++ is) (flat-of_map f g keys)

-- those that are ready
ready-of : (hw : Hardware) (w : World) → IsKept hw w → (q : Key) → leads (post_at w) q ≡ true → ready_members (group_at w q) ≡ map (instance_at w) (effective_in w q)
ready-of hw w h q lead = grind (arith, nat_tests, group-members, filter-map)

pub ready-is : ReadyLaw
ready-is hw w cpu h =
    let keys : List Key = leaders_by_pass w cpu in
    ap (λ ps. flat_map ready_members (flat_map (λ p. p) ps)) (passes-are w cpu) ∙ (ap (flat_map ready_members) (flat-mapped (group_at w) (pass_leaders w cpu))
    ∙ (flat-of_map ready_members (group_at w) keys ∙ flat-within w (λ q. ready_members (group_at w q)) (effective_in w) keys (λ q some. ready-of hw w h q (reached-leading hw w h cpu q some))))

-- the verdict of a group that was judged
stands-by : (pre rest : List Judged) (j : Judged) → count_by (is_about j.group.leader.id) pre ≡ 0 → standing_among (pre ++ j ∷ rest) j.group ≡ j.standing
stands-by pre rest j none = among-later pre (j ∷ rest) j.group none ∙ among-cons j rest j.group true (own_id j.group)

filter-first : {X : Type 0} (p : X → Bool) (x : X) (xs : List X) (b : Bool) → p x ≡ b → filter p (x ∷ xs) ≡ cond b (x ∷ filter p xs) (filter p xs)
filter-first p x xs b e = ap {B = List _} (λ c. cond c (x ∷ filter p xs) (filter p xs)) e

on-test : List Judged → Group → Bool
on-test js g = stands_on (standing_among js g)

chosen-groups : (all pre rest : List Judged) → all ≡ pre ++ rest → ((id : ℕ) → count_by (is_about id) all ≤ 1) → filter (on-test all) (map (λ j. j.group) rest) ≡ groups_on rest
unfolding on-test
chosen-groups all pre [] is once = refl
chosen-groups all pre (j ∷ rest) is once =
    let id : ℕ = j.group.leader.id in
    let before : count_by (is_about id) pre ≡ 0 =
    omega (arith, once id, ap (count_by (is_about id)) is, count-append (is_about id) pre (j ∷ rest), count-cons (is_about id) j rest, once-true (is_about id j) (own_id j.group)) in
    let mine : standing_among all j.group ≡ j.standing = ap (λ js. standing_among js j.group) is ∙ stands-by pre rest j before in
    let others : filter (on-test all) (map (λ x. x.group) rest) ≡ groups_on rest =
    chosen-groups all (pre ++ j ∷ []) rest (is ∙ sym (append_assoc pre (j ∷ []) rest)) once in
    grind (arith, nat_tests, filter-first, on-test, mine, others)

-- a list filtered by a test that asks more than another
filter-more : (f : Key → Group) (p e : Group → Bool) (keys : List Key) → ((q : Key) → 1 ≤ times q keys → e (f q) ≡ false → p (f q) ≡ false) → filter p (map f keys) ≡ filter p (filter e (map f keys))
filter-more f p e [] h = refl
filter-more f p e (q ∷ keys) h =
    let rest : filter p (map f keys) ≡ filter p (filter e (map f keys)) = filter-more f p e keys (λ j some. h j (omega (arith, some, times-cons j q keys))) in
    elim (cases_Bool (e (f q))) [
      | inl holds ↦ grind (arith, nat_tests, filter-first, holds)
      | inr fails ↦ grind (arith, times-cons q q keys, once-true (is_key q q) (is_key-same q q refl))
    ]

pub filter-same : (p q : Key → Bool) (keys : List Key) → ((k : Key) → 1 ≤ times k keys → p k ≡ q k) → filter p keys ≡ filter q keys
filter-same p q [] h = refl
filter-same p q (k ∷ keys) h =
    let first : p k ≡ q k = h k (omega (arith, times-cons k k keys, once-true (is_key k k) (is_key-same k k refl))) in
    rw (first, filter-same p q keys (λ j some. h j (omega (arith, some, times-cons j k keys)))) refl

filter-joined : (test : Group → Bool) (ps : List (List Group)) → flat_map (λ p. p) (map (filter test) ps) ≡ filter test (flat_map (λ p. p) ps)
filter-joined test [] = refl
filter-joined test (p ∷ ps) = ap (λ gs. filter test p ++ gs) (filter-joined test ps) ∙ sym (filter-append test p (flat_map (λ x. x) ps))

-- the groups that are judged are the eligible ones of the leaders
pub judged-groups : (hw : Hardware) (w : World) (cpu : CpuNo) → map (λ j. j.group) (verdicts hw (stage_of w) cpu) ≡ filter (is_eligible hw cpu) (map (group_at w) (leaders_by_pass w cpu))
unfolding verdicts
judged-groups hw w cpu =
    let test : Group → Bool = is_eligible hw cpu in
    passes-groups hw [] (map (filter test) (passes (stage_of w) cpu))
    ∙ (filter-joined test (passes (stage_of w) cpu)
    ∙ ap (filter test) (ap (flat_map (λ p. p)) (passes-are w cpu) ∙ flat-mapped (group_at w) (pass_leaders w cpu)))

count-both : (w : World) (test : Group → Bool) (id : ℕ) (keys : List Key) → count_by (is_led id) (filter test (map (group_at w) keys)) ≡ count_by (λ q. test (group_at w q) && (instance_at w q).id == id) keys
count-both w test id [] = refl
count-both w test id (q ∷ keys) =
    let rest : count_by (is_led id) (filter test (map (group_at w) keys)) ≡ count_by (λ k. test (group_at w k) && (instance_at w k).id == id) keys = count-both w test id keys in
    elim (cases_Bool (test (group_at w q))) [
      | inl holds ↦
          ap (count_by (is_led id)) (filter-first test (group_at w q) (map (group_at w) keys) true holds)
          ∙ (omega (
            arith,
            count-cons (is_led id) (group_at w q) (filter test (map (group_at w) keys)),
            rest,
            count-cons (λ k. test (group_at w k) && (instance_at w k).id == id) q keys,
            ap (λ b. once_if (b && (instance_at w q).id == id)) holds,
          ))
      | inr fails ↦ grind (arith, nat_tests, is_led, filter-first, fails, count-cons)
    ]

count-judged : (hw : Hardware) (w : World) (cpu : CpuNo) (id : ℕ)
    → count_by (is_about id) (verdicts hw (stage_of w) cpu) ≡ count_by (λ q. is_eligible hw cpu (group_at w q) && (instance_at w q).id == id) (leaders_by_pass w cpu)
count-judged hw w cpu id =
    about-groups id (verdicts hw (stage_of w) cpu) ∙ (ap (count_by (is_led id)) (judged-groups hw w cpu) ∙ count-both w (is_eligible hw cpu) id (leaders_by_pass w cpu))

judged-once : (hw : Hardware) (w : World) (cpu : CpuNo) → IsKept hw w → (id : ℕ) → count_by (is_about id) (verdicts hw (stage_of w) cpu) ≤ 1
judged-once hw w cpu h id =
    let keys : List Key = leaders_by_pass w cpu in
    let lead : (q : Key) → 1 ≤ times q keys → leads (post_at w) q ≡ true = reached-leading hw w h cpu in
    let test : Key → Bool = λ q. is_eligible hw cpu (group_at w q) && (instance_at w q).id == id in
    let with_id : (q : Key) → test q ≡ true → (instance_at w q).id ≡ id = grind (arith, nat_tests, number_true, leads-parts) in
    omega (
      arith,
      count-judged hw w cpu id,
      count-one test keys (reached-once hw w h cpu) (λ j k some_j some_k first second.
          let e : (instance_at w j).id ≡ (instance_at w k).id = with_id j first ∙ sym (with_id k second) in
          let same : ((instance_at w j).id == (instance_at w k).id) ≡ true = grind (arith, nat_tests, e) in
          ap (λ x. x.0) (same-id hw w h j k (lead j some_j) (lead k some_k) same)),
    )

off-test : (js : List Judged) (g : Group) → standing_among js g ≡ standing.Out → on-test js g ≡ false
unfolding on-test
off-test js g out = ap stands_on out

stands-as : (js : List Judged) (s : Standing) (g : Group) → s ≡ standing_among js g → stands_on s ≡ on-test js g
unfolding on-test
stands-as js s g e = ap stands_on e

filtered-there : (test : Key → Bool) (q : Key) (keys : List Key) → 1 ≤ times q (filter test keys) → 1 ≤ times q keys
filtered-there test q keys some = omega (arith, some, count-filter (is_key q) test keys)

pub on-is : OnLaw
on-is hw w cpu h judged =
    let js : List Judged = verdicts hw (stage_of w) cpu in
    let keys : List Key = leaders_by_pass w cpu in
    let test : Group → Bool = is_eligible hw cpu in
    let lead : (q : Key) → 1 ≤ times q keys → leads (post_at w) q ≡ true = reached-leading hw w h cpu in
    let once : (id : ℕ) → count_by (is_about id) js ≤ 1 = λ id. judged-once hw w cpu h id in
    let away : (q : Key) → 1 ≤ times q keys → test (group_at w q) ≡ false → on-test js (group_at w q) ≡ false = λ q some fails.
    off-test js (group_at w q) (among-none js (group_at w q) (count-judged hw w cpu (instance_at w q).id
    ∙ count-none (λ k. test (group_at w k) && (instance_at w k).id == (instance_at w q).id) keys (λ k there passes.
    let parts : (test (group_at w k) ≡ true) × (((instance_at w k).id == (instance_at w q).id) ≡ true) = leads-parts (test (group_at w k)) ((instance_at w k).id == (instance_at w q).id) passes in
    false≢true (sym fails ∙ (ap (λ x. test (group_at w x)) (sym (same-id hw w h k q (lead k there) (lead q some) parts.1)) ∙ parts.0))))) in
    let groups : groups_on js ≡ map (group_at w) (leaders_on w cpu) =
    sym (chosen-groups js [] js refl once) ∙ (ap (filter (on-test js)) (judged-groups hw w cpu) ∙ (sym (filter-more (group_at w) (on-test js) test keys away)
    ∙ (filter-map (on-test js) (λ q. on-test js (group_at w q)) (group_at w) (λ q. refl) keys
    ∙ ap (map (group_at w)) (sym (filter-same (λ q. stands_on (standing_at w q)) (λ q. on-test js (group_at w q)) keys
    (λ q some. stands-as js (standing_at w q) (group_at w q) (judged.standings q (lead q some) (reached-context hw w h cpu q some)))))))) in
    let ready : Instance → Bool = λ i. is_ready i.own in
    ap (flat_map (λ g. filter ready (members_of g))) groups ∙ (flat-of_map (λ g. filter ready (members_of g)) (group_at w) (leaders_on w cpu)
    ∙ flat-within w (λ q. filter ready (members_of (group_at w q))) (ready_in w) (leaders_on w cpu)
    (λ q some. ap (filter ready) (group-members hw w q h (lead q (filtered-there (λ k. stands_on (standing_at w k)) q keys some)))
    ∙ filter-map ready (λ k. ready (instance_at w k)) (instance_at w) (λ k. refl) (entry_at w q).members))
