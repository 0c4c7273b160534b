-- The stage after a sibling went.
use Rattle.std.specs.Prelude.{◌≡◌, ℕ, ◌≤◌, Bool, true, false, not, List, [], ◌∷◌, ◌++◌, map, flat_map, slice_index_or}
use Rattle.std.proofs.{Common.{arith, refl, sym, ap, ◌∙◌}, lemmas.Bool.{false≢true, Decides.{nat_tests}}}
use Rattle.std.proofs.lemmas.{List.{append-nil}, Simd.{map-map}}
use Rattle.perf_base.specs.declared.numbers.Key.{Key}
use Rattle.stage_spec.specs.{declared.instance.Instance.{Instance}, Closing.{staying, kept_group, freed_groups, without}, Hardware.{Hardware}}
use Rattle.stage_spec.specs.Stage.{Group, Lists}
use Rattle.stage_laws.{specs.{Sound.{has_id}, OneByOne.{drop_one}}, proofs.Images.{filter-map}}
use Rattle.world_spec.specs.Value.{World, Leaders, no_leaders, is_live, entry_at, instance_at, is_key, times}
use Rattle.world_spec.specs.{StageOf.{after_first, group_at, lists_at, stage_of}, Kept.{post_at, once_if, leads, leads_in, IsKept}, Changes.{all_but}}
use Rattle.world_spec.proofs.{Renaming.{id-apart}, Keys.{key-is, is_key-same, is_key-other, times-cons, times-all_but_same, once-true, once-false}}
use Rattle.world_spec.proofs.{Moving.{leads-parts}, ComingLinks.{none_of_three}, ComingGroups.{map-apart}, AddedStage.{map-places}}
use Rattle.world_spec.proofs.Gone.{SiblingMayGo, left_world, left-instance, left-members}

abbrev pub goes_by : World → Key → Instance → Bool
goes_by w k i = has_id (instance_at w k).id i

-- the test by id is the test by key
pub same-test : (hw : Hardware) (w : World) (k : Key) → IsKept hw w → is_live w k ≡ true → (q : Key) → goes_by w k (instance_at w q) ≡ is_key k q
same-test hw w k h live q = grind (arith, nat_tests, key-is, is_key-same, id-apart, is_key-other)

-- those of a group that stay
after-all_but : (ms : List Key) (q k : Key) → (q.0 ≡ k.0 → ⊥) → ms ≡ q ∷ after_first ms → after_first (all_but k ms) ≡ all_but k (after_first ms)
after-all_but [] q k apart h = absurd (cc)
after-all_but (m ∷ ms) q k apart h = grind (arith, nat_tests, is_key-other)

siblings-stay : (hw : Hardware) (w : World) (k : Key) → IsKept hw w → SiblingMayGo w k → (q : Key) → (q.0 ≡ k.0 → ⊥) → leads (post_at w) q ≡ true
    → map (instance_at (left_world w k)) (after_first (entry_at (left_world w k) q).members) ≡ staying (goes_by w k) (group_at w q).siblings
siblings-stay hw w k h may q apart lead =
    let t : World = left_world w k in
    let keys : List Key = after_first (entry_at w q).members in
    ap (λ ms. map (instance_at t) (after_first ms)) (left-members hw w k h may q apart)
    ∙ (ap (map (instance_at t)) (after-all_but (entry_at w q).members q k apart (h.grouped.leader_first q lead))
    ∙ (map-apart (instance_at t) (instance_at w) k (λ j far. left-instance w k j far) (all_but k keys) (times-all_but_same k keys)
    ∙ sym (filter-map (λ i. not (goes_by w k i)) (λ j. not (is_key k j)) (instance_at w) (λ j. ap not (same-test hw w k h may.live j)) keys)))

-- a group whose leader stays
group-kept : (hw : Hardware) (w : World) (k : Key) → IsKept hw w → SiblingMayGo w k → (q : Key) → (q.0 ≡ k.0 → ⊥) → leads (post_at w) q ≡ true
    → kept_group (goes_by w k) (group_at w q) ≡ group_at (left_world w k) q ∷ []
group-kept hw w k h may q apart lead = grind (arith, nat_tests, id-apart, left_world, left-instance, siblings-stay)

group-freed : (hw : Hardware) (w : World) (k : Key) → IsKept hw w → SiblingMayGo w k → (q : Key) → (q.0 ≡ k.0 → ⊥) → freed_groups (goes_by w k) (group_at w q) ≡ []
group-freed hw w k h may q apart = grind (arith, nat_tests, id-apart)

-- a list of leaders
abbrev pub AreLeading : World → List Key → Type 0
AreLeading w keys = (q : Key) → 1 ≤ times q keys → leads (post_at w) q ≡ true

pub listed-lead : (w : World) (place : ℕ) (b : Bool) (keys : List Key) → ((j : Key) → times j keys ≡ once_if (leads_in (post_at w) place b j)) → AreLeading w keys
listed-lead w place b keys h q some = grind (arith, nat_tests, once-false, none_of_three)

-- a list of leaders: each leads, and the one that goes is not among them
abbrev AreLeaders : World → Key → List Key → Type 0
AreLeaders w k keys = (q : Key) → 1 ≤ times q keys → (leads (post_at w) q ≡ true) × (q.0 ≡ k.0 → ⊥)

leaders-rest : (w : World) (k q : Key) (keys : List Key) → AreLeaders w k (q ∷ keys) → AreLeaders w k keys
leaders-rest w k q keys h j some = h j (omega (arith, some, times-cons j q keys))

leaders-first : (w : World) (k q : Key) (keys : List Key) → AreLeaders w k (q ∷ keys) → (leads (post_at w) q ≡ true) × (q.0 ≡ k.0 → ⊥)
leaders-first w k q keys h = h q (omega (arith, times-cons q q keys, once-true (is_key q q) (is_key-same q q refl)))

all-kept : (hw : Hardware) (w : World) (k : Key) → IsKept hw w → SiblingMayGo w k → (keys : List Key) → AreLeaders w k keys
    → map (group_at (left_world w k)) keys ≡ flat_map (kept_group (goes_by w k)) (map (group_at w) keys)
all-kept hw w k h may [] ls = refl
all-kept hw w k h may (q ∷ keys) ls =
    grind (arith, left_world, leaders-rest, group-kept, all-kept hw w k h may keys (leaders-rest w k q keys ls), leaders-first w k q keys ls)

none-freed : (hw : Hardware) (w : World) (k : Key) → IsKept hw w → SiblingMayGo w k → (keys : List Key) → AreLeaders w k keys → (more : List Group)
    → flat_map (freed_groups (goes_by w k)) (map (group_at w) keys ++ more) ≡ flat_map (freed_groups (goes_by w k)) more
none-freed hw w k h may [] ls more = refl
none-freed hw w k h may (q ∷ keys) ls more =
    grind (arith, group-freed, leaders-rest, none-freed hw w k h may keys (leaders-rest w k q keys ls) more, leaders-first w k q keys ls)

listed-leads : (hw : Hardware) (w : World) (k : Key) → SiblingMayGo w k → (place : ℕ) (b : Bool) (keys : List Key) → ((j : Key) → times j keys ≡ once_if (leads_in (post_at w) place b j)) → AreLeaders w k keys
listed-leads hw w k may place b keys h q some = grind (arith, nat_tests, listed-lead, false≢true, key-is, leads-parts)

lists-left : (hw : Hardware) (w : World) (k : Key) → IsKept hw w → SiblingMayGo w k → (place : ℕ)
    → lists_at (left_world w k) (slice_index_or w.contexts place no_leaders) ≡ without (goes_by w k) (lists_at w (slice_index_or w.contexts place no_leaders))
lists-left hw w k h may place =
    let l : Leaders = slice_index_or w.contexts place no_leaders in
    let pinned : AreLeaders w k l.pinned = listed-leads hw w k may place true l.pinned (λ j. h.linked.pinned j place) in
    let flexible : AreLeaders w k l.flexible = listed-leads hw w k may place false l.flexible (λ j. h.linked.flexible j place) in
    let freed : flat_map (freed_groups (goes_by w k)) (map (group_at w) l.pinned ++ map (group_at w) l.flexible) ≡ [] =
    none-freed hw w k h may l.pinned pinned (map (group_at w) l.flexible)
    ∙ (ap (flat_map (freed_groups (goes_by w k))) (sym (append-nil (map (group_at w) l.flexible))) ∙ none-freed hw w k h may l.flexible flexible []) in
    let rest : map (group_at (left_world w k)) l.flexible
    ≡ flat_map (kept_group (goes_by w k)) (map (group_at w) l.flexible) ++ flat_map (freed_groups (goes_by w k)) (map (group_at w) l.pinned ++ map (group_at w) l.flexible) =
    all-kept hw w k h may l.flexible flexible ∙ (sym (append-nil (flat_map (kept_group (goes_by w k)) (map (group_at w) l.flexible)))
    ∙ ap (λ gs. flat_map (kept_group (goes_by w k)) (map (group_at w) l.flexible) ++ gs) (sym freed)) in
    λ i. record { pinned = all-kept hw w k h may l.pinned pinned i; flexible = rest i }

pub left-stage : (hw : Hardware) (w : World) (k : Key) → IsKept hw w → SiblingMayGo w k → stage_of (left_world w k) ≡ drop_one (instance_at w k).id (stage_of w)
left-stage hw w k h may =
    ap {A = List Lists} (λ cs. record (stage_of w) { contexts = cs })
    (map-places (lists_at (left_world w k)) (λ l. without (goes_by w k) (lists_at w l)) no_leaders w.contexts (lists-left hw w k h may)
    ∙ sym (map-map (without (goes_by w k)) (lists_at w) w.contexts))
