-- The stage after a leader went.
use Rattle.std.specs.Prelude.{◌≡◌, ℕ, zero, suc, ◌+◌, ◌<◌, ◌≤◌, Bool, true, false, not, List, [], ◌∷◌, ◌++◌, length, map, flat_map, slice_index_or, slice_set, if◌then◌else◌}
use Rattle.std.{specs.{FinMap.{FinMap}, Ordering.{nat_cmp}}, proofs.Common.{arith, refl, sym, ap, ◌∙◌, inl, inr}}
use Rattle.std.proofs.lemmas.{Bool.{cases_eq, cases_Bool, false≢true, Decides.{nat_tests}}, List.{append-nil, length-map, length-set, map-append}}
use Rattle.std.proofs.lemmas.Simd.{map-map}
use Rattle.perf_base.specs.declared.{numbers.Key.{Key}, standing.Standing.{Standing}}
use Rattle.stage_spec.specs.{Closing.{staying, kept_group, freed_groups, without}, Hardware.{Hardware}, Stage.{Group, Lists, alone, place_of}}
use Rattle.stage_laws.{specs.OneByOne.{drop_one}, proofs.{Counts.{count-append}, Images.{filter-map}}}
use Rattle.world_spec.specs.Value.{World, Entry, Leaders, no_leaders, is_live, entry_at, instance_at, is_key, times}
use Rattle.world_spec.specs.{StageOf.{after_first, group_at, lists_at, stage_of}, Kept.{post_at, once_if, is_member_of, leads, leads_in, IsKept}}
use Rattle.world_spec.{specs.Changes.{all_but}, proofs.Renaming.{id-apart}}
use Rattle.world_spec.proofs.Keys.{key-is, is_key-same, is_key-other, is_key-true, is_key-false, times-cons, all_but-none, once-true, once-false, at_place}
use Rattle.world_spec.proofs.{Moving.{leads-parts}, ComingLinks.{last_of_two, middle_fails, all_but_last}, ComingGroups.{map-apart}, AddedStage.{times-after_first}}
use Rattle.world_spec.proofs.{GoneStage.{goes_by, same-test, AreLeading, listed-lead}, Disbanding.{Disbands, member-follows, disband, AreSiblings}}
use Rattle.world_spec.proofs.GoneLeader.{AreFreed, led_world, led-disbands, led-instance, siblings-stand}

-- two lists whose items agree at each place
map-both : {X Y : Type 0} (f g : X → Y) (d : X) (xs ys : List X) → length xs ≡ length ys → ((p : ℕ) → f (slice_index_or xs p d) ≡ g (slice_index_or ys p d)) → map f xs ≡ map g ys
map-both f g d [] [] size h = refl
map-both f g d [] (y ∷ ys) size h = absurd (omega (arith, size))
map-both f g d (x ∷ xs) [] size h = absurd (omega (arith, size))
map-both f g d (x ∷ xs) (y ∷ ys) size h = rw (h zero, map-both f g d xs ys (omega (arith, size)) (λ p. h (suc p))) refl

-- functions that agree on the keys of a list
pub map-within : {X : Type 0} (f g : Key → X) (keys : List Key) → ((q : Key) → 1 ≤ times q keys → f q ≡ g q) → map f keys ≡ map g keys
map-within f g [] h = refl
map-within f g (q ∷ keys) h =
    let first : f q ≡ g q = h q (omega (arith, times-cons q q keys, once-true (is_key q q) (is_key-same q q refl))) in
    rw (first, map-within f g keys (λ j some. h j (omega (arith, some, times-cons j q keys)))) refl

-- what is told of the world before and after
record Situation (hw : Hardware) (w : World) (k : Key) (t : World) : Type 0 where
  kept : IsKept hw w
  live : is_live w k ≡ true
  lead : leads (post_at w) k ≡ true
  disbands : Disbands (post_at w) (post_at t) k
  same : (j : Key) → (j.0 ≡ k.0 → ⊥) → instance_at t j ≡ instance_at w j

-- a group that another key leads
outside : (hw : Hardware) (w : World) (k : Key) (t : World) → Situation hw w k t → (q : Key) → (q.0 ≡ k.0 → ⊥) → leads (post_at w) q ≡ true → is_member_of (post_at w) k q ≡ false
outside hw w k t s q apart lead = grind (arith, nat_tests, false≢true, member-follows, leads-parts)

not-among : (hw : Hardware) (w : World) (k : Key) (t : World) → Situation hw w k t → (q : Key) → (q.0 ≡ k.0 → ⊥) → times k (after_first (entry_at w q).members) ≡ 0
not-among hw w k t s q apart = times-after_first k (entry_at w q).members (s.kept.linked.members k q ∙ once-false (is_member_of (post_at w) q k)
    (last_of_two (is_live w k) (is_key q (entry_at w k).leader) (λ live. ap (is_key q) s.disbands.own ∙ is_key-other q k (λ e. apart (sym e)))))

stays-whole : (hw : Hardware) (w : World) (k : Key) (t : World) → Situation hw w k t → (keys : List Key) → times k keys ≡ 0
    → staying (goes_by w k) (map (instance_at w) keys) ≡ map (instance_at w) keys
stays-whole hw w k t s keys none =
    filter-map (λ i. not (goes_by w k i)) (λ j. not (is_key k j)) (instance_at w) (λ j. ap not (same-test hw w k s.kept s.live j)) keys ∙ ap (map (instance_at w)) (all_but-none k keys none)

group-same : (hw : Hardware) (w : World) (k : Key) (t : World) → Situation hw w k t → (q : Key) → (q.0 ≡ k.0 → ⊥) → leads (post_at w) q ≡ true → group_at t q ≡ group_at w q
group-same hw w k t s q apart lead =
    let siblings : map (instance_at t) (after_first (entry_at t q).members) ≡ map (instance_at w) (after_first (entry_at w q).members) =
    ap (λ x. map (instance_at t) (after_first x.members)) (s.disbands.others q apart (outside hw w k t s q apart lead))
    ∙ map-apart (instance_at t) (instance_at w) k s.same (after_first (entry_at w q).members) (not-among hw w k t s q apart) in
    λ i. record { leader = s.same q apart i; siblings = siblings i }

group-stays : (hw : Hardware) (w : World) (k : Key) (t : World) → Situation hw w k t → (q : Key) → (q.0 ≡ k.0 → ⊥) → leads (post_at w) q ≡ true
    → kept_group (goes_by w k) (group_at w q) ≡ group_at t q ∷ []
group-stays hw w k t s q apart lead = grind (arith, nat_tests, goes_by, id-apart, stays-whole, not-among, group-same)

group-frees_none : (hw : Hardware) (w : World) (k : Key) (t : World) → Situation hw w k t → (q : Key) → (q.0 ≡ k.0 → ⊥) → freed_groups (goes_by w k) (group_at w q) ≡ []
group-frees_none hw w k t s q apart = grind (arith, nat_tests, goes_by, id-apart)

-- the group of the one that goes
own-goes : (hw : Hardware) (w : World) (k : Key) (t : World) → Situation hw w k t → goes_by w k (instance_at w k) ≡ true
own-goes hw w k t s = same-test hw w k s.kept s.live k ∙ is_key-same k k refl

group-gone : (hw : Hardware) (w : World) (k : Key) (t : World) → Situation hw w k t → kept_group (goes_by w k) (group_at w k) ≡ []
group-gone hw w k t s = grind (arith, nat_tests, goes_by, own-goes)

freed-group : (hw : Hardware) (w : World) (k : Key) (t : World) → Situation hw w k t → (q : Key) → (q.0 ≡ k.0 → ⊥) → is_member_of (post_at w) k q ≡ true
    → group_at t q ≡ alone (instance_at w q)
freed-group hw w k t s q apart is = grind (arith, nat_tests)

group-frees : (hw : Hardware) (w : World) (k : Key) (t : World) → Situation hw w k t → freed_groups (goes_by w k) (group_at w k) ≡ map (group_at t) (after_first (entry_at w k).members)
group-frees hw w k t s =
    let g : Group = group_at w k in
    let keys : List Key = after_first (entry_at w k).members in
    let sib : AreSiblings (post_at w) k keys = siblings-stand hw w k s.kept s.lead in
    let each : (q : Key) → 1 ≤ times q keys → alone (instance_at w q) ≡ group_at t q = grind (arith, key-is, freed-group, once-false) in
    grind (arith, nat_tests, goes_by, own-goes, stays-whole, keys, map-map, map-within, each)

-- lists of leaders
pub leading-rest : (w : World) (q : Key) (keys : List Key) → AreLeading w (q ∷ keys) → AreLeading w keys
leading-rest w q keys h j some = h j (omega (arith, some, times-cons j q keys))

pub leading-first : (w : World) (q : Key) (keys : List Key) → AreLeading w (q ∷ keys) → leads (post_at w) q ≡ true
leading-first w q keys h = h q (omega (arith, times-cons q q keys, once-true (is_key q q) (is_key-same q q refl)))

all-stay : (hw : Hardware) (w : World) (k : Key) (t : World) → Situation hw w k t → (keys : List Key) → AreLeading w keys
    → map (group_at t) (all_but k keys) ≡ flat_map (kept_group (goes_by w k)) (map (group_at w) keys)
all-stay hw w k t s [] ls = refl
all-stay hw w k t s (q ∷ keys) ls =
    let rest : map (group_at t) (all_but k keys) ≡ flat_map (kept_group (goes_by w k)) (map (group_at w) keys) = all-stay hw w k t s keys (leading-rest w q keys ls) in
    let others : List Group = flat_map (kept_group (goes_by w k)) (map (group_at w) keys) in
    elim (cases_Bool (is_key k q)) [
      | inl e ↦ grind (arith, nat_tests, goes_by, key-is, is_key-true, e, group-gone)
      | inr e ↦ grind (arith, group-stays hw w k t s q (is_key-false k q e) (leading-first w q keys ls))
    ]

none-freed : (hw : Hardware) (w : World) (k : Key) (t : World) → Situation hw w k t → (keys : List Key) → times k keys ≡ 0 → flat_map (freed_groups (goes_by w k)) (map (group_at w) keys) ≡ []
none-freed hw w k t s [] none = refl
none-freed hw w k t s (q ∷ keys) none = elim (cases_eq q.0 k.0) [
  | inl e ↦ absurd (omega (arith, none, times-cons k q keys, once-true (is_key k q) (is_key-same k q e)))
  | inr apart ↦ grind (arith, goes_by, group-frees_none, apart, times-cons, none-freed hw w k t s keys (omega (arith, none, times-cons k q keys)))
]

one-freed : (hw : Hardware) (w : World) (k : Key) (t : World) → Situation hw w k t → (keys : List Key) → times k keys ≡ 1
    → flat_map (freed_groups (goes_by w k)) (map (group_at w) keys) ≡ map (group_at t) (after_first (entry_at w k).members)
one-freed hw w k t s [] one = absurd (omega (arith, one))
one-freed hw w k t s (q ∷ keys) one = elim (cases_eq q.0 k.0) [
  | inl e ↦
      let rest : flat_map (freed_groups (goes_by w k)) (map (group_at w) keys) ≡ [] =
      none-freed hw w k t s keys (omega (arith, one, times-cons k q keys, once-true (is_key k q) (is_key-same k q e))) in
      ap (λ x. freed_groups (goes_by w k) (group_at w x) ++ flat_map (freed_groups (goes_by w k)) (map (group_at w) keys)) (key-is q k e)
      ∙ (ap (λ gs. freed_groups (goes_by w k) (group_at w k) ++ gs) rest ∙ (append-nil (freed_groups (goes_by w k) (group_at w k)) ∙ group-frees hw w k t s))
  | inr apart ↦
      ap (λ gs. gs ++ flat_map (freed_groups (goes_by w k)) (map (group_at w) keys)) (group-frees_none hw w k t s q apart)
      ∙ one-freed hw w k t s keys (omega (arith, one, times-cons k q keys, once-false (is_key k q) (is_key-other k q apart)))
]

-- the lists of its context, and those of another one
lists-gone : (hw : Hardware) (w : World) (k : Key) (t : World) → Situation hw w k t → (l : Leaders) (keys : List Key) → AreLeading w l.pinned → AreLeading w l.flexible
    → flat_map (freed_groups (goes_by w k)) (map (group_at w) l.pinned ++ map (group_at w) l.flexible) ≡ map (group_at t) keys
    → lists_at t (record { pinned = all_but k l.pinned; flexible = all_but k l.flexible ++ keys }) ≡ without (goes_by w k) (lists_at w l)
lists-gone hw w k t s l keys pinned flexible freed = grind (arith, nat_tests, goes_by, map-append, all-stay)

disband-is : (pinned : Bool) (k : Key) (keys : List Key) (l : Leaders) → (pinned ≡ true → times k l.flexible ≡ 0) → (pinned ≡ false → times k l.pinned ≡ 0)
    → disband pinned k keys l ≡ record { pinned = all_but k l.pinned; flexible = all_but k l.flexible ++ keys }
disband-is true k keys l flexible pinned = λ i. record { pinned = all_but k l.pinned; flexible = sym (all_but-none k l.flexible (flexible refl)) i ++ keys }
disband-is false k keys l flexible pinned = λ i. record { pinned = sym (all_but-none k l.pinned (pinned refl)) i; flexible = all_but k l.flexible ++ keys }

-- how often the leader stands in its own lists
flag-of : (w : World) (k : Key) → leads (post_at w) k ≡ true → (b : Bool) → leads_in (post_at w) (place_of (entry_at w k).context) b k ≡ (if (entry_at w k).pinned then b else not b)
flag-of w k lead b = grind (arith, nat_tests, all_but_last)

one-list : (pinned : Bool) (f : Bool → ℕ) → ((b : Bool) → f b ≡ once_if (if pinned then b else not b)) → f true + f false ≡ 1
one-list true f h = omega (arith, h true, h false)
one-list false f h = omega (arith, h true, h false)

lists-here : (hw : Hardware) (w : World) (k : Key) (t : World) → Situation hw w k t → (l : Leaders) → slice_index_or w.contexts (place_of (entry_at w k).context) no_leaders ≡ l
    → lists_at t (disband (entry_at w k).pinned k (after_first (entry_at w k).members) l) ≡ without (goes_by w k) (lists_at w l)
lists-here hw w k t s l is =
    let place : ℕ = place_of (entry_at w k).context in
    let keys : List Key = after_first (entry_at w k).members in
    let of_pinned : (j : Key) → times j l.pinned ≡ once_if (leads_in (post_at w) place true j) = λ j. ap (λ x. times j x.pinned) (sym is) ∙ s.kept.linked.pinned j place in
    let of_flexible : (j : Key) → times j l.flexible ≡ once_if (leads_in (post_at w) place false j) = λ j. ap (λ x. times j x.flexible) (sym is) ∙ s.kept.linked.flexible j place in
    let times_in : Bool → ℕ = λ b. if b then times k l.pinned else times k l.flexible in
    let counted : (b : Bool) → times_in b ≡ once_if (if (entry_at w k).pinned then b else not b) = grind (arith, nat_tests, flag-of) in
    let one : times k (l.pinned ++ l.flexible) ≡ 1 = omega (arith, count-append (is_key k) l.pinned l.flexible, one-list (entry_at w k).pinned times_in counted) in
    let freed : flat_map (freed_groups (goes_by w k)) (map (group_at w) l.pinned ++ map (group_at w) l.flexible) ≡ map (group_at t) keys =
    ap (flat_map (freed_groups (goes_by w k))) (sym (map-append (group_at w) l.pinned l.flexible)) ∙ one-freed hw w k t s (l.pinned ++ l.flexible) one in
    ap (lists_at t) (disband-is (entry_at w k).pinned k keys l
    (λ e. counted false ∙ ap (λ p. once_if (if p then false else true)) e)
    (λ e. counted true ∙ ap (λ p. once_if (if p then true else false)) e))
    ∙ lists-gone hw w k t s l keys (listed-lead w place true l.pinned of_pinned) (listed-lead w place false l.flexible of_flexible) freed

lists-away : (hw : Hardware) (w : World) (k : Key) (t : World) → Situation hw w k t → (place : ℕ) → (place ≡ place_of (entry_at w k).context → ⊥)
    → lists_at t (slice_index_or w.contexts place no_leaders) ≡ without (goes_by w k) (lists_at w (slice_index_or w.contexts place no_leaders))
lists-away hw w k t s place away =
    let l : Leaders = slice_index_or w.contexts place no_leaders in
    let elsewhere : (b : Bool) → leads_in (post_at w) place b k ≡ false = grind (arith, nat_tests, middle_fails) in
    let pinned : times k l.pinned ≡ 0 = s.kept.linked.pinned k place ∙ once-false (leads_in (post_at w) place true k) (elsewhere true) in
    let flexible : times k l.flexible ≡ 0 = s.kept.linked.flexible k place ∙ once-false (leads_in (post_at w) place false k) (elsewhere false) in
    let none : times k (l.pinned ++ l.flexible) ≡ 0 = omega (arith, count-append (is_key k) l.pinned l.flexible, pinned, flexible) in
    let freed : flat_map (freed_groups (goes_by w k)) (map (group_at w) l.pinned ++ map (group_at w) l.flexible) ≡ map (group_at t) [] =
    ap (flat_map (freed_groups (goes_by w k))) (sym (map-append (group_at w) l.pinned l.flexible)) ∙ none-freed hw w k t s (l.pinned ++ l.flexible) none in
    let whole : l ≡ record { pinned = all_but k l.pinned; flexible = all_but k l.flexible ++ [] } =
    λ i. record { pinned = sym (all_but-none k l.pinned pinned) i; flexible = sym (append-nil (all_but k l.flexible) ∙ all_but-none k l.flexible flexible) i } in
    ap (lists_at t) whole
    ∙ lists-gone hw w k t s l [] (listed-lead w place true l.pinned (λ j. s.kept.linked.pinned j place)) (listed-lead w place false l.flexible (λ j. s.kept.linked.flexible j place)) freed

pub led-stage : (hw : Hardware) (w : World) (k : Key) (entries : FinMap nat_cmp Entry) (standings : FinMap nat_cmp Standing) → leads (post_at w) k ≡ true → AreFreed w k entries standings
    → IsKept hw w → stage_of (led_world w k entries standings) ≡ drop_one (instance_at w k).id (stage_of w)
led-stage hw w k entries standings lead f h =
    let t : World = led_world w k entries standings in
    let live : is_live w k ≡ true = (leads-parts (is_live w k) (is_key k (entry_at w k).leader) lead).0 in
    let s : Situation hw w k t = record { kept = h; live = live; lead = lead; disbands = led-disbands w k entries standings lead f; same = led-instance w k entries standings f } in
    let place : ℕ = place_of (entry_at w k).context in
    let l : Leaders = slice_index_or w.contexts place no_leaders in
    let changed : Leaders = disband (entry_at w k).pinned k (after_first (entry_at w k).members) l in
    let low : place < length w.contexts = omega (arith, h.numbered.places k live, h.shape.contexts, length-map w.contexts (lists_at w)) in
    ap {A = List Lists} (λ cs. record (stage_of w) { contexts = cs })
    (map-both (lists_at t) (λ x. without (goes_by w k) (lists_at w x)) no_leaders (slice_set w.contexts place changed) w.contexts (length-set w.contexts place changed)
    (λ p. at_place (λ x. lists_at t x ≡ without (goes_by w k) (lists_at w (slice_index_or w.contexts p no_leaders))) w.contexts place changed no_leaders p low
    (λ e. lists-here hw w k t s l refl ∙ ap (λ n. without (goes_by w k) (lists_at w (slice_index_or w.contexts n no_leaders))) (sym e))
    (λ away. lists-away hw w k t s p away))
    ∙ sym (map-map (without (goes_by w k)) (lists_at w) w.contexts))
