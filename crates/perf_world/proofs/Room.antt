-- How many keys there can be in the lists of a kept world: no more than there are slots and contexts for them.
use Rattle.std.specs.Prelude.{◌≡◌, ℕ, ◌+◌, ◌<◌, ◌≤◌, ◌==◌, eqb, Bool, true, false, ◌&&◌, ◌||◌, List, [], ◌∷◌, ◌++◌, length, map, slice_index_or, if◌then◌else◌}
use Rattle.std.{specs.List.{list_any, IsDistinct, AllByRecursion}, proofs.Common.{arith, refl, sym, ap, ◌∙◌, inl, inr}}
use Rattle.std.proofs.lemmas.{Bool.{cases_Bool, cases_eq, Decides.{eqb_tells}}, List.{length-map}}
use Rattle.std.proofs.lemmas.Map.Steps.{length-le_from_distinct_below}
use Rattle.perf_base.specs.declared.numbers.Key.{Key}
use Rattle.stage_spec.specs.{Hardware.{Hardware}, Stage.{place_of}}
use Rattle.stage_laws.proofs.Counts.{count-append}
use Rattle.world_spec.specs.{Value.{World, Leaders, no_leaders, no_family, is_live, entry_at, instance_at, is_key, times}, StageOf.{after_first}}
use Rattle.world_spec.specs.{Kept.{post_at, leads, leads_in, is_member_of, is_copy_in, once_if, IsKept}, Changes.{in_list, all_but}}
use Rattle.world_spec.proofs.Keys.{times-cons, once-true, once-false, is_key-same, is_key-true, is_key-other, key-is, times-all_but_same, times-all_but_other}
use Rattle.world_tables.specs.Places.{picked}
use Rattle.perf_world.specs.Parts.{HaveRoomBehind}
use Rattle.world_spec.proofs.Coming.{number_true}
use Rattle.world_spec.proofs.Moving.{leads-parts}

-- in a list in which each key stands once at most, and in which a number tells keys apart, the numbers differ
module _ (f : Key → ℕ) where
  differs : (n : ℕ) (keys : List Key) → ((q : Key) → 1 ≤ times q keys → n ≡ f q → ⊥) → AllByRecursion (λ m. eqb n m ≡ false) (map f keys)
  differs n [] h = tt
  differs n (q ∷ keys) h = (
    (elim (eqb_tells n (f q)) [
      | inl (_, e) ↦ absurd (h q (omega (arith, times-cons q q keys, once-true (is_key q q) (is_key-same q q refl))) e)
      | inr (off, _) ↦ off
    ]),
    differs n keys (λ k there. h k (omega (arith, there, times-cons k q keys))),
  )

  distinct : (keys : List Key) → ((q : Key) → times q keys ≤ 1) → ((j k : Key) → 1 ≤ times j keys → 1 ≤ times k keys → f j ≡ f k → j.0 ≡ k.0) → IsDistinct eqb (map f keys)
  unfolding IsDistinct
  distinct [] once apart = tt
  distinct (q ∷ keys) once apart = (
    differs (f q) keys (λ k there same.
        let one : times q (q ∷ keys) ≡ 1 + times q keys = omega (arith, times-cons q q keys, once-true (is_key q q) (is_key-same q q refl)) in
        let e : q.0 ≡ k.0 = apart q k (omega (arith, one)) (omega (arith, there, times-cons k q keys)) same in
        absurd (omega (arith, once q, one, there, ap (λ x. times x keys) (key-is q k e)))),
    distinct keys (λ k. omega (arith, once k, times-cons k q keys))
        (λ j k a b. apart j k (omega (arith, a, times-cons j q keys)) (omega (arith, b, times-cons k q keys))),
  )

  below : (bound : ℕ) (keys : List Key) → ((q : Key) → 1 ≤ times q keys → f q < bound) → (m : ℕ) → list_any (eqb m) (map f keys) ≡ true → m < bound
  below bound [] h m any = absurd (cc)
  below bound (q ∷ keys) h m any = elim (eqb_tells m (f q)) [
    | inl (_, e) ↦ omega (arith, e, h q (omega (arith, times-cons q q keys, once-true (is_key q q) (is_key-same q q refl))))
    | inr (off, _) ↦
        below bound keys (λ k there. h k (omega (arith, there, times-cons k q keys))) m (sym (ap (λ b. b || list_any (eqb m) (map f keys)) off) ∙ any)
  ]

  pub few : (bound : ℕ) (keys : List Key) → ((q : Key) → times q keys ≤ 1) → ((j k : Key) → 1 ≤ times j keys → 1 ≤ times k keys → f j ≡ f k → j.0 ≡ k.0)
      → ((q : Key) → 1 ≤ times q keys → f q < bound) → length keys ≤ bound
  few bound keys once apart low =
      omega (arith, length-map keys f, length-le_from_distinct_below (map f keys) bound (distinct keys once apart) (below bound keys low))

  -- and one fewer where a number is not among them
  pub fewer : (n bound : ℕ) (keys : List Key) → n < bound → ((q : Key) → 1 ≤ times q keys → n ≡ f q → ⊥) → ((q : Key) → times q keys ≤ 1)
      → ((j k : Key) → 1 ≤ times j keys → 1 ≤ times k keys → f j ≡ f k → j.0 ≡ k.0) → ((q : Key) → 1 ≤ times q keys → f q < bound) → length keys < bound
  unfolding IsDistinct
  fewer n bound keys within off once apart low =
      omega (
        arith,
        length-map keys f,
        length-le_from_distinct_below (n ∷ map f keys) bound (differs n keys off, distinct keys once apart) (λ m any.
            elim (eqb_tells m n) [
              | inl (_, e) ↦ omega (arith, e, within)
              | inr (other, _) ↦ below bound keys low m (sym (ap (λ b. b || list_any (eqb m) (map f keys)) other) ∙ any)
            ]),
      )

-- what a count of one says
counted : (b : Bool) (n : ℕ) → n ≡ once_if b → 1 ≤ n → b ≡ true
counted true n e h = refl
counted false n e h = absurd (omega (arith, e, h))

at_most_one : (b : Bool) (n : ℕ) → n ≡ once_if b → n ≤ 1
at_most_one true n e = omega (arith, e)
at_most_one false n e = omega (arith, e)

pub three-true : (a b c : Bool) → (a && b && c) ≡ true → (a ≡ true) × (b ≡ true) × (c ≡ true)
three-true true true true h = (refl, refl, refl)
three-true true true false h = absurd (cc)
three-true true false c h = absurd (cc)
three-true false b c h = absurd (cc)

module _ (hw : Hardware) (w : World) (h : IsKept hw w) where
  -- the leaders in a list of a place
  times-listed : (b : Bool) (place : ℕ) (q : Key) → times q (picked b (slice_index_or w.contexts place no_leaders)) ≡ once_if (leads_in (post_at w) place b q)
  times-listed true place q = h.linked.pinned q place
  times-listed false place q = h.linked.flexible q place

  pub listed : (b : Bool) (place : ℕ) (q : Key) → 1 ≤ times q (picked b (slice_index_or w.contexts place no_leaders))
      → (leads (post_at w) q ≡ true) × (is_live w q ≡ true) × (place_of (entry_at w q).context ≡ place)
  listed b place q there =
      let yes = three-true _ _ _ (counted (leads_in (post_at w) place b q) _ (times-listed b place q) there) in
      (yes.0, (leads-parts _ _ yes.0).0, number_true _ _ yes.1)

  one-event : (place : ℕ) (j k : Key) → is_live w j ≡ true → is_live w k ≡ true → place_of (entry_at w j).context ≡ place → place_of (entry_at w k).context ≡ place
      → (instance_at w j).event.0 ≡ (instance_at w k).event.0 → j.0 ≡ k.0
  one-event place j k a b p q same = ap (λ (x : Key). x.0) (h.apart.one_each j k a b same (p ∙ sym q))

  -- so there is room for one more of a family that the place has none of
  pub list-room : (b : Bool) (place slot : ℕ) → slot < 256
      → ((j : Key) → is_live w j ≡ true → (instance_at w j).event.0 ≡ slot → place_of (entry_at w j).context ≡ place → ⊥)
      → length (picked b (slice_index_or w.contexts place no_leaders)) < 256
  list-room b place slot low off =
      let keys : List Key = picked b (slice_index_or w.contexts place no_leaders) in
      fewer (λ q. (instance_at w q).event.0) slot 256 keys low
      (λ q there same. let l = listed b place q there in off q l.1 (sym same) l.2)
      (λ q. at_most_one _ _ (times-listed b place q))
      (λ j k a c same. let l = listed b place j a in let m = listed b place k c in one-event place j k l.1 m.1 l.2 m.2 same)
      (λ q there. h.numbered.slots q (listed b place q there).1)

  -- keys that name nothing stand in no list
  pub unlisted : (b : Bool) (place : ℕ) (q : Key) → is_live w q ≡ false → times q (picked b (slice_index_or w.contexts place no_leaders)) ≡ 0
  unlisted b place q dead = elim (cases_Bool (leads_in (post_at w) place b q)) [
    | inl e ↦ absurd (let l : is_live w q ≡ true = (leads-parts _ _ (three-true _ _ _ e).0).0 in cc (l, dead))
    | inr e ↦ times-listed b place q ∙ once-false (leads_in (post_at w) place b q) e
  ]

  -- the copies of a slot, each in a context of its own
  pub copy-there : (slot : ℕ) (q : Key) → 1 ≤ times q (slice_index_or w.families slot no_family).copies → (is_live w q ≡ true) × ((instance_at w q).event.0 ≡ slot)
  copy-there slot q there =
      let yes = three-true _ _ _ (counted (is_copy_in (post_at w) slot q) _ (h.linked.copies q slot) there) in
      (yes.0, number_true _ _ yes.1)

  pub copies-room : (slot place : ℕ) → place < 72
      → ((j : Key) → is_live w j ≡ true → (instance_at w j).event.0 ≡ slot → place_of (entry_at w j).context ≡ place → ⊥)
      → length (slice_index_or w.families slot no_family).copies < 72
  copies-room slot place low off =
      let keys : List Key = (slice_index_or w.families slot no_family).copies in
      fewer (λ q. place_of (entry_at w q).context) place 72 keys low
      (λ q there same. let c = copy-there slot q there in off q c.0 c.1 (sym same))
      (λ q. at_most_one _ _ (h.linked.copies q slot))
      (λ j k a b same.
      let c = copy-there slot j a in let d = copy-there slot k b in
      ap (λ (x : Key). x.0) (h.apart.one_each j k c.0 d.0 (c.1 ∙ sym d.1) same))
      (λ q there. h.numbered.places q (copy-there slot q there).0)

  -- a leader's siblings
  siblings-are : (k : Key) → leads (post_at w) k ≡ true → (q : Key)
      → times q (after_first (entry_at w k).members) + once_if (is_key q k) ≡ once_if (is_member_of (post_at w) k q)
  siblings-are k lead q =
      let whole : times q (entry_at w k).members ≡ once_if (is_key q k) + times q (after_first (entry_at w k).members) =
      ap (times q) (h.grouped.leader_first k lead) ∙ times-cons q k (after_first (entry_at w k).members) in
      omega (arith, whole, h.linked.members q k)

  pub sibling-there : (k : Key) → leads (post_at w) k ≡ true → (q : Key) → 1 ≤ times q (after_first (entry_at w k).members)
      → (is_live w q ≡ true) × (is_key k (entry_at w q).leader ≡ true)
  sibling-there k lead q there =
      leads-parts _ _ (counted (is_member_of (post_at w) k q) (times q (after_first (entry_at w k).members) + once_if (is_key q k)) (siblings-are k lead q) (omega (arith, there)))

  -- what stays of a flexible list that loses a leader
  flexible-rest : (k : Key) (b : Bool) (place : ℕ) (q : Key)
      → times q (in_list b (all_but k) (slice_index_or w.contexts place no_leaders)).flexible ≤ times q (slice_index_or w.contexts place no_leaders).flexible
  flexible-rest k true place q = omega arith
  flexible-rest k false place q = elim (cases_eq q.0 k.0) [
    | inl e ↦ omega (arith, ap (λ x. times x (all_but k (slice_index_or w.contexts place no_leaders).flexible)) (key-is q k e), times-all_but_same k (slice_index_or w.contexts place no_leaders).flexible)
    | inr off ↦ omega (arith, times-all_but_other q k off (slice_index_or w.contexts place no_leaders).flexible)
  ]

  -- a sibling leads nothing
  sibling-leads-not : (k q : Key) → is_key k (entry_at w q).leader ≡ true → (q.0 ≡ k.0 → ⊥) → leads (post_at w) q ≡ false
  sibling-leads-not k q of off =
      let lead : (entry_at w q).leader.0 ≡ k.0 = is_key-true k (entry_at w q).leader of in
      let no_leader : is_key q (entry_at w q).leader ≡ false = is_key-other q (entry_at w q).leader (λ e. off (sym e ∙ lead)) in
      elim (cases_Bool (leads (post_at w) q)) [
        | inl e ↦ absurd (let l : is_key q (entry_at w q).leader ≡ true = (leads-parts (is_live w q) (is_key q (entry_at w q).leader) e).1 in cc (l, no_leader))
        | inr e ↦ e
      ]

  -- where a leader goes, its siblings have room behind the flexible groups
  pub room-behind : (k : Key) → leads (post_at w) k ≡ true
      → HaveRoomBehind (after_first (entry_at w k).members)
      (in_list (entry_at w k).pinned (all_but k) (slice_index_or w.contexts (place_of (entry_at w k).context) no_leaders))
  room-behind k lead =
      let place : ℕ = place_of (entry_at w k).context in
      let l : Leaders = slice_index_or w.contexts place no_leaders in
      let rest : List Key = (in_list (entry_at w k).pinned (all_but k) l).flexible in
      let siblings : List Key = after_first (entry_at w k).members in
      let live : is_live w k ≡ true = (leads-parts _ _ lead).0 in
      let all : (q : Key) → times q (rest ++ siblings) ≡ times q rest + times q siblings = λ q. count-append (is_key q) rest siblings in
      let once : (q : Key) → times q (rest ++ siblings) ≤ 1 = λ q.
      let few_rest : times q rest ≤ once_if (leads_in (post_at w) place false q) = omega (arith, flexible-rest k (entry_at w k).pinned place q, times-listed false place q) in
      let few_siblings : times q siblings ≤ once_if (is_member_of (post_at w) k q) = omega (arith, siblings-are k lead q) in
      elim (cases_eq q.0 k.0) [
        | inl e ↦
            let mine : times q siblings ≡ 0 = omega (arith, siblings-are k lead q, once-true (is_key q k) (is_key-same q k (sym e)), at_most_one (is_member_of (post_at w) k q) _ refl) in
            omega (arith, all q, mine, few_rest, at_most_one (leads_in (post_at w) place false q) _ refl)
        | inr off ↦ elim (cases_Bool (is_member_of (post_at w) k q)) [
          | inr e ↦ omega (arith, all q, few_siblings, once-false (is_member_of (post_at w) k q) e, few_rest, at_most_one (leads_in (post_at w) place false q) _ refl)
          | inl e ↦
              let no_list : leads_in (post_at w) place false q ≡ false =
              ap (λ b. b && place_of (entry_at w q).context == place && (if (entry_at w q).pinned then false else true)) (sibling-leads-not k q (leads-parts (is_live w q) (is_key k (entry_at w q).leader) e).1 off) in
              omega (arith, all q, few_siblings, at_most_one (is_member_of (post_at w) k q) _ refl, few_rest, once-false (leads_in (post_at w) place false q) no_list)
        ]
      ] in
      let at : (q : Key) → 1 ≤ times q (rest ++ siblings) → (is_live w q ≡ true) × (place_of (entry_at w q).context ≡ place) = λ q there.
      elim (cases_eq (times q siblings) 0) [
        | inl e ↦ let m = listed false place q (omega (arith, there, all q, e, flexible-rest k (entry_at w k).pinned place q)) in (m.1, m.2)
        | inr some ↦
            let s = sibling-there k lead q (omega arith) in
            let its : (entry_at w q).leader ≡ k = key-is _ _ (is_key-true k (entry_at w q).leader s.1) in
            (s.0, ap place_of (sym (h.grouped.together q s.0) ∙ ap (λ x. (entry_at w x).context) its))
      ] in
      record {
        once = once;
        few = few (λ q. (instance_at w q).event.0) 256 (rest ++ siblings) once
            (λ j m a b same. let c = at j a in let d = at m b in one-event place j m c.0 d.0 c.1 d.1 same)
            (λ q there. h.numbered.slots q (at q there).0);
      }
