-- The counts of keys after a key comes: in its family, in its group and in its context's lists.
use Rattle.std.specs.Prelude.{◌≡◌, ℕ, ◌+◌, ◌<◌, ◌==◌, Bool, true, false, not, ◌&&◌, cond, List, [], ◌∷◌, ◌++◌, length, slice_index_or, slice_set}
use Rattle.std.proofs.{Common.{arith, refl, sym, ap, ◌∙◌, inl, inr}, lemmas.Bool.{cases_eq, cases_Bool, Decides.{nat_tests}}}
use Rattle.perf_base.specs.declared.numbers.Key.{Key}
use Rattle.world_spec.specs.Value.{Family, no_family, is_key, times}
use Rattle.world_spec.specs.{Kept.{Post, once_if, in_option, is_original_in, is_copy_in, is_member_of, AreGrouped}, Adding.{in_family}}
use Rattle.world_spec.proofs.{Keys.{key-is, is_key-same, is_key-other, times-cons, times-push, once-true, once-false, at_place}, Moving.{leads-parts}}
use Rattle.world_spec.proofs.Coming.{Comes, live-apart}

-- tests whose first part fails
pub none_of_two : (a b : Bool) → a ≡ false → (a && b) ≡ false
none_of_two true b h = absurd (cc)
none_of_two false b h = refl

pub none_of_three : (a b c : Bool) → a ≡ false → (a && b && c) ≡ false
none_of_three true b c h = absurd (cc)
none_of_three false b c h = refl

pub middle_fails : (a b c : Bool) → b ≡ false → (a && b && c) ≡ false
middle_fails true true c h = absurd (cc)
middle_fails true false c h = refl
middle_fails false b c h = refl

pub last_of_two : (a b : Bool) → (a ≡ true → b ≡ false) → (a && b) ≡ false
last_of_two true b h = h refl
last_of_two false b h = refl

pub all_but_last : (a b c : Bool) → a ≡ true → b ≡ true → (a && b && c) ≡ c
all_but_last true true c ha hb = refl
all_but_last true false c ha hb = absurd (cc)
all_but_last false b c ha hb = absurd (cc)

-- the family of the slot
original-times : (copy : Bool) (j k : Key) (f : Family) → times j (in_option (in_family copy k f).original) ≡ cond copy (times j (in_option f.original)) (once_if (is_key j k))
original-times true j k f = refl
original-times false j k f = omega (arith, times-cons j k [])

copy-times : (copy : Bool) (j k : Key) (f : Family) → times j (in_family copy k f).copies ≡ times j f.copies + once_if (copy && is_key j k)
copy-times true j k f = times-push j f.copies k
copy-times false j k f = omega arith

choice : (b : Bool) (x y : ℕ) (c : Bool) → b ≡ c → cond b x y ≡ cond c x y
choice b x y c h = ap {B = ℕ} (λ d. cond d x y) h

pub comes-originals : (at to : Key → Post) (k : Key) (p : Post) → Comes at to k p → (families : List Family) → p.event.0 < length families
    → ((j : Key) (slot : ℕ) → times j (in_option (slice_index_or families slot no_family).original) ≡ once_if (is_original_in at slot j))
    → (p.copy ≡ false → (j : Key) → is_original_in at p.event.0 j ≡ false)
    → (j : Key) (slot : ℕ) → times j (in_option (slice_index_or (slice_set families p.event.0 (in_family p.copy k (slice_index_or families p.event.0 no_family))) slot no_family).original)
    ≡ once_if (is_original_in to slot j)
comes-originals at to k p c families low h unused j slot =
    let f : Family = slice_index_or families p.event.0 no_family in
    at_place (λ g. times j (in_option g.original) ≡ once_if (is_original_in to slot j)) families p.event.0 (in_family p.copy k f) no_family slot low
    (λ e. elim (cases_eq j.0 k.0) [
      | inl same ↦ grind (arith, nat_tests, key-is, same, all_but_last, once-false, none_of_three, original-times, choice, once-true, is_key-same)
      | inr apart ↦ grind (arith, nat_tests, apart, original-times, choice, once-false, is_key-other)
    ])
    (λ away. h j slot ∙ elim (cases_eq j.0 k.0) [
      | inl same ↦ grind (arith, nat_tests, key-is, same, none_of_three, middle_fails)
      | inr apart ↦ ap once_if (sym (ap (λ x. x.live && x.event.0 == slot && not x.copy) (c.others j apart)))
    ])

pub comes-copies : (at to : Key → Post) (k : Key) (p : Post) → Comes at to k p → (families : List Family) → p.event.0 < length families
    → ((j : Key) (slot : ℕ) → times j (slice_index_or families slot no_family).copies ≡ once_if (is_copy_in at slot j))
    → (j : Key) (slot : ℕ) → times j (slice_index_or (slice_set families p.event.0 (in_family p.copy k (slice_index_or families p.event.0 no_family))) slot no_family).copies
    ≡ once_if (is_copy_in to slot j)
comes-copies at to k p c families low h j slot =
    let f : Family = slice_index_or families p.event.0 no_family in
    at_place (λ g. times j g.copies ≡ once_if (is_copy_in to slot j)) families p.event.0 (in_family p.copy k f) no_family slot low
    (λ e. elim (cases_eq j.0 k.0) [
      | inl same ↦
          let is : is_copy_in to slot j ≡ p.copy = grind (arith, nat_tests, key-is, all_but_last) in
          let none : times j f.copies ≡ 0 = h j p.event.0 ∙ once-false (is_copy_in at p.event.0 j)
          (ap (λ x. is_copy_in at p.event.0 x) (key-is j k same) ∙ none_of_three (at k).live ((at k).event.0 == p.event.0) (at k).copy c.dead) in
          elim (cases_Bool p.copy) [
            | inl copy ↦ omega (arith, copy-times p.copy j k f, none, once-true (p.copy && is_key j k) (rw (copy, is_key-same j k (sym same)) refl), once-true (is_copy_in to slot j) (is ∙ copy))
            | inr first ↦ omega (arith, copy-times p.copy j k f, none, once-false (p.copy && is_key j k) (none_of_two p.copy (is_key j k) first), once-false (is_copy_in to slot j) (is ∙ first))
          ]
      | inr apart ↦
          let same : is_copy_in to slot j ≡ is_copy_in at slot j = ap (λ x. x.live && x.event.0 == slot && x.copy) (c.others j apart) in
          let there : once_if (is_copy_in to slot j) ≡ times j f.copies = ap once_if (same ∙ ap (λ s. is_copy_in at s j) e) ∙ sym (h j p.event.0) in
          let no : is_key j k ≡ false = is_key-other j k (λ x. apart (sym x)) in
          omega (arith, copy-times p.copy j k f, there, once-false (p.copy && is_key j k) (last_of_two p.copy (is_key j k) (λ x. no)))
    ])
    (λ away. h j slot ∙ elim (cases_eq j.0 k.0) [
      | inl same ↦ grind (arith, nat_tests, key-is, same, none_of_three, middle_fails)
      | inr apart ↦ ap once_if (sym (ap (λ x. x.live && x.event.0 == slot && x.copy) (c.others j apart)))
    ])

-- no live key is led by one that was dead
pub led-apart : (at : Key → Post) (k : Key) → (at k).live ≡ false → AreGrouped at → (j : Key) → is_member_of at k j ≡ false
led-apart at k dead h j = grind (arith, nat_tests, last_of_two, leads-parts, is_key-other, live-apart)

-- the members of a group of its own
pub comes-alone : (at to : Key → Post) (k : Key) (p : Post) → Comes at to k p → AreGrouped at → p.leader ≡ k → p.members ≡ k ∷ []
    → ((j : Key) → (j.0 ≡ k.0 → ⊥) → (to j).members ≡ (at j).members)
    → ((j leader : Key) → times j (at leader).members ≡ once_if (is_member_of at leader j))
    → (j leader : Key) → times j (to leader).members ≡ once_if (is_member_of to leader j)
comes-alone at to k p c grouped own alone others h j leader = elim (cases_eq leader.0 k.0) [
  | inl el ↦
      let is : leader ≡ k = key-is leader k el in
      let mine : times j (to leader).members ≡ once_if (is_key j k) = ap (λ x. times j (to x).members) is ∙ (ap (λ x. times j x.members) c.new ∙ (ap (times j) alone ∙ omega (arith, times-cons j k []))) in
      mine ∙ elim (cases_eq j.0 k.0) [
        | inl ej ↦ grind (arith, nat_tests, key-is, ej, is_key-same, once-true)
        | inr apart ↦ grind (arith, nat_tests, apart, led-apart, once-false, is_key-other)
      ]
  | inr other ↦
      ap (times j) (others leader other) ∙ (h j leader ∙ elim (cases_eq j.0 k.0) [
        | inl ej ↦ grind (arith, nat_tests, key-is, ej, none_of_two, last_of_two, is_key-other)
        | inr apart ↦ ap once_if (sym (ap (λ x. x.live && is_key leader x.leader) (c.others j apart)))
      ])
]

-- the members of a group that a sibling joins
pub comes-joined : (at to : Key → Post) (k first : Key) (p : Post) → Comes at to k p → AreGrouped at → (at first).live ≡ true → p.leader ≡ first → p.members ≡ []
    → (to first).members ≡ (at first).members ++ k ∷ []
    → ((j : Key) → (j.0 ≡ k.0 → ⊥) → (j.0 ≡ first.0 → ⊥) → (to j).members ≡ (at j).members)
    → ((j leader : Key) → times j (at leader).members ≡ once_if (is_member_of at leader j))
    → (j leader : Key) → times j (to leader).members ≡ once_if (is_member_of to leader j)
comes-joined at to k first p c grouped live led none grown others h j leader =
    let far : first.0 ≡ k.0 → ⊥ = live-apart at k c.dead first live in
    elim (cases_eq leader.0 k.0) [
      | inl el ↦
          let is : leader ≡ k = key-is leader k el in
          let nobody : times j (to leader).members ≡ 0 = ap (λ x. times j (to x).members) is ∙ (ap (λ x. times j x.members) c.new ∙ ap (times j) none) in
          nobody ∙ sym (once-false (is_member_of to leader j) (ap (λ x. is_member_of to x j) is ∙ elim (cases_eq j.0 k.0) [
            | inl ej ↦ grind (arith, nat_tests, key-is, ej, last_of_two, is_key-other)
            | inr apart ↦ ap (λ x. x.live && is_key k x.leader) (c.others j apart) ∙ led-apart at k c.dead grouped j
          ]))
      | inr other ↦
          let before : is_member_of at leader k ≡ false = none_of_two (at k).live (is_key leader (at k).leader) c.dead in
          elim (cases_eq leader.0 first.0) [
            | inl el ↦
                let is : leader ≡ first = key-is leader first el in
                let now : times j (to leader).members ≡ times j (at leader).members + once_if (is_key j k) = grind (arith, nat_tests, times-push) in
                elim (cases_eq j.0 k.0) [
                  | inl ej ↦
                      let none_yet : times j (at leader).members ≡ 0 = h j leader ∙ once-false (is_member_of at leader j) (ap (λ x. is_member_of at leader x) (key-is j k ej) ∙ before) in
                      let member : is_member_of to leader j ≡ true =
                      ap (λ x. is_member_of to leader x) (key-is j k ej) ∙ (ap (λ x. x.live && is_key leader x.leader) c.new
                      ∙ (ap (λ l. l && is_key leader p.leader) c.alive ∙ (ap (is_key leader) led ∙ is_key-same leader first (sym el)))) in
                      omega (arith, now, none_yet, once-true (is_key j k) (is_key-same j k (sym ej)), once-true (is_member_of to leader j) member)
                  | inr apart ↦ grind (arith, nat_tests, apart, once-false, is_key-other)
                ]
            | inr off ↦
                ap (times j) (others leader other off) ∙ (h j leader ∙ elim (cases_eq j.0 k.0) [
                  | inl ej ↦ grind (arith, nat_tests, key-is, ej, last_of_two, is_key-other)
                  | inr apart ↦ ap once_if (sym (ap (λ x. x.live && is_key leader x.leader) (c.others j apart)))
                ])
          ]
    ]
