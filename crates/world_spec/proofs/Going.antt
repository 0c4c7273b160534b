-- What posts, links and groups are after a key went, over plain posts.
use Rattle.std.specs.Prelude.{◌≡◌, ℕ, ◌<◌, ◌==◌, Bool, true, false, ◌&&◌, List, [], length, slice_index_or, slice_set}
use Rattle.std.proofs.{Common.{arith, refl, sym, ap, ◌∙◌, inl, inr}, lemmas.Bool.{cases_eq, false≢true, Decides.{nat_tests}}}
use Rattle.perf_base.specs.declared.numbers.Key.{Key}
use Rattle.world_spec.specs.Value.{Family, no_family, times}
use Rattle.world_spec.specs.{Kept.{Post, once_if, in_option, is_original_in, is_copy_in, AreNumbered, AreApart}}
use Rattle.world_spec.{specs.Adding.{out_of_family}, proofs.Keys.{key-is, times-all_but_same, times-all_but_other, once-true, once-false, at_place}}
use Rattle.world_spec.proofs.{Coming.{number_true, three}, ComingLinks.{none_of_three}, AddedStage.{one-in_option}}

-- a post but for its group
abbrev pub shell : Post → Post
shell p = record p { leader = record { 0 = 0 }; members = []; pinned = false }

-- a key that was live goes; of others the groups alone may change
pub record Goes (at to : Key → Post) (k : Key) : Type 0 where
  pub live : (at k).live ≡ true
  pub gone : (to k).live ≡ false
  pub others : (j : Key) → (j.0 ≡ k.0 → ⊥) → shell (to j) ≡ shell (at j)

pub still-apart : (at to : Key → Post) (k : Key) → Goes at to k → (j : Key) → (to j).live ≡ true → j.0 ≡ k.0 → ⊥
still-apart at to k g j live e = false≢true (sym g.gone ∙ (ap (λ x. (to x).live) (sym (key-is j k e)) ∙ live))

pub still-live : (at to : Key → Post) (k : Key) → Goes at to k → (j : Key) → (to j).live ≡ true → (at j).live ≡ true
still-live at to k g j live = sym (ap (λ x. x.live) (g.others j (still-apart at to k g j live))) ∙ live

pub goes-numbered : (at to : Key → Post) (k : Key) (next : ℕ) → Goes at to k → AreNumbered at next → AreNumbered to next
goes-numbered at to k next g h = grind (arith, nat_tests, still-apart, still-live)

-- the parts of a test of a copy
pub all_three : (a b c : Bool) → a ≡ true → b ≡ true → c ≡ true → (a && b && c) ≡ true
all_three true true true ha hb hc = refl
all_three true true false ha hb hc = absurd (cc)
all_three true false c ha hb hc = absurd (cc)
all_three false b c ha hb hc = absurd (cc)

pub goes-apart : (at to : Key → Post) (k : Key) → Goes at to k → ((at k).copy ≡ false → (j : Key) → is_copy_in at (at k).event.0 j ≡ false) → AreApart at → AreApart to
goes-apart at to k g last h = grind (arith, nat_tests, still-apart, still-live, key-is, three, number_true, all_three, false≢true)

-- the family of its slot
off_slot : (a c : Bool) (m n : ℕ) → (n ≡ m → ⊥) → (a && m == n && c) ≡ false
off_slot true c m n apart = let no : (m == n) ≡ false = grind (arith, nat_tests, apart) in rw no refl
off_slot false c m n apart = refl

pub last_fails : (a b c : Bool) → c ≡ false → (a && b && c) ≡ false
last_fails true true c h = h
last_fails true false c h = refl
last_fails false b c h = refl

-- what is left in a slot that is not the key's, and in its own
original-away : (at to : Key → Post) (k : Key) → Goes at to k → (j : Key) (slot : ℕ) → (slot ≡ (at k).event.0 → ⊥) → once_if (is_original_in at slot j) ≡ once_if (is_original_in to slot j)
original-away at to k g j slot away = grind (arith, nat_tests, key-is, none_of_three, off_slot)

copy-away : (at to : Key → Post) (k : Key) → Goes at to k → (j : Key) (slot : ℕ) → (slot ≡ (at k).event.0 → ⊥) → once_if (is_copy_in at slot j) ≡ once_if (is_copy_in to slot j)
copy-away at to k g j slot away = grind (arith, nat_tests, key-is, none_of_three, off_slot)

original-here : (at to : Key → Post) (k : Key) → Goes at to k → (f : Family) → ((j : Key) → times j (in_option f.original) ≡ once_if (is_original_in at (at k).event.0 j))
    → (copy : Bool) → (at k).copy ≡ copy → (j : Key) → times j (in_option (out_of_family copy k f).original) ≡ once_if (is_original_in to (at k).event.0 j)
original-here at to k g f h true is j = grind (arith, nat_tests, none_of_three, key-is, last_fails)
original-here at to k g f h false is j = grind (arith, nat_tests, once-false, key-is, none_of_three, all_three, one-in_option, once-true)

copy-here : (at to : Key → Post) (k : Key) → Goes at to k → (f : Family) → ((j : Key) → times j f.copies ≡ once_if (is_copy_in at (at k).event.0 j))
    → (copy : Bool) → (at k).copy ≡ copy → (j : Key) → times j (out_of_family copy k f).copies ≡ once_if (is_copy_in to (at k).event.0 j)
copy-here at to k g f h true is j = elim (cases_eq j.0 k.0) [
  | inl same ↦ grind (arith, nat_tests, none_of_three, key-is, same, times-all_but_same, once-false)
  | inr apart ↦ times-all_but_other j k apart f.copies ∙ (h j ∙ ap once_if (sym (ap (λ x. x.live && x.event.0 == (at k).event.0 && x.copy) (g.others j apart))))
]
copy-here at to k g f h false is j = grind (arith, nat_tests, none_of_three, key-is, last_fails)

pub goes-originals : (at to : Key → Post) (k : Key) → Goes at to k → (families : List Family) → (at k).event.0 < length families
    → ((j : Key) (slot : ℕ) → times j (in_option (slice_index_or families slot no_family).original) ≡ once_if (is_original_in at slot j)) → (j : Key) (slot : ℕ)
    → times j (in_option (slice_index_or (slice_set families (at k).event.0 (out_of_family (at k).copy k (slice_index_or families (at k).event.0 no_family))) slot no_family).original)
    ≡ once_if (is_original_in to slot j)
goes-originals at to k g families low h j slot =
    let f : Family = slice_index_or families (at k).event.0 no_family in
    at_place (λ x. times j (in_option x.original) ≡ once_if (is_original_in to slot j)) families (at k).event.0 (out_of_family (at k).copy k f) no_family slot low
    (λ e. original-here at to k g f (λ i. h i (at k).event.0) (at k).copy refl j ∙ ap (λ s. once_if (is_original_in to s j)) (sym e))
    (λ away. h j slot ∙ original-away at to k g j slot away)

pub goes-copies : (at to : Key → Post) (k : Key) → Goes at to k → (families : List Family) → (at k).event.0 < length families
    → ((j : Key) (slot : ℕ) → times j (slice_index_or families slot no_family).copies ≡ once_if (is_copy_in at slot j)) → (j : Key) (slot : ℕ)
    → times j (slice_index_or (slice_set families (at k).event.0 (out_of_family (at k).copy k (slice_index_or families (at k).event.0 no_family))) slot no_family).copies
    ≡ once_if (is_copy_in to slot j)
goes-copies at to k g families low h j slot =
    let f : Family = slice_index_or families (at k).event.0 no_family in
    at_place (λ x. times j x.copies ≡ once_if (is_copy_in to slot j)) families (at k).event.0 (out_of_family (at k).copy k f) no_family slot low
    (λ e. copy-here at to k g f (λ i. h i (at k).event.0) (at k).copy refl j ∙ ap (λ s. once_if (is_copy_in to s j)) (sym e))
    (λ away. h j slot ∙ copy-away at to k g j slot away)
