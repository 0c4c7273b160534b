-- What posts, links and groups are after a key comes, over plain posts.
use Rattle.std.specs.Prelude.{◌≡◌, ℕ, ◌+◌, ◌<◌, ◌==◌, Bool, true, false, not, ◌&&◌, []}
use Rattle.std.proofs.{Common.{arith, refl, sym, ap, subst, ◌∙◌, inl, inr}, lemmas.Bool.{cases_eq, false≢true, Decides.{nat_tests}}}
use Rattle.perf_base.specs.declared.numbers.Key.{Key}
use Rattle.world_spec.{specs.Kept.{Post, is_original_in, is_of_task, AreNumbered, AreApart}, proofs.Keys.{key-is}}
use Rattle.stage_spec.specs.Stage.{place_of}

-- a post but for its members
abbrev pub core : Post → Post
core p = record p { members = [] }

-- a key that was dead comes by a post; of others the members alone may change
pub record Comes (at to : Key → Post) (k : Key) (p : Post) : Type 0 where
  pub new : to k ≡ p
  pub alive : p.live ≡ true
  pub dead : (at k).live ≡ false
  pub others : (j : Key) → (j.0 ≡ k.0 → ⊥) → core (to j) ≡ core (at j)

-- a live key is another one
pub live-apart : (at : Key → Post) (k : Key) → (at k).live ≡ false → (j : Key) → (at j).live ≡ true → j.0 ≡ k.0 → ⊥
live-apart at k dead j live e = false≢true (sym dead ∙ (ap (λ x. (at x).live) (sym (key-is j k e)) ∙ live))

-- a key of the new world is the one that came, or was live before
pub was-live : (at to : Key → Post) (k : Key) (p : Post) → Comes at to k p → (j : Key) → (j.0 ≡ k.0 → ⊥) → (to j).live ≡ true → (at j).live ≡ true
was-live at to k p c j apart live = sym (ap (λ x. x.live) (c.others j apart)) ∙ live

-- so for each key: what holds at the one that came, and what held of those before
pub by_coming : (P : Key → Type 0) (k : Key) → P k → ((j : Key) → (j.0 ≡ k.0 → ⊥) → P j) → (j : Key) → P j
by_coming P k here there j = elim (cases_eq j.0 k.0) [
  | inl e ↦ subst P (sym (key-is j k e)) here
  | inr apart ↦ there j apart
]

pub first-true : (a b c : Bool) → (a && b && c) ≡ true → a ≡ true
first-true true b c h = refl
first-true false b c h = absurd (cc)

-- the parts of a test of an original, and a number that a test names
pub three : (a b c : Bool) → (a && b && not c) ≡ true → (a ≡ true) × (b ≡ true) × (c ≡ false)
three true true false h = (refl, refl, refl)
three true true true h = absurd (cc)
three true false c h = absurd (cc)
three false b c h = absurd (cc)

pub number_true : (m n : ℕ) → (m == n) ≡ true → m ≡ n
number_true m n h = grind (arith, nat_tests, h)

-- ids, slots and places
pub comes-numbered : (at to : Key → Post) (k : Key) (p : Post) (next : ℕ) → Comes at to k p → p.id ≡ next → p.event.0 < 256 → place_of p.context < 72
    → AreNumbered at next → AreNumbered to (next + 1)
comes-numbered at to k p next c id slot place h = grind (arith, nat_tests, was-live, key-is)

-- families
pub comes-apart : (at to : Key → Post) (k : Key) (p : Post) → Comes at to k p
    → ((j : Key) → (at j).live ≡ true → (at j).event.0 ≡ p.event.0 → place_of (at j).context ≡ place_of p.context → ⊥)
    → (p.copy ≡ true → is_of_task p.context ≡ true)
    → (p.copy ≡ true → (j : Key) × (is_original_in at p.event.0 j ≡ true) × (is_of_task (at j).context ≡ true))
    → AreApart at → AreApart to
comes-apart at to k p c first_there of_task original h = grind (arith, was-live, live-apart, first-true, key-is, by_coming)
