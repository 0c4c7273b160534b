-- The sums of a family by its parts: each part is at most the whole, and no family ran longer than it was enabled.
use Rattle.std.specs.Prelude.{◌≡◌, ℕ, ◌^◌, ◌<◌, ◌≤◌, true, false, List, [], ◌∷◌, ◌++◌, Option, Some, None, All, slice_index_or}
use Rattle.std.proofs.{Common.{arith, ap, sym, ◌∙◌, inl, inr}, lemmas.Bool.{cases_Bool}}
use Rattle.perf_base.specs.declared.{numbers.Key.{Key}, reply.Sums.{Sums}}
use Rattle.stage_spec.specs.{Families.{plus}, Hardware.{Hardware}, Shares.{no_sums}}
use Rattle.world_spec.specs.{Kept.{IsKept, family_sums, in_option, is_copy_in, plus_keys, post_at}, Value.{World, account_at, is_live, no_family}}
use Rattle.world_spec.proofs.{Copies.{times-at}, Keys.{once-false}}

sums-are : (a b : Sums) → a.count ≡ b.count → a.enabled ≡ b.enabled → a.running ≡ b.running → a ≡ b
sums-are a b p q r = λ i. record { count = p i; enabled = q i; running = r i }

-- what an original and its copies have counted
with-original : (s : Key → Sums) (o : Option Key) (k : Key) (copies : List Key) (folded : Sums) → o ≡ Some k
    → plus (s k) (plus (plus_keys s copies) folded) ≡ plus (plus_keys s (in_option o ++ copies)) folded
with-original s o k copies folded is = grind (arith, sums-are)

copies-enabled : (s : Key → Sums) (o : Option Key) (copies : List Key) (folded : Sums)
    → (plus (plus_keys s copies) folded).enabled ≤ (plus (plus_keys s (in_option o ++ copies)) folded).enabled
copies-enabled s None copies folded = omega arith
copies-enabled s (Some k) copies folded = omega arith

ran-all : (s : Key → Sums) (keys : List Key) → ((k : Key) → (s k).running ≤ (s k).enabled) → (plus_keys s keys).running ≤ (plus_keys s keys).enabled
ran-all s [] h = omega arith
ran-all s (k ∷ keys) h = omega (arith, h k, ran-all s keys h)

module _ (hw : Hardware) (w : World) (h : IsKept hw w) where
  pub copies-live : (slot : ℕ) → All (λ k. is_live w k ≡ true) (slice_index_or w.families slot no_family).copies
  copies-live slot i d low =
      let k : Key = slice_index_or (slice_index_or w.families slot no_family).copies i d in
      elim (cases_Bool (is_live w k)) [
        | inl live ↦ live
        | inr dead ↦
            let no : is_copy_in (post_at w) slot k ≡ false = cc dead in
            absurd (omega (arith, times-at (slice_index_or w.families slot no_family).copies i d low, h.linked.copies k slot, once-false (is_copy_in (post_at w) slot k) no))
      ]

  pub copies-ran : (slot : ℕ) (keys : List Key) (before : Sums) → keys ≡ (slice_index_or w.families slot no_family).copies → before ≡ slice_index_or w.folded slot no_sums
      → (plus (plus_keys (λ k. (account_at w k).sums) keys) before).running < 2 ^ 63
  copies-ran slot keys before all away =
      omega (
        arith,
        ap (λ ks. (plus_keys (λ k. (account_at w k).sums) ks).running) all,
        ap (λ (s : Sums). s.running) away,
        ran-all (λ k. (account_at w k).sums) (slice_index_or w.families slot no_family).copies h.small.ran,
        h.small.folded_ran slot,
        copies-enabled (λ k. (account_at w k).sums) (slice_index_or w.families slot no_family).original (slice_index_or w.families slot no_family).copies (slice_index_or w.folded slot no_sums),
        h.small.times slot,
      )

  pub family-ran : (slot : ℕ) → (family_sums w slot).running < 2 ^ 63
  family-ran slot =
      omega (
        arith,
        ran-all (λ k. (account_at w k).sums) (in_option (slice_index_or w.families slot no_family).original ++ (slice_index_or w.families slot no_family).copies) h.small.ran,
        h.small.folded_ran slot,
        h.small.times slot,
      )

  pub whole-family : (slot : ℕ) (k : Key) → (slice_index_or w.families slot no_family).original ≡ Some k
      → plus (account_at w k).sums (plus (plus_keys (λ j. (account_at w j).sums) (slice_index_or w.families slot no_family).copies) (slice_index_or w.folded slot no_sums)) ≡ family_sums w slot
  whole-family slot k is =
      with-original (λ j. (account_at w j).sums) (slice_index_or w.families slot no_family).original k (slice_index_or w.families slot no_family).copies (slice_index_or w.folded slot no_sums) is

  -- what is added up is the whole
  pub added-up : (slot : ℕ) (o : Option Key) (k : Key) (keys : List Key) (one before copies : Sums) → o ≡ (slice_index_or w.families slot no_family).original → o ≡ Some k
      → keys ≡ (slice_index_or w.families slot no_family).copies → before ≡ slice_index_or w.folded slot no_sums
      → copies ≡ plus (plus_keys (λ j. (account_at w j).sums) keys) before → one ≡ (account_at w k).sums → plus one copies ≡ family_sums w slot
  added-up slot o k keys one before copies named is all away some mine =
      (λ i. plus (mine i) ((some ∙ (λ j. plus (plus_keys (λ q. (account_at w q).sums) (all j)) (away j))) i)) ∙ whole-family slot k (sym named ∙ is)
