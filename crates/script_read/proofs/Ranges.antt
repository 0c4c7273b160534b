-- Numbers, masks and lists in their ranges.
use Rattle.std.{proofs.{Common.{◌≡◌, ℕ, List, Option, Some, None, option_map, subst}, lemmas.Option.{same_Some}}, specs.Prelude.{slice_get, MatchOption}}
use Rattle.perf_base.specs.{Masks.{IsMask}, declared.lines.PmuLine.{PmuLine}, Scripts.{IsMaskOf}}

pub mask_at : (pmus : List PmuLine) (pmu mask counters : ℕ) → Some counters ≡ option_map (λ p. p.counters) (slice_get pmus pmu) → IsMask counters mask → IsMaskOf pmus pmu mask
mask_at pmus pmu mask counters e h = go (slice_get pmus pmu) e
  where
    go : (o : Option PmuLine) → Some counters ≡ option_map (λ p. p.counters) o → MatchOption o ⊥ (λ p. IsMask p.counters mask)
    go (Some p) is = subst (λ n. IsMask n mask) (same_Some counters p.counters is) h
    go None is = absurd cc
