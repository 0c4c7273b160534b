-- The processors of a PMU, at its place in the list.
use Rattle.std.proofs.Common.{◌≡◌, ℕ, ◌<◌, List, length, get_or, Option, Some, None, map, sym, ap, subst, ◌∙◌}
use Rattle.std.{proofs.lemmas.Option.{slice_get-get_or, slice_get-map}, specs.{Prelude.{slice_get, IfSome}, Option.{option_map}}}
use Rattle.perf_base.specs.declared.{numbers.CpuSet.{CpuSet}, lines.PmuLine.{PmuLine}}

held : (P : CpuSet → Type 0) (line : Option PmuLine) (set : CpuSet) → option_map (λ p. p.cpus) line ≡ Some set → P set → IfSome line (λ p. P p.cpus)
held P None set e h = tt
held P (Some p) set e h = let same : p.cpus ≡ set = cc in subst P (sym same) h

-- what holds of the set that was read holds at the place
pub at_place : (P : CpuSet → Type 0) (pmus : List PmuLine) (k : ℕ) (set : CpuSet) → slice_get (map (λ p. p.cpus) pmus) k ≡ Some set → P set → IfSome (slice_get pmus k) (λ p. P p.cpus)
at_place P pmus k set e h = held P (slice_get pmus k) set (sym (slice_get-map (λ p. p.cpus) pmus k) ∙ e) h

-- and what holds at a place holds of the line there
pub of_place : (P : CpuSet → Type 0) (pmus : List PmuLine) (k : ℕ) (p : PmuLine) → k < length pmus → get_or pmus k p ≡ p → IfSome (slice_get pmus k) (λ p. P p.cpus) → P p.cpus
of_place P pmus k p l e h = subst (λ o. IfSome o (λ p. P p.cpus)) (slice_get-get_or pmus k p l ∙ ap Some e) h
