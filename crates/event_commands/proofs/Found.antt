-- Of all instances on the stage, the one with the id of a live key is its own.
use Rattle.std.specs.{Prelude.{◌≡◌, ℕ, ◌≤◌, ◌==◌, Bool, true, ◌&&◌, map}, List.{list_any}}
use Rattle.std.proofs.{Common.{arith, refl, sym, ap, ◌∙◌, inl, inr}, lemmas.Bool.{cases_Bool, eq-eqb, false≢true, Decides.{nat_tests}}}
use Rattle.perf_base.specs.declared.numbers.Key.{Key}
use Rattle.stage_spec.specs.{declared.instance.Instance.{Instance}, Hardware.{Hardware}, Stage.{all_instances}}
use Rattle.world_spec.specs.{Kept.{IsKept}, StageOf.{stage_of}, Value.{World, is_live, instance_at, times}}
use Rattle.world_spec.proofs.{Counting.{any-there, any-key}, Families.{all_keys, times-keys, instances-are, key-lives}, Keys.{once-true}}
use Rattle.world_spec.proofs.Coming.{number_true}
use Rattle.world_spec.proofs.Moving.{leads-parts}

pub found-passes : (hw : Hardware) (w : World) (k : Key) (q : Instance → Bool) → IsKept hw w → is_live w k ≡ true
    → list_any (λ i. i.id == (instance_at w k).id && q i) (all_instances (stage_of w)) ≡ q (instance_at w k)
found-passes hw w k q h live =
    let id : ℕ = (instance_at w k).id in
    let there : 1 ≤ times k (all_keys w) = omega (arith, times-keys hw w h k, once-true (is_live w k) live) in
    ap (list_any (λ i. i.id == id && q i)) (instances-are hw w h)
    ∙ elim (cases_Bool (q (instance_at w k))) [
      | inl passes ↦ any-there (λ i. i.id == id && q i) (instance_at w) k (all_keys w) there (λ i. eq-eqb id id refl i && passes i) ∙ sym passes
      | inr fails ↦ elim (cases_Bool (list_any (λ i. i.id == id && q i) (map (instance_at w) (all_keys w)))) [
        | inl some ↦
            let other : (j : Key) × (1 ≤ times j (all_keys w)) × (((instance_at w j).id == id && q (instance_at w j)) ≡ true) =
            any-key (λ i. i.id == id && q i) (instance_at w) (all_keys w) some in
            let parts : (((instance_at w other.0).id == id) ≡ true) × (q (instance_at w other.0) ≡ true) = grind (arith, nat_tests, leads-parts) in
            let same : other.0 ≡ k = h.numbered.once other.0 k (key-lives hw w h other.0 other.1) live (number_true (instance_at w other.0).id id parts.0) in
            absurd (false≢true (sym fails ∙ (ap (λ x. q (instance_at w x)) (sym same) ∙ parts.1)))
        | inr none ↦ none ∙ sym fails
      ]
    ]
