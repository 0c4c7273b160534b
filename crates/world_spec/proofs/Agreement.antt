-- A world and the record of a step.
use Rattle.std.specs.{Prelude.{◌≡◌, ℕ, ◌≤◌, ◌==◌, Bool, true, not, ◌&&◌, List, [], ◌∷◌, length, filter}, List.{list_any}}
use Rattle.std.proofs.{Common.{arith, refl, sym, ap, subst, ◌∙◌, inl, inr}, lemmas.Bool.{cases_Bool, false≢true, Decides.{nat_tests}}}
use Rattle.perf_base.specs.declared.{numbers.{EventNo.{EventNo}, Key.{Key}}, reply.Sums.{Sums}}
use Rattle.stage_spec.specs.{Families.{plus, plus_each}, Hardware.{Hardware}, Shares.{no_sums}, Stage.{all_instances, is_of_family}}
use Rattle.ring_spec.specs.Agreement.{IsCurrentId, lives}
use Rattle.world_spec.specs.{Value.{World, family_of, is_live, instance_at, account_at, is_key, times}, StageOf.{stage_of}}
use Rattle.world_spec.specs.{Kept.{keys_of, plus_keys, IsKept}, First.{first_world}}
use Rattle.world_spec.{specs.Agreement.{FirstAgreesLaw, RecordsAgreeLaw, OtherRecordLaw, FamilyAgreesLaw}, proofs.Accounts.{family-times}}
use Rattle.world_spec.proofs.{Keys.{is_key-same, times-cons, once-true, once-false}, Coming.{number_true}, ComingLinks.{none_of_three}}
use Rattle.world_spec.proofs.{Counting.{any-there, any-key}, Families.{all_keys, times-keys, instances-are, key-lives, family-sums}}
use Rattle.world_spec.proofs.First.{first-stage, none-live, replicated}

-- an id that an instance has is that of a live key, and the other way round
id-of : (hw : Hardware) (w : World) → IsKept hw w → (id : ℕ) → lives (stage_of w) id ≡ true → (k : Key) × (is_live w k ≡ true) × ((instance_at w k).id ≡ id)
id-of hw w h id there =
    let k : (k : Key) × (1 ≤ times k (all_keys w)) × (((instance_at w k).id == id) ≡ true) = grind (arith, any-key, all_keys, instances-are) in
    (k.0, key-lives hw w h k.0 k.1, number_true (instance_at w k.0).id id k.2)

id-lives : (hw : Hardware) (w : World) → IsKept hw w → (k : Key) → is_live w k ≡ true → lives (stage_of w) (instance_at w k).id ≡ true
id-lives hw w h k live =
    let id : ℕ = (instance_at w k).id in
    let own : ((instance_at w k).id == id) ≡ true = grind (arith, nat_tests) in
    ap (list_any (λ i. i.id == id)) (instances-are hw w h) ∙ any-there (λ i. i.id == id) (instance_at w) k (all_keys w) (omega (arith, times-keys hw w h k, once-true (is_live w k) live)) own

pub records-agree : RecordsAgreeLaw
records-agree hw w r q h first second rings =
    let same : r.stage ≡ stage_of w = first.stage in
    grind (arith, nat_tests, same, id-of)

pub other-record : OtherRecordLaw
other-record hw w r q h mine agree =
    let same : r.stage ≡ stage_of w = mine.stage in
    let drawn : (id : ℕ) → IsCurrentId (stage_of w) id → r.sums id ≡ q.sums id = λ id current. agree.sums id (subst (λ s. IsCurrentId s id) (sym same) current) in
    grind (arith, nat_tests, same, drawn, id-lives)

-- the sums of a family
pub sums-within : (s t : Key → Sums) (keys : List Key) → ((k : Key) → 1 ≤ times k keys → s k ≡ t k) → plus_keys s keys ≡ plus_keys t keys
sums-within s t [] h = refl
sums-within s t (q ∷ keys) h =
    let first : s q ≡ t q = h q (omega (arith, times-cons q q keys, once-true (is_key q q) (is_key-same q q refl))) in
    rw (first, sums-within s t keys (λ k some. h k (omega (arith, some, times-cons k q keys)))) refl

pub family-lives : (hw : Hardware) (w : World) → IsKept hw w → (e : EventNo) (k : Key) → 1 ≤ times k (keys_of (family_of w e)) → is_live w k ≡ true
family-lives hw w h e k some = elim (cases_Bool (is_live w k)) [
  | inl live ↦ live
  | inr dead ↦
      let of : Bool = (instance_at w k).event.0 == e.0 in
      let copy : Bool = (instance_at w k).copy in
      absurd (omega (
        arith,
        some,
        family-times w h.linked k e.0,
        once-false (is_live w k && of && not copy) (none_of_three (is_live w k) of (not copy) dead),
        once-false (is_live w k && of && copy) (none_of_three (is_live w k) of copy dead),
      ))
]

pub family-agrees : FamilyAgreesLaw
family-agrees hw w r e h mine opened =
    let keys : List Key = keys_of (family_of w e) in
    let here : plus_each (λ i. r.sums i.id) (filter (is_of_family e) (all_instances r.stage)) ≡ plus_keys (λ k. (account_at w k).sums) keys =
    grind (arith, nat_tests, family-sums, sums-within, family-lives) in
    λ i. plus (here i) (mine.folded e (inl opened) i)

-- before the first step
pub first-agrees : FirstAgreesLaw
first-agrees hw declared rings =
    let clash : (k : Key) → is_live (first_world hw declared) k ≡ true → ⊥ = λ k live. false≢true (sym (none-live hw declared k) ∙ live) in
    record {
      stage = sym (first-stage hw declared);
      sums = λ k live. absurd (clash k live);
      fresh = λ id past. refl;
      left = λ k live. absurd (clash k live);
      folded = λ e current. sym (replicated 256 e.0 no_sums);
      lost = λ e current. sym (replicated 256 e.0 0);
      clock = λ cpu. sym (replicated (length hw.cpu_pmus) cpu.0 0);
    }
