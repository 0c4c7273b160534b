-- Each ring that an event writes to has its end.
use Rattle.std.specs.{Prelude.{◌≡◌, ℕ, ◌≤◌, ◌==◌, Bool, true, All, IsTrue, List, [], ◌∷◌, map, Some}, List.{list_any, position_or_len}}
use Rattle.std.proofs.{Common.{arith, refl, sym, ap, subst, ◌∙◌, get_or, inl, inr}, lemmas.Bool.{cases_Bool, cases_lt, false≢true}}
use Rattle.std.proofs.lemmas.List.{get_or-map, length-map, Elements.{All-head, All-tail}, Folds.{Any-from_list_any}, Sums.{prefix_len_passes}}
use Rattle.perf_base.specs.{declared.{acts.Act.{Act}, numbers.{Key.{Key}, RingNo.{RingNo}}}, Scripts.{Scripted, HasRing}}
use Rattle.stage_spec.specs.{declared.instance.Instance.{Instance}, Hardware.{Hardware, hardware_of}, History.{history, opening_stage, stage_after}}
use Rattle.stage_spec.specs.Stage.{Stage, all_instances}
use Rattle.ring_spec.{specs.Running.{RingAccount, IsRecordOf, record_of}, proofs.Running.{map-map, record_law}}
use Rattle.sample_ring.specs.{OutEnds.{OutEnd}, RingLists.{OutList}}
use Rattle.sample_ring.specs.RingLists as lists
use Rattle.world_spec.specs.{Kept.{IsKept}, StageOf.{stage_of}, Value.{World, is_live, instance_at, is_key, times}}
use Rattle.world_spec.proofs.{Families.{all_keys, instances-are, times-keys}, Keys.{is_key-true, key-is, once-false, once-true, times-cons}}
use Rattle.work_account.specs.Ends.{AreAccounts}
use Rattle.machine.{specs.Left.{IsLeft, RingsThereLaw}, proofs.Mapped.{mapped-declared}}

-- What acts leave is of the whole history of their steps.
pub recorded : (s : Scripted) (acts : List Act)
    → IsRecordOf (hardware_of s) (opening_stage s) s.rings (history s acts) (record_of (hardware_of s) (opening_stage s) s.rings (history s acts))
recorded s acts = record_law (hardware_of s) (opening_stage s) s.rings (history s acts)

-- the ends are those of the script's rings
numbers-are : (numbers : List RingNo) (outs : List OutEnd) (accounts : List RingAccount) → AreAccounts numbers outs accounts → numbers ≡ map (λ (a : RingAccount). a.ring) accounts
numbers-are [] [] [] h = refl
numbers-are [] [] (a ∷ accounts) h = absurd h
numbers-are [] (o ∷ outs) accounts h = absurd h
numbers-are (n ∷ numbers) [] accounts h = absurd h
numbers-are (n ∷ numbers) (o ∷ outs) [] h = absurd h
numbers-are (n ∷ numbers) (o ∷ outs) (a ∷ accounts) h = λ i. sym h.0.ring i ∷ numbers-are numbers outs accounts h.1 i

pub script-numbers : (s : Scripted) (acts : List Act) (w : World) (outs : OutList) → IsLeft s acts w outs → outs.numbers ≡ map (λ (r : RingNo × ℕ). r.0) s.rings
script-numbers s acts w outs left = grind (arith, numbers-are, recorded, map-map)

-- a place that passes is not before the first one
first-passes : {X : Type 0} (p : X → Bool) (xs : List X) (k : ℕ) (d : X) → p (get_or xs k d) ≡ true → position_or_len p xs ≤ k
first-passes p xs k d passes = grind (arith, cases_lt, false≢true, prefix_len_passes)

pub declared-there : (rings : List (RingNo × ℕ)) (ring other : RingNo) → HasRing rings other → (other.0 == ring.0) ≡ true → lists.HasRing (map (λ (r : RingNo × ℕ). r.0) rings) ring
declared-there rings ring other h same =
    let number : RingNo × ℕ → RingNo = λ r. r.0 in
    let is : get_or (map number rings) h.0 other ≡ other = get_or-map number rings h.0 h.1 other h.2 ∙ (ap number h.3 ∙ h.4) in
    grind (arith, length-map, number, first-passes, is)

-- what holds of each instance of the stage holds of a key's that names one
of-key : (w : World) (P : Instance → Type 0) (k : Key) (keys : List Key) → All P (map (instance_at w) keys) → 1 ≤ times k keys → P (instance_at w k)
of-key w P k [] h some = absurd (omega (arith, some))
of-key w P k (x ∷ keys) h some = elim (cases_Bool (is_key k x)) [
  | inl same ↦ subst (λ q. P (instance_at w q)) (key-is x k (is_key-true k x same)) (All-head P (instance_at w x) (map (instance_at w) keys) h)
  | inr other ↦ of-key w P k keys (All-tail P (instance_at w x) (map (instance_at w) keys) h) (omega (arith, some, times-cons k x keys, once-false (is_key k x) other))
]

pub of-live : (hw : Hardware) (w : World) (P : Instance → Type 0) (k : Key) → IsKept hw w → All P (all_instances (stage_of w)) → is_live w k ≡ true → P (instance_at w k)
of-live hw w P k kept h live =
    of-key w P k (all_keys w) (subst (All P) (instances-are hw w kept) h) (omega (arith, times-keys hw w kept k, once-true (is_live w k) live))

abbrev WritesToMapped : Stage → Instance → Type 0
WritesToMapped s i = (ring : RingNo) → i.ring ≡ Some ring → IsTrue (list_any (λ r. r.0 == ring.0) s.mapped)

pub rings-there : RingsThereLaw
rings-there s acts w outs script covered kept left sound k live ring writes =
    let stage : stage_of w ≡ stage_after (hardware_of s) (opening_stage s) (history s acts) = sym left.agrees.stage ∙ (recorded s acts).stage in
    let declared : All (HasRing s.rings) (stage_of w).mapped = subst (λ (st : Stage). All (HasRing s.rings) st.mapped) (sym stage) (mapped-declared s acts script) in
    let mapped : list_any (λ (r : RingNo). r.0 == ring.0) (stage_of w).mapped ≡ true = of-live w.hardware w (WritesToMapped (stage_of w)) k kept sound.rings live ring writes in
    let place = Any-from_list_any (λ (r : RingNo). r.0 == ring.0) (stage_of w).mapped mapped in
    let has : HasRing s.rings place.1 = subst (HasRing s.rings) place.3 (declared place.0 place.1 place.2) in
    subst (λ numbers. lists.HasRing numbers ring) (sym (script-numbers s acts w outs left)) (declared-there s.rings ring place.1 has place.4)
