-- A copy that is folded: its sums are its event's, and the world is kept.
use Rattle.std.specs.Prelude.{◌≡◌, ℕ, ◌+◌, ◌^◌, ◌<◌, ◌≤◌, ◌==◌, Bool, true, false, not, List, [], ◌∷◌, ◌++◌, length, slice_index_or, slice_set}
use Rattle.std.specs.{FinMap.{FinMap, get, remove}, Option.{unwrap_or}, Ordering.{nat_cmp}}
use Rattle.std.proofs.Common.{arith, refl, sym, ap, subst, ◌∙◌, inl, inr, get_or-set_other, get_or-set_same}
use Rattle.std.proofs.lemmas.{Bool.{cases_eq, cases_Bool, false≢true, Decides.{nat_tests}}, List.{length-set}}
use Rattle.perf_base.specs.declared.{numbers.Key.{Key}, reply.Sums.{Sums}}
use Rattle.stage_spec.specs.{Families.{plus}, Hardware.{Hardware}, Shares.{no_sums}}
use Rattle.world_spec.specs.Value.{World, Account, Family, no_family, no_account, is_live, entry_at, instance_at, account_at, is_key, times}
use Rattle.world_spec.specs.StageOf.{after_first, stage_of}
use Rattle.world_spec.specs.{Kept.{post_at, in_option, is_original_in, is_copy_in, keys_of, plus_keys, family_sums, IsKept}, Changes.{all_but}}
use Rattle.world_spec.specs.{Adding.{leave_group, out_of_family, drop_instance, folded_away}, Goings.{MayGo}}
use Rattle.world_spec.{specs.Foldings.{FoldLaw, FoldKeptLaw, FoldSumsLaw}, proofs.Accounts.{IsSum, counts_are_sums, times_are_sums, family-other}}
use Rattle.world_spec.proofs.Keys.{key-is, is_key-same, is_key-true, all_but-cons, all_but-none, times-all_but_same, times-cons, once-true, once-false, at_place}
use Rattle.world_spec.proofs.{Added.{sums-append}, Going.{all_three, last_fails}, Gone.{get-left}, GoneLeader.{freed-fields, dropped-leader}}
use Rattle.world_spec.proofs.Dropping.{go-kept, go-stage}

-- a key that goes leaves the folded sums, and its group leaves accounts and families
dropped-folded : (w : World) (k : Key) (sums : List Sums) → drop_instance k (record w { folded = sums }) ≡ record (drop_instance k w) { folded = sums }
dropped-folded w k sums = elim (cases_Bool (is_key k (entry_at w k).leader)) [
  | inl own ↦ dropped-leader (record w { folded = sums }) k own ∙ ap {B = World} (λ t. record t { folded = sums }) (sym (dropped-leader w k own))
  | inr off ↦ grind (arith, nat_tests, off)
]

left-accounts : (w : World) (k : Key) (b : Bool) → (leave_group k b w).accounts ≡ w.accounts
left-accounts w k true = ap (λ x. x.accounts) (freed-fields (after_first (entry_at w k).members) w)
left-accounts w k false = refl

left-families : (w : World) (k : Key) (b : Bool) → (leave_group k b w).families ≡ w.families
left-families w k true = ap (λ x. x.families) (freed-fields (after_first (entry_at w k).members) w)
left-families w k false = refl

-- sums that differ at one key alone
plus-apart : (s t : Key → Sums) (k : Key) → ((q : Key) → (q.0 ≡ k.0 → ⊥) → t q ≡ s q) → (keys : List Key) → times k keys ≡ 0 → plus_keys t keys ≡ plus_keys s keys
plus-apart s t k same [] none = refl
plus-apart s t k same (q ∷ keys) none = elim (cases_eq q.0 k.0) [
  | inl e ↦ absurd (omega (arith, none, times-cons k q keys, once-true (is_key k q) (is_key-same k q e)))
  | inr apart ↦ rw (same q apart, plus-apart s t k same keys (omega (arith, none, times-cons k q keys))) refl
]

taken-sum : (p : Sums → ℕ) → IsSum p → (s : Key → Sums) (k : Key) (keys : List Key) → times k keys ≡ 1 → p (plus_keys s keys) ≡ p (s k) + p (plus_keys s (all_but k keys))
taken-sum p is s k [] one = absurd (omega (arith, one))
taken-sum p is s k (q ∷ keys) one = elim (cases_Bool (is_key k q)) [
  | inl e ↦
      let rest : all_but k keys ≡ keys = all_but-none k keys (omega (arith, one, times-cons k q keys, once-true (is_key k q) e)) in
      let left : p (plus_keys s (all_but k (q ∷ keys))) ≡ p (plus_keys s keys) = ap (λ ks. p (plus_keys s ks)) (all_but-cons k q keys true e ∙ rest) in
      let first : p (s q) ≡ p (s k) = ap (λ x. p (s x)) (key-is q k (is_key-true k q e)) in
      omega (arith, is.both (s q) (plus_keys s keys), left, first)
  | inr e ↦
      let left : p (plus_keys s (all_but k (q ∷ keys))) ≡ p (plus_keys s (q ∷ all_but k keys)) = ap (λ ks. p (plus_keys s ks)) (all_but-cons k q keys false e) in
      omega (
        arith,
        is.both (s q) (plus_keys s keys),
        is.both (s q) (plus_keys s (all_but k keys)),
        left,
        taken-sum p is s k keys (omega (arith, one, times-cons k q keys, once-false (is_key k q) e)),
      )
]

-- the sums of a family by its tables
abbrev sums_by : FinMap nat_cmp Account → List Family → List Sums → ℕ → Sums
sums_by accounts families folded slot =
    plus (plus_keys (λ q. (unwrap_or (get accounts q.0) no_account).sums) (keys_of (slice_index_or families slot no_family))) (slice_index_or folded slot no_sums)

-- those of the family that the copy leaves, one of the three sums at a time
copy-moves : (p : Sums → ℕ) → IsSum p → (s t : Key → Sums) (k : Key) → ((q : Key) → (q.0 ≡ k.0 → ⊥) → t q ≡ s q) → (f : Family) → times k (in_option f.original) ≡ 0 → times k f.copies ≡ 1
    → (away : Sums) → p (plus (plus_keys t (keys_of (out_of_family true k f))) (plus away (s k))) ≡ p (plus (plus_keys s (keys_of f)) away)
copy-moves p is s t k same f none one away =
    let o : List Key = in_option f.original in
    let left : List Key = all_but k f.copies in
    let first : p (plus_keys t o) ≡ p (plus_keys s o) = ap p (plus-apart s t k same o none) in
    let rest : p (plus_keys t left) ≡ p (plus_keys s left) = ap p (plus-apart s t k same left (times-all_but_same k f.copies)) in
    omega (
      arith,
      is.both (plus_keys t (o ++ left)) (plus away (s k)),
      is.both away (s k),
      is.both (plus_keys s (o ++ f.copies)) away,
      sums-append p is t o left,
      sums-append p is s o f.copies,
      first,
      rest,
      taken-sum p is s k f.copies one,
    )

pub run_times_are_sums : IsSum (λ s. s.running)
run_times_are_sums = record { none = refl; both = λ a b. refl }

folded-by : (hw : Hardware) (w : World) (k : Key) → IsKept hw w → is_live w k ≡ true → (instance_at w k).copy ≡ true → (slot : ℕ)
    → sums_by (remove w.accounts k.0) (slice_set w.families (instance_at w k).event.0 (out_of_family true k (slice_index_or w.families (instance_at w k).event.0 no_family)))
    (slice_set w.folded (instance_at w k).event.0 (plus (slice_index_or w.folded (instance_at w k).event.0 no_sums) (account_at w k).sums)) slot
    ≡ sums_by w.accounts w.families w.folded slot
folded-by hw w k h live copy slot =
    let event : ℕ = (instance_at w k).event.0 in
    let f : Family = slice_index_or w.families event no_family in
    let away : Sums = slice_index_or w.folded event no_sums in
    let s : Key → Sums = λ q. (account_at w q).sums in
    let t : Key → Sums = λ q. (unwrap_or (get (remove w.accounts k.0) q.0) no_account).sums in
    let same : (q : Key) → (q.0 ≡ k.0 → ⊥) → t q ≡ s q = λ q apart. ap (λ o. (unwrap_or o no_account).sums) (get-left w.accounts k.0 q.0 apart) in
    let low : event < 256 = h.numbered.slots k live in
    let new_family : Family = out_of_family true k f in
    let new_folded : Sums = plus away (s k) in
    elim (cases_eq slot event) [
      | inl e ↦
          let families : slice_index_or (slice_set w.families event new_family) slot no_family ≡ new_family = grind (arith, get_or-set_same) in
          let folded : slice_index_or (slice_set w.folded event new_folded) slot no_sums ≡ new_folded = grind (arith, nat_tests, get_or-set_same) in
          let none : times k (in_option f.original) ≡ 0 =
          h.linked.originals k event ∙ once-false (is_original_in (post_at w) event k) (last_fails (is_live w k) (event == event) (not (instance_at w k).copy) (ap not copy)) in
          let one : times k f.copies ≡ 1 =
          h.linked.copies k event ∙ once-true (is_copy_in (post_at w) event k) (all_three (is_live w k) (event == event) (instance_at w k).copy live (grind (arith, nat_tests)) copy) in
          let moved : plus (plus_keys t (keys_of new_family)) new_folded ≡ plus (plus_keys s (keys_of f)) away = λ i. record {
            count = copy-moves (λ x. x.count) counts_are_sums s t k same f none one away i;
            enabled = copy-moves (λ x. x.enabled) times_are_sums s t k same f none one away i;
            running = copy-moves (λ x. x.running) run_times_are_sums s t k same f none one away i;
          } in
          (λ i. plus (plus_keys t (keys_of (families i))) (folded i)) ∙ (moved ∙ ap (λ n. sums_by w.accounts w.families w.folded n) (sym e))
      | inr apart ↦
          let families : slice_index_or (slice_set w.families event new_family) slot no_family ≡ slice_index_or w.families slot no_family =
          get_or-set_other w.families event slot new_family no_family apart in
          let folded : slice_index_or (slice_set w.folded event new_folded) slot no_sums ≡ slice_index_or w.folded slot no_sums =
          get_or-set_other w.folded event slot new_folded no_sums apart in
          let nowhere : times k (keys_of (slice_index_or w.families slot no_family)) ≡ 0 = family-other w h.linked k slot (λ e. apart (sym e)) in
          (λ i. plus (plus_keys t (keys_of (families i))) (folded i))
          ∙ ap (λ x. plus x (slice_index_or w.folded slot no_sums)) (plus-apart s t k same (keys_of (slice_index_or w.families slot no_family)) nowhere)
    ]

-- the world with other folded sums after the copy went
abbrev pub added_sums : World → Key → List Sums
added_sums w k = slice_set w.folded (instance_at w k).event.0 (plus (slice_index_or w.folded (instance_at w k).event.0 no_sums) (account_at w k).sums)

pub folded-is : (w : World) (k : Key) → folded_away k w ≡ record (drop_instance k w) { folded = added_sums w k }
folded-is w k = dropped-folded w k (added_sums w k)

kept-sums : (hw : Hardware) (w : World) (k : Key) → IsKept hw w → is_live w k ≡ true → (instance_at w k).copy ≡ true → (slot : ℕ)
    → family_sums (record (drop_instance k w) { folded = added_sums w k }) slot ≡ family_sums w slot
kept-sums hw w k h live copy slot =
    let b : Bool = is_key k (entry_at w k).leader in
    let event : ℕ = (instance_at w k).event.0 in
    let accounts : (drop_instance k w).accounts ≡ remove w.accounts k.0 = ap (λ m. remove m k.0) (left-accounts w k b) in
    let families : (drop_instance k w).families ≡ slice_set w.families event (out_of_family true k (slice_index_or w.families event no_family)) =
    grind (arith, nat_tests, left-families) in
    (λ i. sums_by (accounts i) (families i) (added_sums w k) slot) ∙ folded-by hw w k h live copy slot

pub copy-may : (w : World) (k : Key) → is_live w k ≡ true → (instance_at w k).copy ≡ true → MayGo w k
copy-may w k live copy = record { live = live; last = λ first. absurd (false≢true (sym first ∙ copy)) }

pub fold-stage : FoldLaw
fold-stage hw w k h live copy = ap stage_of (folded-is w k) ∙ go-stage hw w k h (copy-may w k live copy)

pub fold-sums : FoldSumsLaw
fold-sums hw w k h live copy slot = ap (λ t. family_sums t slot) (folded-is w k) ∙ kept-sums hw w k h live copy slot

pub fold-kept : FoldKeptLaw
fold-kept hw w k live copy h =
    let event : ℕ = (instance_at w k).event.0 in
    let away : Sums = slice_index_or w.folded event no_sums in
    let t : World = drop_instance k w in
    let kept : IsKept hw t = go-kept hw w k (copy-may w k live copy) h in
    let stay : (slot : ℕ) → family_sums (record t { folded = added_sums w k }) slot ≡ family_sums w slot = kept-sums hw w k h live copy in
    let low : event < length w.folded = omega (arith, h.numbered.slots k live, h.tables.folded) in
    subst (IsKept hw) (sym (folded-is w k)) (record {
      tables = record {
        accounts = kept.tables.accounts;
        standings = kept.tables.standings;
        families = kept.tables.families;
        folded = length-set w.folded event _ ∙ h.tables.folded;
        lost = kept.tables.lost;
        clocks = kept.tables.clocks;
        totals = kept.tables.totals;
        seats = kept.tables.seats;
      };
      shape = record { running = kept.shape.running; tasks = kept.shape.tasks; contexts = kept.shape.contexts };
      running = record { live = kept.running.live; once = kept.running.once };
      linked = kept.linked;
      copies = kept.copies;
      grouped = kept.grouped;
      numbered = kept.numbered;
      apart = kept.apart;
      fitting = kept.fitting;
      lawful = record { errors = kept.lawful.errors; samples = kept.lawful.samples; kinds = kept.lawful.kinds; used = kept.lawful.used; placed = kept.lawful.placed };
      seated = kept.seated;
      small = record {
        counts = λ slot. subst (λ s. s.count < 2 ^ 63) (sym (stay slot)) (h.small.counts slot);
        times = λ slot. subst (λ s. s.enabled < 2 ^ 63) (sym (stay slot)) (h.small.times slot);
        ran = kept.small.ran;
        folded_ran = λ slot. at_place (λ s. s.running ≤ s.enabled) w.folded event (plus away (account_at w k).sums) no_sums slot low
            (λ e. omega (arith, h.small.folded_ran event, h.small.ran k)) (λ apart. h.small.folded_ran slot);
        clocks = kept.small.clocks;
        totals = kept.small.totals;
        lost = kept.small.lost;
        ids = kept.small.ids;
      };
    })
