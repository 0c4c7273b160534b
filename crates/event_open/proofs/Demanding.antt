-- What groups ask for: lists of demands that grow, and their slots, of which no two are one.
use Rattle.std.specs.Prelude.{◌≡◌, ◌≢◌, ℕ, ◌+◌, ◌≤◌, IsTrue, Bool, true, false, not, cond, All, List, [], ◌∷◌, ◌++◌, length, map, filter, slice_index_or, if◌then◌else◌}
use Rattle.std.{specs.List.{AllPairs}, proofs.{Common.{arith, refl, sym, ap, subst, ◌∙◌}, Math.Nat.{pow-le-pow_right}}}
use Rattle.std.proofs.lemmas.{Bool.{cases_lt, false≢true, true≢false}, List.{length-map, map-append, get_or-map, get_or_past}}
use Rattle.std.proofs.lemmas.List.{Elements.{filter-append}, Kept.{AllPairs-filter, AllPairs-cons}, Sums.{length-filter, count_by-le-length}}
use Rattle.perf_base.specs.{Masks.{IsMask}, Scripts.{IsKind}, declared.{attr.Kind.{Kind}, numbers.{EventNo.{EventNo}, Key.{Key}}}}
use Rattle.perf_base.specs.declared.attr.Kind.TheVariants as kind
use Rattle.stage_spec.specs.{declared.instance.Instance.{Instance}, Effective.{is_hardware}, Hardware.{Hardware, IsHardware, is_software, mask_of}}
use Rattle.stage_spec.specs.{Tight.{masks_of}, Verdict.{with_masks}}
use Rattle.counter_match.specs.Seating.{AreDistinct}
use Rattle.world_spec.{specs.Value.{is_key, times}, proofs.{Copies.{times-at}, Keys.{times-cons, once-true, is_key-same}}}
use Rattle.event_open.specs.Demanded.{demanded, demanded_by}
use Rattle.stage_laws.proofs.Groups.{masks-cond}

-- demands of one, and of two lists
abbrev masked : Hardware → Instance → EventNo × ℕ
masked hw i = (i.event, mask_of hw i.attr.kind)

one-masked : (hw : Hardware) (i : Instance) (soft : Bool) → with_masks hw (cond (not soft) (i ∷ []) []) ≡ (if soft then [] else (i.event, mask_of hw i.attr.kind) ∷ [])
one-masked hw i true = refl
one-masked hw i false = refl

pub demanded-one : (hw : Hardware) (i : Instance) → demanded hw (i ∷ []) ≡ demanded_by hw i.event i.attr.kind
demanded-one hw i = one-masked hw i (is_software i.attr.kind)

pub demanded-append : (hw : Hardware) (xs ys : List Instance) → demanded hw (xs ++ ys) ≡ demanded hw xs ++ demanded hw ys
demanded-append hw xs ys = grind (arith, filter-append, map-append)

pub demanded-push : (hw : Hardware) (xs : List Instance) (i : Instance) → demanded hw (xs ++ i ∷ []) ≡ demanded hw xs ++ demanded_by hw i.event i.attr.kind
demanded-push hw xs i = demanded-append hw xs (i ∷ []) ∙ ap (λ ys. demanded hw xs ++ ys) (demanded-one hw i)

pub length-demanded : (hw : Hardware) (xs : List Instance) → length (demanded hw xs) ≤ length xs
length-demanded hw xs = omega (arith, length-map (filter is_hardware xs) (masked hw), length-filter is_hardware xs, count_by-le-length is_hardware xs)

-- their masks are those of the hardware kinds
kinds-cond : (hw : Hardware) (b : Bool) (k : Kind) (kinds : List Kind) → map (mask_of hw) (cond b (k ∷ kinds) kinds) ≡ cond b (mask_of hw k ∷ map (mask_of hw) kinds) (map (mask_of hw) kinds)
kinds-cond hw true k kinds = refl
kinds-cond hw false k kinds = refl

pub masks-by_kinds : (hw : Hardware) (xs : List Instance) → masks_of (demanded hw xs) ≡ map (mask_of hw) (filter (λ k. not (is_software k)) (map (λ i. i.attr.kind) xs))
masks-by_kinds hw [] = refl
masks-by_kinds hw (i ∷ xs) = grind (arith, masks-cond, kinds-cond, masks-by_kinds hw xs)

-- pairs of a list that is mapped, and of a list of keys by what keys name
pub pairs-mapped : {X Y : Type 0} (R : Y → Y → Type 0) (f : X → Y) (xs : List X) → AllPairs (λ x y. R (f x) (f y)) xs → AllPairs R (map f xs)
pairs-mapped R f [] h = λ i j d before low. absurd (omega (arith, low))
pairs-mapped R f (x ∷ xs) h = λ i j d before low.
    let n : length (map f (x ∷ xs)) ≡ length (x ∷ xs) = length-map (x ∷ xs) f in
    subst (λ y. R y (slice_index_or (map f (x ∷ xs)) j d)) (sym (get_or-map f (x ∷ xs) i x d (omega (arith, before, low, n))))
    (subst (λ y. R (f (slice_index_or (x ∷ xs) i x)) y) (sym (get_or-map f (x ∷ xs) j x d (omega (arith, low, n)))) (h i j x before (omega (arith, low, n))))

pub all-keys : (P : Key → Type 0) (keys : List Key) → ((k : Key) → 1 ≤ times k keys → P k) → All P keys
all-keys P keys h i d low = h (slice_index_or keys i d) (times-at keys i d low)

pub pairs-of_keys : (R : Key → Key → Type 0) (keys : List Key) → ((k : Key) → times k keys ≤ 1)
    → ((j k : Key) → 1 ≤ times j keys → 1 ≤ times k keys → (j ≡ k → ⊥) → R j k) → AllPairs R keys
pairs-of_keys R [] once h = λ i j d before low. absurd (omega (arith, low))
pairs-of_keys R (q ∷ keys) once h =
    let mine : times q (q ∷ keys) ≡ 1 + times q keys = omega (arith, times-cons q q keys, once-true (is_key q q) (is_key-same q q refl)) in
    AllPairs-cons R q keys
    (all-keys (R q) keys (λ k some. h q k (omega (arith, mine)) (omega (arith, some, times-cons k q keys))
    (λ same. omega (arith, some, mine, once q, ap (λ x. times x keys) same))))
    (pairs-of_keys R keys (λ k. omega (arith, once k, times-cons k q keys))
    (λ j k some_j some_k. h j k (omega (arith, some_j, times-cons j q keys)) (omega (arith, some_k, times-cons k q keys))))

-- instances of which no two are in one slot ask for counters for different slots
pub demanded-distinct : (hw : Hardware) (xs : List Instance) → AllPairs (λ i j. i.event ≢ j.event) xs → AreDistinct (demanded hw xs)
demanded-distinct hw xs h =
    pairs-mapped (λ one other. one.0 ≢ other.0) (masked hw) (filter is_hardware xs)
    (AllPairs-filter (λ i j. i.event ≢ j.event) is_hardware xs h)

-- the mask of a hardware kind that has one names some of 16 counters
pub hard-mask : (hw : Hardware) (k : Kind) → IsHardware hw → IsKind (length hw.kind_pmus) k → (mask_of hw k ≡ 0 → IsTrue (is_software k)) → is_software k ≡ false → IsMask 16 (mask_of hw k)
hard-mask hw (kind.Hard n) sound there some hard = grind (arith, cases_lt, pow-le-pow_right, false≢true, get_or_past)
hard-mask hw kind.ContextSwitches sound there some hard = absurd (true≢false hard)
hard-mask hw kind.CpuMigrations sound there some hard = absurd (true≢false hard)
hard-mask hw kind.TaskClock sound there some hard = absurd (true≢false hard)
hard-mask hw kind.Dummy sound there some hard = absurd (true≢false hard)
