-- The counters that a script declares are a machine's.
use Rattle.std.specs.Prelude.{◌≡◌, ℕ, zero, suc, ◌^◌, ◌<◌, ◌≤◌, All, MatchOption, List, [], ◌∷◌, ◌++◌, length, map, take, replicate, position, Option, Some, None, slice_get, slice_index}
use Rattle.std.{specs.Option.{unwrap_or}, proofs.Common.{arith, refl, ◌∙◌, get_or}}
use Rattle.std.proofs.lemmas.List.{length-append, length-map, length-take, get_or-take, Elements.{All-append, All-cons, All-map, All-nil, All-weaker}}
use Rattle.std.proofs.lemmas.{List.Quantifiers.{position-Some}, Option.{get_or_from_slice_get, slice_get_within}}
use Rattle.perf_base.specs.{declared.lines.{PmuLine.{PmuLine}, KindLine.{KindLine}}, Scripts.{IsPmuLine, IsKindLine}, Masks.{IsMask}}
use Rattle.stage_spec.specs.{Numbers.{numbers_below}, Hardware.{IsPmu, has_cpu, pmu_with}, Limits.{ScriptMachineLaw}}

-- the counters of the declared PMUs
abbrev four_counters : List PmuLine → List ℕ
four_counters pmus = take 4 (map (λ p. p.counters) pmus ++ replicate 4 0)

at_counters : (pmus : List PmuLine) (more : List ℕ) (n : ℕ) (d : PmuLine) → n < length pmus → get_or (map (λ (p : PmuLine). p.counters) pmus ++ more) n 0 ≡ (get_or pmus n d).counters
at_counters [] more n d l = absurd (omega arith)
at_counters (p ∷ pmus) more zero d l = refl
at_counters (p ∷ pmus) more (suc n) d l = at_counters pmus more n d (omega arith)

counters-of : (pmus : List PmuLine) (n : ℕ) (d : PmuLine) → length pmus ≤ 4 → n < length pmus → slice_index (four_counters pmus) n ≡ (get_or pmus n d).counters
counters-of pmus n d few l = get_or-take 4 (map (λ p. p.counters) pmus ++ replicate 4 0) n 0 (omega arith) ∙ at_counters pmus (replicate 4 0) n d l

pmu-declared : (cpus : ℕ) (pmus : List PmuLine) (n : ℕ) (d : PmuLine) → length pmus ≤ 4 → All (IsPmuLine cpus) pmus → n < length pmus → IsPmu (four_counters pmus) n
pmu-declared cpus pmus n d few h l =
    let same : slice_index (four_counters pmus) n ≡ (get_or pmus n d).counters = counters-of pmus n d few l in
    let line : IsPmuLine cpus (get_or pmus n d) = h n d l in
    (omega arith, rw same line.counters.0, rw same line.counters.1)

-- the PMU of a processor
pmu-with-declared : (pmus : List PmuLine) (cpu : ℕ) (d : PmuLine) → 0 < length pmus → pmu_with pmus cpu < length pmus
pmu-with-declared pmus cpu d some = one (position (λ p. has_cpu cpu p.cpus) pmus) refl
  where
    one : (o : Option ℕ) → position (λ (p : PmuLine). has_cpu cpu p.cpus) pmus ≡ o → unwrap_or o 0 < length pmus
    one None e = some
    one (Some i) e = (position-Some (λ p. has_cpu cpu p.cpus) pmus i d e).0

all-below : (P : ℕ → Type 0) (n : ℕ) → ((k : ℕ) → P k) → All P (numbers_below n)
all-below P zero h = All-nil P
all-below P (suc n) h = All-append P (numbers_below n) (n ∷ []) (all-below P n h) (All-cons P n [] (h n) (All-nil P))

pub length-below : (n : ℕ) → length (numbers_below n) ≡ n
length-below zero = refl
length-below (suc n) = omega (arith, length-below n, length-append (numbers_below n) (n ∷ []))

-- the PMU of a kind, and its mask
record KindFits (pmus : List PmuLine) (k : KindLine) : Type 0 where
  pub declared : k.pmu < length pmus
  pub mask : IsMask (get_or pmus k.pmu (record { counters = 0; cpus = record { 0 = 0 } })).counters k.mask

kind-fits : (pmus : List PmuLine) (k : KindLine) → IsKindLine pmus k → KindFits pmus k
kind-fits pmus k h = one (slice_get pmus k.pmu) refl h.mask
  where
    d : PmuLine
    d = record { counters = 0; cpus = record { 0 = 0 } }

    one : (o : Option PmuLine) → slice_get pmus k.pmu ≡ o → MatchOption o ⊥ (λ (p : PmuLine). (0 < k.mask) × (k.mask < 2 ^ p.counters)) → KindFits pmus k
    one None e g = absurd g
    one (Some p) e g =
        let same : get_or pmus k.pmu d ≡ p = get_or_from_slice_get pmus k.pmu p d e in
        record { declared = slice_get_within pmus k.pmu p e; mask = rw same g }

at_map : {X : Type 0} (f : X → ℕ) (xs : List X) (n : ℕ) (d : X) → n < length xs → get_or (map f xs) n 0 ≡ f (get_or xs n d)
at_map f [] n d l = absurd (omega arith)
at_map f (x ∷ xs) zero d l = refl
at_map f (x ∷ xs) (suc n) d l = at_map f xs n d (omega arith)

masks-within : (pmus : List PmuLine) (kinds : List KindLine) (n : ℕ) (d : KindLine) → length pmus ≤ 4 → All (IsKindLine pmus) kinds → n < length kinds
    → IsMask (slice_index (four_counters pmus) (slice_index (map (λ (k : KindLine). k.pmu) kinds) n)) (slice_index (map (λ (k : KindLine). k.mask) kinds) n)
masks-within pmus kinds n d few h l =
    let k : KindLine = get_or kinds n d in
    let fits : KindFits pmus k = kind-fits pmus k (h n d l) in
    let e : PmuLine = record { counters = 0; cpus = record { 0 = 0 } } in
    rw (at_map (λ (j : KindLine). j.pmu) kinds n d l, at_map (λ (j : KindLine). j.mask) kinds n d l, counters-of pmus k.pmu e few fits.declared) fits.mask

pub script_machine : ScriptMachineLaw
script_machine s h covered =
    let d : PmuLine = record { counters = 0; cpus = record { 0 = 0 } } in
    let some : 0 < length s.pmus = omega (arith, (covered (record { 0 = 0 }) (omega (arith, h.cpus.0))).2) in
    let C : List ℕ = four_counters s.pmus in
    let numbers : length (map (pmu_with s.pmus) (numbers_below s.cpus)) ≡ s.cpus = length-map (numbers_below s.cpus) (pmu_with s.pmus) ∙ length-below s.cpus in
    let kinds : length (map (λ k. k.pmu) s.kinds) ≡ length s.kinds = length-map s.kinds (λ k. k.pmu) in
    let masks : length (map (λ k. k.mask) s.kinds) ≡ length s.kinds = length-map s.kinds (λ k. k.mask) in
    record {
      sound = record {
        cpus = (rw numbers h.cpus.0, rw numbers h.cpus.1);
        pmus = omega (arith, length-take 4 (map (λ p. p.counters) s.pmus ++ replicate 4 0), length-append (map (λ p. p.counters) s.pmus) (replicate 4 0));
        cpu_pmus = All-map (IsPmu C) (pmu_with s.pmus) (numbers_below s.cpus)
            (all-below (λ cpu. IsPmu C (pmu_with s.pmus cpu)) s.cpus (λ cpu. pmu-declared s.cpus s.pmus (pmu_with s.pmus cpu) d h.pmus_few h.pmus (pmu-with-declared s.pmus cpu d some)));
        kinds = (rw kinds h.kinds_few, rw masks h.kinds_few);
        kind_pmus = All-map (IsPmu C) (λ (k : KindLine). k.pmu) s.kinds
            (All-weaker (IsKindLine s.pmus) (λ (k : KindLine). IsPmu C k.pmu) (λ k g. pmu-declared s.cpus s.pmus k.pmu d h.pmus_few h.pmus (kind-fits s.pmus k g).declared) s.kinds h.kinds);
        masks = λ n l. masks-within s.pmus s.kinds n (record { name = []; pmu = 0; mask = 0 }) h.pmus_few h.kinds (omega (arith, l, masks));
      };
      cpus = numbers;
      kinds = (kinds, masks);
    }
