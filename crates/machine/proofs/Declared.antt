-- The counters of a machine, read off a script's declarations.
use Rattle.std.specs.Prelude.{◌≡◌, ℕ, zero, suc, ◌+◌, ◌<◌, ◌≤◌, ◌==◌, Bool, true, false, min, AllPairs, List, [], ◌-◌, ◌∷◌, ◌++◌, length, map, take, position, replicate, IfSome, Some, slice_get, slice_index, slice_set}
use Rattle.std.{specs.{Option.{unwrap_or}, Int.{bit_at}, List.{position_or_len}}, proofs.Common.{arith, refl, sym, ap, subst, ◌∙◌, get_or, inl, inr}}
use Rattle.std.proofs.lemmas.Bool.{cases_lt, Decides.{nat_tests}}
use Rattle.std.proofs.lemmas.List.{ext_get_or, length-append, length-map, length-take, get_or-take, get_or-map, get_or_append_left, get_or-append-add, get_or-replicate, get_or-set_other}
use Rattle.std.proofs.lemmas.{List.Sums.{position_or_len_is}, Grind.{get_or-set_at}}
use Rattle.std.proofs.lemmas.Option.{get_or_from_slice_get, slice_get-get_or, slice_get_within}
use Rattle.perf_base.specs.{Cpus.{HasCpu}, declared.{lines.{KindLine.{KindLine}, PmuLine.{PmuLine}}, numbers.CpuNo.{CpuNo}}}
use Rattle.perf_base.{specs.Scripts.{Scripted, AreApart, IsCovered, IsScript}, proofs.Bits.{apart_bits}}
use Rattle.stage_spec.{specs.{Hardware.{IsHardware, hardware_of, has_cpu, pmu_with}, Numbers.{numbers_below}}, proofs.Machines.{script_machine, length-below}}
use Rattle.pmu_model.specs.Pmus.{seen, IsTable}

-- what stands for a PMU and a kind that are not declared
abbrev pub no_pmu : PmuLine
no_pmu = record { counters = 0; cpus = record { 0 = 0 } }

abbrev pub no_kind : KindLine
no_kind = record { name = []; pmu = 0; mask = 0 }

-- the numbers below a number, one by one
pub at-below : (n i : ℕ) → i < n → get_or (numbers_below n) i 0 ≡ i
at-below zero i low = absurd (omega (arith, low))
at-below (suc n) i low = elim (cases_lt i n) [
  | inl below ↦ get_or_append_left (numbers_below n) (n ∷ []) 0 i (omega (arith, below, length-below n)) ∙ at-below n i below
  | inr last ↦
      let is : i ≡ length (numbers_below n) + 0 = omega (arith, last, low, length-below n) in
      ap (λ j. get_or (numbers_below n ++ n ∷ []) j 0) is ∙ (get_or-append-add (numbers_below n) (n ∷ []) 0 0 ∙ omega (arith, last, low))
]

-- a list by its elements is the first of some numbers under a function
pub taken-is : (f : ℕ → ℕ) (n : ℕ) (xs : List ℕ) → n ≤ length xs → ((i : ℕ) → i < n → slice_index xs i ≡ f i) → take n xs ≡ map f (numbers_below n)
taken-is f n xs long each =
    let size : length (take n xs) ≡ n = omega (arith, length-take n xs, long) in
    let numbers : length (map f (numbers_below n)) ≡ n = length-map (numbers_below n) f ∙ length-below n in
    ext_get_or 0 (take n xs) (map f (numbers_below n)) (size ∙ sym numbers)
    (λ i low.
    let below : i < n = omega (arith, low, size) in
    get_or-take n xs i 0 below ∙ (each i below ∙ sym (get_or-map f (numbers_below n) i 0 0 (omega (arith, below, length-below n)) ∙ ap f (at-below n i below))))

-- so where it is that of the entries of another list
pub mapped-is : {X : Type 0} (f : X → ℕ) (xs : List X) (d : X) (ys : List ℕ) → length xs ≤ length ys → ((i : ℕ) → i < length xs → slice_index ys i ≡ f (get_or xs i d))
    → take (length xs) ys ≡ map f xs
mapped-is f xs d ys long each =
    let size : length (take (length xs) ys) ≡ length xs = omega (arith, length-take (length xs) ys, long) in
    ext_get_or 0 (take (length xs) ys) (map f xs) (size ∙ sym (length-map xs f))
    (λ i low.
    let below : i < length xs = omega (arith, low, size) in
    get_or-take (length xs) ys i 0 below ∙ (each i below ∙ sym (get_or-map f xs i d 0 below)))

-- the first that passes
first-position : {X : Type 0} (p : X → Bool) (xs : List X) (n : ℕ) → position_or_len p xs ≡ n → n < length xs → unwrap_or (position p xs) 0 ≡ n
first-position p xs n e low = grind (arith, nat_tests, e, low)

-- No processor is of two PMUs, so one that has it is the first that has it.
holds : (set cpu : ℕ) → bit_at set cpu ≡ 1 → (bit_at set cpu == 1) ≡ true
holds set cpu e = grind (arith, nat_tests, e)

holds-not : (set cpu : ℕ) → min (bit_at set cpu) 1 ≡ 0 → (bit_at set cpu == 1) ≡ false
holds-not set cpu e = one (bit_at set cpu) e
  where
    one : (n : ℕ) → min n 1 ≡ 0 → (n == 1) ≡ false
    one zero e = refl
    one (suc n) e = absurd (omega (arith, e))

pub only-pmu : (pmus : List PmuLine) (cpu : CpuNo) (n : ℕ) (p : PmuLine) → AllPairs AreApart pmus → slice_get pmus n ≡ Some p → HasCpu p.cpus cpu → n ≡ pmu_with pmus cpu.0
only-pmu pmus cpu n p apart is has =
    let low : n < length pmus = slice_get_within pmus n p is in
    let same : get_or pmus n p ≡ p = get_or_from_slice_get pmus n p p is in
    let test : PmuLine → Bool = λ q. has_cpu cpu.0 q.cpus in
    let here : test (get_or pmus n p) ≡ true = ap test same ∙ holds p.cpus.0 cpu.0 has in
    let before : (k : ℕ) → k < n → test (get_or pmus k p) ≡ false = λ k below.
    let bits : min (bit_at (get_or pmus k p).cpus.0 cpu.0) (bit_at (get_or pmus n p).cpus.0 cpu.0) ≡ 0 = apart_bits (get_or pmus k p).cpus.0 (get_or pmus n p).cpus.0 (apart k n p below low) cpu.0 in
    holds-not (get_or pmus k p).cpus.0 cpu.0 (ap (min (bit_at (get_or pmus k p).cpus.0 cpu.0)) (sym (ap (λ q. bit_at q.cpus.0 cpu.0) same ∙ has)) ∙ bits) in
    sym (first-position test pmus n (position_or_len_is test pmus n p (omega (arith, low)) before (λ l. here)) low)

-- an entry by what a reader says of it
pub entry-is : {X : Type 0} (f : X → ℕ) (xs : List X) (n : ℕ) (d : X) (y : ℕ) → n < length xs → IfSome (slice_get xs n) (λ x. y ≡ f x) → y ≡ f (get_or xs n d)
entry-is f xs n d y low h = subst (λ o. IfSome o (λ x. y ≡ f x)) (slice_get-get_or xs n d low) h

pub pmu-is : (pmus : List PmuLine) (cpu : CpuNo) (n : ℕ) → AllPairs AreApart pmus → n < length pmus → IfSome (slice_get pmus n) (λ p. HasCpu p.cpus cpu) → n ≡ pmu_with pmus cpu.0
pmu-is pmus cpu n apart low h = grind (arith, nat_tests, get_or, slice_get-get_or, only-pmu, slice_get-get_or pmus n no_pmu low)

-- one more entry of a list of numbers
pub each-more : (f : ℕ → ℕ) (xs : List ℕ) (n y : ℕ) → n < length xs → y ≡ f n → ((i : ℕ) → i < n → slice_index xs i ≡ f i) → (i : ℕ) → i < n + 1 → slice_index (slice_set xs n y) i ≡ f i
each-more f xs n y low is each i below = grind (arith, nat_tests, get_or-set_at, get_or-set_other)

pub rest-more : (xs : List ℕ) (n y : ℕ) → ((i : ℕ) → n ≤ i → slice_index xs i ≡ 0) → (i : ℕ) → n + 1 ≤ i → slice_index (slice_set xs n y) i ≡ 0
rest-more xs n y rest i past = get_or-set_other xs n i y 0 (λ e. absurd (omega (arith, past, e))) ∙ rest i (omega (arith, past))

-- The counters of four PMUs, of which some are declared.
pub counters-are : (pmus : List PmuLine) (xs : List ℕ) → length xs ≡ 4 → length pmus ≤ 4
    → ((i : ℕ) → i < length pmus → slice_index xs i ≡ (get_or pmus i no_pmu).counters) → ((i : ℕ) → length pmus ≤ i → slice_index xs i ≡ 0)
    → xs ≡ take 4 (map (λ (p : PmuLine). p.counters) pmus ++ replicate 4 0)
counters-are pmus xs four few each rest =
    let declared : List ℕ = map (λ (p : PmuLine). p.counters) pmus in
    let size : length declared ≡ length pmus = length-map pmus (λ (p : PmuLine). p.counters) in
    let all : length (take 4 (declared ++ replicate 4 0)) ≡ 4 = omega (arith, length-take 4 (declared ++ replicate 4 0), length-append declared (replicate 4 0)) in
    ext_get_or 0 xs (take 4 (declared ++ replicate 4 0)) (four ∙ sym all)
    (λ i low.
    let taken : get_or (take 4 (declared ++ replicate 4 0)) i 0 ≡ get_or (declared ++ replicate 4 0) i 0 = get_or-take 4 (declared ++ replicate 4 0) i 0 (omega (arith, low, four)) in
    elim (cases_lt i (length pmus)) [
      | inl here ↦ each i here ∙ sym (taken ∙ (get_or_append_left declared (replicate 4 0) 0 i (omega (arith, here, size)) ∙ get_or-map (λ (p : PmuLine). p.counters) pmus i no_pmu 0 here))
      | inr past ↦
          let place : i ≡ length declared + (i - length pmus) = omega (arith, past, size) in
          rest i past
          ∙ sym (taken ∙ (ap (λ j. get_or (declared ++ replicate 4 0) j 0) place
          ∙ (get_or-append-add declared (replicate 4 0) (i - length pmus) 0 ∙ get_or-replicate 4 (i - length pmus) 0 0 (omega (arith, low, four)))))
    ])

-- The table of the PMUs is the machine that the script declares.
pub seen-is : (s : Scripted) (cpus kinds : ℕ) (pmu_of counters kind_pmu masks : List ℕ) → cpus ≡ s.cpus → kinds ≡ length s.kinds → take s.cpus pmu_of ≡ (hardware_of s).cpu_pmus
    → counters ≡ (hardware_of s).counters → take (length s.kinds) kind_pmu ≡ (hardware_of s).kind_pmus → take (length s.kinds) masks ≡ (hardware_of s).masks
    → seen cpus pmu_of counters kinds kind_pmu masks ≡ hardware_of s
seen-is s cpus kinds pmu_of counters kind_pmu masks e k a b c d = rw (e, k) (λ i. record { cpu_pmus = a i; counters = b i; kind_pmus = c i; masks = d i })

pub table-is : (s : Scripted) (cpus kinds : ℕ) (pmu_of counters kind_pmu masks : List ℕ) → IsScript s → IsCovered s → cpus ≡ s.cpus → kinds ≡ length s.kinds
    → seen cpus pmu_of counters kinds kind_pmu masks ≡ hardware_of s → IsTable cpus pmu_of counters kinds kind_pmu masks
table-is s cpus kinds pmu_of counters kind_pmu masks h covered e k same = record {
  few_cpus = omega (arith, e, h.cpus.1);
  few_kinds = omega (arith, k, h.kinds_few);
  hardware = subst IsHardware (sym same) (script_machine s h covered).sound;
}
