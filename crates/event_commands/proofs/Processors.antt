-- Sets to which the processors that reach some keys are added, and that these processors are those that reach the
-- families on the stage.
use Rattle.std.specs.Prelude.{◌≡◌, ℕ, ◌+◌, ◌^◌, ◌<◌, ◌≤◌, ◌==◌, suc, max, Bool, true, false, ◌&&◌, ◌||◌, bit_or, List, [], ◌∷◌, ◌++◌, length, take, Option, Some, None, slice_index_or, if◌then◌else◌}
use Rattle.std.{specs.{Int.{bit_at}, List.{list_any}}, proofs.{Common.{arith, refl, sym, ap, ◌∙◌, inl, inr, take_all}, Math.Seq.{take-suc}}}
use Rattle.std.proofs.lemmas.{Bool.{and_parts, cases_eq, false≢true, Decides.{nat_tests}}, Grind.{flat_map-append}, List.{append-nil}}
use Rattle.std.proofs.lemmas.{List.Folds.{list_any-append}, Nat.Bits.{bit_at_or, bit_at-zero, bit_at-lt, bit_at-pow_same, bit_at-pow_other}}
use Rattle.perf_base.specs.declared.numbers.{CpuNo.{CpuNo}, CpuSet.{CpuSet}, EventNo.{EventNo}, Key.{Key}}
use Rattle.stage_spec.specs.Hardware.{has_cpu}
use Rattle.world_spec.specs.{Value.{World}, Kept.{in_option}}
use Rattle.event_commands.specs.{Changing.{family_keys, keys_named}, Reaching.{reaches_key, is_there, is_reaching, AreReaching, AddsReaching}}
use Rattle.stage_spec.proofs.Recurrence.{or-false}

-- one processor more
one-more : (b n : ℕ) → n ≡ max b 1 → b < 2 → (n == 1) ≡ true
one-more b n is low = grind (arith, nat_tests, is, low)

no-more : (b n : ℕ) → n ≡ max b 0 → n ≡ b
no-more b n is = grind (arith, is)

inserted : (w : World) (k : Key) (set now : CpuSet) (c : CpuNo) → is_reaching w c k ≡ true → ((cpu : CpuNo) → is_reaching w cpu k ≡ true → cpu.0 ≡ c.0)
    → now.0 ≡ bit_or set.0 (2 ^ c.0) → AddsReaching w (k ∷ []) set now
inserted w k set now c has only is cpu = elim (cases_eq cpu.0 c.0) [
  | inl same ↦ grind (arith, nat_tests, one-more, bit_at_or, same, bit_at-pow_same, bit_at-lt)
  | inr apart ↦ grind (arith, nat_tests, no-more, bit_at_or, bit_at-pow_other, apart)
]

-- a processor is added where the machine has it
added-by : (w : World) (k : Key) (set now : CpuSet) (c : CpuNo) (b : Bool) → is_there w c ≡ b → reaches_key w c k ≡ true → ((cpu : CpuNo) → reaches_key w cpu k ≡ true → cpu.0 ≡ c.0)
    → now.0 ≡ (if b then bit_or set.0 (2 ^ c.0) else set.0) → AddsReaching w (k ∷ []) set now
added-by w k set now c true there has only is cpu = inserted w k set now c (λ i. there i && has i) (λ cpu mine. only cpu (and_parts (is_there w cpu) (reaches_key w cpu k) mine).1) is cpu
added-by w k set now c false there has only is cpu =
    ap (λ n. bit_at n cpu.0 == 1) is
    ∙ sym (ap (λ b. (b || false) || has_cpu cpu.0 set) (none (is_there w cpu) (reaches_key w cpu k) (λ in_it reached. false≢true (sym there ∙ (ap (λ n. is_there w (record { 0 = n })) (sym (only cpu reached)) ∙ in_it)))))
  where
    none : (a b : Bool) → (a ≡ true → b ≡ true → ⊥) → (a && b) ≡ false
    none true true off = absurd (off refl refl)
    none true false off = refl
    none false b off = refl

pub added : (w : World) (k : Key) (set now : CpuSet) (c : CpuNo) → reaches_key w c k ≡ true → ((cpu : CpuNo) → reaches_key w cpu k ≡ true → cpu.0 ≡ c.0)
    → now.0 ≡ (if is_there w c then bit_or set.0 (2 ^ c.0) else set.0) → AddsReaching w (k ∷ []) set now
added w k set now c has only is = added-by w k set now c (is_there w c) refl has only is

pub same-cpu : (o : Option CpuNo) (cpu c : CpuNo) → o ≡ Some cpu → o ≡ Some c → cpu.0 ≡ c.0
same-cpu o cpu c first second = ap (number-or cpu) (sym first ∙ second)
  where
    number-or : CpuNo → Option CpuNo → ℕ
    number-or d None = d.0
    number-or d (Some x) = x.0

-- none, and some after others
pub adds-none : (w : World) (set : CpuSet) → AddsReaching w [] set set
adds-none w set cpu = refl

three-ways : (x y a : Bool) → (y || (x || a)) ≡ ((x || y) || a)
three-ways true true a = refl
three-ways true false a = refl
three-ways false true a = refl
three-ways false false a = refl

pub adds-append : (w : World) (xs ys : List Key) (a b c : CpuSet) → AddsReaching w xs a b → AddsReaching w ys b c → AddsReaching w (xs ++ ys) a c
adds-append w xs ys a b c first second cpu =
    second cpu
    ∙ (ap (λ t. list_any (is_reaching w cpu) ys || t) (first cpu)
    ∙ (three-ways (list_any (is_reaching w cpu) xs) (list_any (is_reaching w cpu) ys) (has_cpu cpu.0 a)
    ∙ sym (ap (λ t. t || has_cpu cpu.0 a) (list_any-append (is_reaching w cpu) xs ys))))

pub adds-same : (w : World) (xs ys : List Key) (a b : CpuSet) → xs ≡ ys → AddsReaching w xs a b → AddsReaching w ys a b
adds-same w xs ys a b same h cpu = h cpu ∙ ap (λ keys. list_any (is_reaching w cpu) keys || has_cpu cpu.0 a) same

pub next-adds : (w : World) (keys : List Key) (place : ℕ) (d : Key) (a b c : CpuSet) → place < length keys → AddsReaching w (take place keys) a b
    → AddsReaching w (slice_index_or keys place d ∷ []) b c → AddsReaching w (take (place + 1) keys) a c
next-adds w keys place d a b c low first second =
    let one : place + 1 ≡ suc place = omega arith in
    adds-same w (take place keys ++ slice_index_or keys place d ∷ []) (take (place + 1) keys) a c (sym (ap (λ n. take n keys) one ∙ take-suc keys place d low))
    (adds-append w (take place keys) (slice_index_or keys place d ∷ []) a b c first second)

pub all-adds : (w : World) (keys : List Key) (place : ℕ) (a b : CpuSet) → length keys ≤ place → AddsReaching w (take place keys) a b → AddsReaching w keys a b
all-adds w keys place a b past h = adds-same w (take place keys) keys a b (take_all place keys past) h

-- the original in a slot
pub adds-option : (w : World) (o : Option Key) (k : Key) (a b : CpuSet) → o ≡ Some k → AddsReaching w (k ∷ []) a b → AddsReaching w (in_option o) a b
adds-option w o k a b is h = adds-same w (k ∷ []) (in_option o) a b (sym (ap in_option is)) h

pub adds-no_option : (w : World) (o : Option Key) (a : CpuSet) → o ≡ None → AddsReaching w (in_option o) a a
adds-no_option w o a is = adds-same w [] (in_option o) a a (sym (ap in_option is)) (adds-none w a)

-- families
pub next-added : (w : World) (events : List EventNo) (place : ℕ) (d : EventNo) (a b c : CpuSet) → place < length events → AddsReaching w (keys_named w (take place events)) a b
    → AddsReaching w (family_keys w (slice_index_or events place d)) b c → AddsReaching w (keys_named w (take (place + 1) events)) a c
next-added w events place d a b c low first second =
    let one : place + 1 ≡ suc place = omega arith in
    let e : EventNo = slice_index_or events place d in
    let done : List Key = keys_named w (take place events) in
    adds-same w (done ++ family_keys w e) (keys_named w (take (place + 1) events)) a c
    (sym (ap (λ n. keys_named w (take n events)) one ∙ (ap (keys_named w) (take-suc events place d low)
    ∙ (flat_map-append (family_keys w) (take place events) (e ∷ []) ∙ ap (λ keys. done ++ keys) (append-nil (family_keys w e))))))
    (adds-append w done (family_keys w e) a b c first second)

no-cpu : (cpu n : ℕ) → n ≡ 0 → (bit_at n cpu == 1) ≡ false
no-cpu cpu n none = grind (arith, nat_tests, bit_at-zero)

pub all-added : (w : World) (events : List EventNo) (place : ℕ) (a b : CpuSet) → length events ≤ place → a.0 ≡ 0 → AddsReaching w (keys_named w (take place events)) a b → AreReaching w (keys_named w events) b
all-added w events place a b past none h cpu = grind (arith, nat_tests, take_all, no-cpu, or-false)
