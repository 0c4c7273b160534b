-- The processors of all PMUs, by bits.
use Rattle.std.proofs.Common.{◌≡◌, ℕ, zero, suc, ◌<◌, ◌⊎◌, min, max, All, List, [], ◌∷◌, ◌++◌, length, get_or, inl, inr, refl, sym, ap, ◌∙◌, arith}
use Rattle.std.proofs.lemmas.{Bool.{cases_lt}, Nat.{or_comm, Bits.{bit_at_and, bit_at_or, bit_at-zero, bit_at-lt, same_from_bits}}}
use Rattle.std.{proofs.lemmas.List.Elements.{All-cons, All-head, All-tail}, specs.{Prelude.{bit_and, bit_or, Any}, Int.{bit_at}}}
use Rattle.perf_base.{specs.{declared.{numbers.CpuNo.{CpuNo}, lines.PmuLine.{PmuLine}}, Cpus.{HasCpu}}, proofs.Bits.{apart_bits}}
use Rattle.script_read.specs.State.{union_of}

bits_apart : (a b : ℕ) → ((i : ℕ) → min (bit_at a i) (bit_at b i) ≡ 0) → bit_and a b ≡ 0
bits_apart a b h = same_from_bits (bit_and a b) 0 (λ i. bit_at_and a b i ∙ (h i ∙ sym (bit_at-zero i)))

least : (x y z : ℕ) → min (max x y) z ≡ 0 → min x z ≡ 0
least x y z e = omega arith

least_other : (x y z : ℕ) → min (max x y) z ≡ 0 → min y z ≡ 0
least_other x y z e = omega arith

least_both : (x y z : ℕ) → min x z ≡ 0 → min y z ≡ 0 → min (max x y) z ≡ 0
least_both x y z e h = omega arith

or_apart : (a b c : ℕ) → bit_and (bit_or a b) c ≡ 0 → (bit_and a c ≡ 0) × (bit_and b c ≡ 0)
or_apart a b c e =
    let h : (i : ℕ) → min (max (bit_at a i) (bit_at b i)) (bit_at c i) ≡ 0 = λ i. ap (λ n. min n (bit_at c i)) (sym (bit_at_or a b i)) ∙ apart_bits (bit_or a b) c e i in
    (bits_apart a c (λ i. least _ _ _ (h i)), bits_apart b c (λ i. least_other _ _ _ (h i)))

apart_or : (a b c : ℕ) → bit_and a c ≡ 0 → bit_and b c ≡ 0 → bit_and (bit_or a b) c ≡ 0
apart_or a b c e h = bits_apart (bit_or a b) c (λ i. ap (λ n. min n (bit_at c i)) (bit_at_or a b i) ∙ least_both _ _ _ (apart_bits a c e i) (apart_bits b c h i))

pub union_apart : (pmus : List PmuLine) (own : ℕ) → bit_and (union_of pmus) own ≡ 0 → All (λ q. bit_and q.cpus.0 own ≡ 0) pmus
union_apart [] own e = λ k d l. absurd (omega arith)
union_apart (p ∷ pmus) own e =
    let h = or_apart p.cpus.0 (union_of pmus) own e in
    All-cons (λ (q : PmuLine). bit_and q.cpus.0 own ≡ 0) p pmus h.0 (union_apart pmus own h.1)

pub apart_union : (pmus : List PmuLine) (own : ℕ) → All (λ q. bit_and q.cpus.0 own ≡ 0) pmus → bit_and (union_of pmus) own ≡ 0
apart_union [] own h = bits_apart 0 own (λ i. let z = bit_at-zero i in omega (arith, z))
apart_union (p ∷ pmus) own h = apart_or p.cpus.0 (union_of pmus) own (All-head (λ (q : PmuLine). bit_and q.cpus.0 own ≡ 0) p pmus h) (apart_union pmus own (All-tail (λ (q : PmuLine). bit_and q.cpus.0 own ≡ 0) p pmus h))

or_assoc : (a b c : ℕ) → bit_or a (bit_or b c) ≡ bit_or (bit_or a b) c
or_assoc a b c = same_from_bits _ _ (λ i. omega (arith, bit_at_or a (bit_or b c) i, bit_at_or b c i, bit_at_or (bit_or a b) c i, bit_at_or a b i))

pub union_push : (pmus : List PmuLine) (p : PmuLine) → union_of (pmus ++ p ∷ []) ≡ bit_or (union_of pmus) p.cpus.0
union_push [] p = or_comm p.cpus.0 0
union_push (q ∷ pmus) p = ap (bit_or q.cpus.0) (union_push pmus p) ∙ or_assoc q.cpus.0 (union_of pmus) p.cpus.0

either_bit : (x y : ℕ) → x < 2 → y < 2 → max x y ≡ 1 → (x ≡ 1) ⊎ (y ≡ 1)
either_bit x y l m e = elim (cases_lt x 1) [
  | inl none ↦ inr (omega arith)
  | inr one ↦ inl (omega arith)
]

later : {P : PmuLine → Type 0} (p : PmuLine) (pmus : List PmuLine) → Any P pmus → Any P (p ∷ pmus)
later p pmus a = (suc a.0, a.1, omega (arith, a.2), a.3, a.4)

pub covered_any : (pmus : List PmuLine) (cpu : CpuNo) → HasCpu (record { 0 = union_of pmus }) cpu → Any (λ p. HasCpu p.cpus cpu) pmus
covered_any [] cpu h = let z = bit_at-zero cpu.0 in absurd (omega (arith, z, h))
covered_any (p ∷ pmus) cpu h =
    let e : max (bit_at p.cpus.0 cpu.0) (bit_at (union_of pmus) cpu.0) ≡ 1 = sym (bit_at_or p.cpus.0 (union_of pmus) cpu.0) ∙ h in
    elim (either_bit _ _ (bit_at-lt p.cpus.0 cpu.0) (bit_at-lt (union_of pmus) cpu.0) e) [
      | inl here ↦ (0, p, omega arith, refl, here)
      | inr there ↦ later p pmus (covered_any pmus cpu there)
    ]

any_index : (pmus : List PmuLine) (cpu : CpuNo) (k : ℕ) (x : PmuLine) → k < length pmus → get_or pmus k x ≡ x → HasCpu x.cpus cpu → HasCpu (record { 0 = union_of pmus }) cpu
any_index [] cpu k x l e h = absurd (omega (arith, l))
any_index (p ∷ pmus) cpu zero x l e h = grind (arith, bit_at_or, bit_at-lt)
any_index (p ∷ pmus) cpu (suc k) x l e h = grind (arith, bit_at_or, bit_at-lt, any_index pmus cpu k x (omega arith) e h)

pub any_covered : (pmus : List PmuLine) (cpu : CpuNo) → Any (λ p. HasCpu p.cpus cpu) pmus → HasCpu (record { 0 = union_of pmus }) cpu
any_covered pmus cpu a = any_index pmus cpu a.0 a.1 a.2 a.3 a.4
