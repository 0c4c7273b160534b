-- The two ends of each ring, place by place.
use Rattle.std.{specs.Prelude.{◌≡◌, ℕ, List, Option, Some, slice_get, slice_set}, proofs.Common.{sym, ap, subst, ◌∙◌, inl, inr}}
use Rattle.std.proofs.lemmas.{Bool.{cases_eq}, Option.{same_Some}}
use Rattle.perf_base.specs.declared.numbers.RingNo.{RingNo}
use Rattle.sample_ring.specs.{InEnds.{InEnd}, OutEnds.{OutEnd}, RingLists.{InList, OutList, ring_index}}
use Rattle.machine.proofs.Places.{set-here, set-other}

-- Each end that sends has a reader at its place, to which it stands in a relation.
abbrev pub ArePaired : (OutEnd → InEnd → Type 0) → List OutEnd → List (Option InEnd) → Type 0
ArePaired R outs readers = (place : ℕ) (o : OutEnd) → slice_get outs place ≡ Some o → (i : InEnd) × (slice_get readers place ≡ Some (Some i)) × R o i

-- the end and the reader of a ring
pub paired-at : (R : OutEnd → InEnd → Type 0) (outs : OutList) (ins : InList) (ring : RingNo) (o : OutEnd) (i : InEnd) → ins.numbers ≡ outs.numbers → ArePaired R outs.outs ins.readers
    → slice_get outs.outs (ring_index outs.numbers ring) ≡ Some o → slice_get ins.readers (ring_index ins.numbers ring) ≡ Some (Some i) → R o i
paired-at R outs ins ring o i numbers h at reader =
    let found : slice_get ins.readers (ring_index outs.numbers ring) ≡ Some (Some i) = ap (λ n. slice_get ins.readers (ring_index n ring)) (sym numbers) ∙ reader in
    let there = h (ring_index outs.numbers ring) o at in
    subst (R o) (same_Some there.0 i (same_Some (Some there.0) (Some i) (sym there.1 ∙ found))) there.2

-- both are replaced by two that stand to each other so too
pub paired-set : (R : OutEnd → InEnd → Type 0) (outs : List OutEnd) (readers : List (Option InEnd)) (place : ℕ) (o p : OutEnd) (i j : InEnd) → ArePaired R outs readers
    → slice_get outs place ≡ Some o → slice_get readers place ≡ Some (Some i) → R p j → ArePaired R (slice_set outs place p) (slice_set readers place (Some j))
paired-set R outs readers place o p i j h at reader both other q found = elim (cases_eq other place) [
  | inl e ↦
      let is : p ≡ q = same_Some p q (sym (set-here outs place o p at) ∙ (ap (slice_get (slice_set outs place p)) (sym e) ∙ found)) in
      (j, ap (slice_get (slice_set readers place (Some j))) e ∙ set-here readers place (Some i) (Some j) reader, subst (λ x. R x j) is both)
  | inr off ↦
      let before = h other q (sym (set-other outs place other p off) ∙ found) in
      (before.0, set-other readers place other (Some j) off ∙ before.1, before.2)
]
