-- A new end that sends keeps what its fields are to keep.
use Rattle.std.proofs.Common.{◌≡◌, ℕ, ◌*◌, ◌/◌, ◌<◌, ◌≤◌, List, [], length, replicate, sym, subst, arith}
use Rattle.std.proofs.{lemmas.List.{length-replicate, get_or-replicate, Elements.{All-nil}}, Math.Pow.{pow_mono}}
use Rattle.perf_base.specs.Scripts.{IsRingSize}
use Rattle.sample_ring.specs.Outs.{AreMarks, HoldsOut}
use Rattle.ring_words.{specs.Ends.{Ring, ProducerEnd, new_producer, IsSoundProducer}, proofs.Prefixes.{whole_nothing, stop_at_start}}
use Rattle.ring_words.proofs.Sizes.{least_bytes, bytes_of_cells}

most_bytes : (bytes : ℕ) → IsRingSize bytes → bytes ≤ 65536
most_bytes bytes size = let P : ℕ → Type 0 = λ n. n ≤ 65536 in subst P (sym size.3) (pow_mono size.2)

marks_new : (n : ℕ) → 0 < n → AreMarks (replicate n 0) [] 0
marks_new n some =
    let zeros : List ℕ = replicate n 0 in
    grind (arith, length, zeros, length-replicate, whole_nothing, get_or-replicate, stop_at_start)

holds_fresh : (ring : Ring) → IsRingSize ring.bytes → IsSoundProducer (new_producer ring) → HoldsOut (new_producer ring) (record { head = 0; tail = 0; lost = 0; pending = 0 }) (replicate (ring.bytes / 8) 0)
holds_fresh ring size sound =
    let least : 64 ≤ ring.bytes = least_bytes ring.bytes size in
    let most : ring.bytes ≤ 65536 = most_bytes ring.bytes size in
    let eighths : 8 * (ring.bytes / 8) ≡ ring.bytes = bytes_of_cells ring.bytes size in
    let zeros : List ℕ = replicate (ring.bytes / 8) 0 in
    grind (arith, length, zeros, length-replicate, eighths, most, All-nil, marks_new, least)

pub holds_new : (p : ProducerEnd) (marks : List ℕ) → IsRingSize p.ring.bytes → p ≡ new_producer p.ring → IsSoundProducer p → marks ≡ replicate (p.ring.bytes / 8) 0
    → HoldsOut p (record { head = 0; tail = 0; lost = 0; pending = 0 }) marks
holds_new p marks size new sound are =
    let P : ProducerEnd → List ℕ → Type 0 = λ q l. HoldsOut q (record { head = 0; tail = 0; lost = 0; pending = 0 }) l in
    subst (P p) (sym are) (subst (λ (q : ProducerEnd). P q (replicate (p.ring.bytes / 8) 0)) (sym new) (holds_fresh p.ring size (subst IsSoundProducer new sound)))
