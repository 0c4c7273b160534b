-- A test of whether counters are an assignment, and the answer to SEATS by that test.
use Rattle.std.specs.{Prelude.{◌≢◌, nat_eq}, List.{list_any}}
use Rattle.std.proofs.Common.{◌≡◌, ℕ, zero, suc, ◌<◌, Bool, true, false, not, ◌&&◌, List, [], ◌∷◌, map, length, get_or, refl, ap, arith}
use Rattle.std.proofs.lemmas.Bool.{and_parts, not-true, or_parts, eqb-false}
use Rattle.perf_base.specs.declared.{numbers.{CpuNo.{CpuNo}, EventNo.{EventNo}}, reply.Reply.{Reply}}
use Rattle.perf_base.specs.declared.reply.Reply.TheVariants as reply
use Rattle.stage_spec.specs.{Hardware.{Hardware, mask_of}, Stage.{Stage}, Fits.{can_count, IsAssignment}, Replies.{IsSeats, seated}}
use Rattle.stage_spec.proofs.Fits.{allowed-cons}

-- whether there is a counter for each event, one of its mask that no event behind it has
abbrev pub is_assignment : List ℕ → List ℕ → Bool
is_assignment [] [] = true
is_assignment [] (counter ∷ counters) = false
is_assignment (mask ∷ masks) [] = false
is_assignment (mask ∷ masks) (counter ∷ counters) = can_count mask counter && (not (list_any (nat_eq counter) counters) && is_assignment masks counters)

other : (c : ℕ) (cs : List ℕ) (j : ℕ) → list_any (nat_eq c) cs ≡ false → j < length cs → c ≢ get_or cs j 0
other c [] j none l e = absurd (omega arith)
other c (d ∷ cs) zero none l e = eqb-false c d (or_parts _ _ none).0 e
other c (d ∷ cs) (suc j) none l e = other c cs j (or_parts _ _ none).1 (omega arith) e

different-cons : (c : ℕ) (cs : List ℕ) → list_any (nat_eq c) cs ≡ false → ((i j : ℕ) → i < j → j < length cs → get_or cs i 0 ≢ get_or cs j 0)
    → (i j : ℕ) → i < j → j < length (c ∷ cs) → get_or (c ∷ cs) i 0 ≢ get_or (c ∷ cs) j 0
different-cons c cs h t zero zero l m = absurd (omega arith)
different-cons c cs h t zero (suc j) l m = other c cs j h (omega arith)
different-cons c cs h t (suc i) zero l m = absurd (omega arith)
different-cons c cs h t (suc i) (suc j) l m = t i j (omega arith) (omega arith)

-- where the test passes, the counters are an assignment
pub is_assignment-true : (masks counters : List ℕ) → is_assignment masks counters ≡ true → IsAssignment masks counters
is_assignment-true [] [] h = record { one_each = refl; allowed = λ i l. absurd (omega arith); different = λ i j l m. absurd (omega arith) }
is_assignment-true [] (c ∷ cs) h = absurd (cc)
is_assignment-true (m ∷ ms) [] h = absurd (cc)
is_assignment-true (m ∷ ms) (c ∷ cs) h =
    let p = and_parts (can_count m c) (not (list_any (nat_eq c) cs) && is_assignment ms cs) h in
    let q = and_parts (not (list_any (nat_eq c) cs)) (is_assignment ms cs) p.1 in
    let rest = is_assignment-true ms cs q.1 in
    record {
      one_each = ap suc rest.one_each;
      allowed = allowed-cons m c ms cs p.0 rest.allowed;
      different = different-cons c cs (not-true _ q.0) rest.different;
    }

-- the answer to SEATS by that test: the events that are on, each with a counter
abbrev pub SeatsBy : Hardware → Stage → CpuNo → Reply → Type 0
SeatsBy hw s cpu (reply.Seats seats) = (map (λ seat. seat.0) seats ≡ map (λ i. i.event) (seated hw s cpu))
    × (is_assignment (map (λ i. mask_of hw i.attr.kind) (seated hw s cpu)) (map (λ seat. seat.1) seats) ≡ true)
SeatsBy hw s cpu _ = ⊥

pub seats_by : (hw : Hardware) (s : Stage) (cpu : CpuNo) (r : Reply) → SeatsBy hw s cpu r → (seats : List (EventNo × ℕ)) × (r ≡ reply.Seats seats) × IsSeats hw s cpu seats
seats_by hw s cpu (reply.Seats seats) h =
    (seats, refl, record { events = h.0; counters = is_assignment-true (map (λ i. mask_of hw i.attr.kind) (seated hw s cpu)) (map (λ seat. seat.1) seats) h.1 })
seats_by hw s cpu reply.Ok h = absurd h
seats_by hw s cpu (reply.Refused reason) h = absurd h
seats_by hw s cpu (reply.Read words) h = absurd h
seats_by hw s cpu (reply.Why why) h = absurd h
