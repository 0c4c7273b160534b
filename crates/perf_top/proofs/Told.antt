-- What the rings of a replay came to is what the definitions say.
use Rattle.std.{specs.Prelude.{◌≡◌, ℕ, All, List, [], ◌∷◌, length, map}, proofs.Common.{arith, ap, subst, ◌∙◌}}
use Rattle.std.proofs.lemmas.List.Elements.{All-head, All-tail}
use Rattle.perf_base.specs.{declared.{acts.Act.{Act}, numbers.RingNo.{RingNo}}, Scripts.{Scripted, IsScript}}
use Rattle.stage_spec.specs.{Hardware.{hardware_of}, History.{history, opening_stage}}
use Rattle.ring_spec.{specs.{Records.{words_of}, Rings.{account_in, bytes_of}}, proofs.Sizes.{sizes_law}}
use Rattle.sample_ring.specs.RingLists.{InList}
use Rattle.run_end.specs.{declared.ended.RingEnd.{RingEnd}, Ended.{words_in}}
use Rattle.machine.specs.Readers.{HasTaken, HaveTaken, IsShown}
use Rattle.perf_book.proofs.{Declared.{IsDeclared, all-declared}, Taken.{first-is, others-are}}
use Rattle.report.specs.Told.{AreTold, IsTold}
use Rattle.report_spec.specs.Report.{rings_after}

-- the numbers and the words of one ring
told-one : (s : Scripted) (order : List Act) (ins : InList) (e : RingEnd) (r : RingNo × ℕ) → e.ring ≡ r.0 → IsDeclared s r → IsShown e.numbers (account_in s order (e.ring, bytes_of s e.ring))
    → HasTaken s order ins r.0 → IsTold e.numbers (words_in ins e.ring) (account_in s order r)
told-one s order ins e r same bytes shown taken =
    let own : account_in s order (e.ring, bytes_of s e.ring) ≡ account_in s order r = (λ i. account_in s order (same i, bytes_of s (same i))) ∙ ap (λ n. account_in s order (r.0, n)) bytes in
    let shows : IsShown e.numbers (account_in s order r) = subst (IsShown e.numbers) own shown in
    record {
      head = shows.head;
      tail = shows.tail;
      lost = shows.lost;
      pending = shows.pending;
      lawful = sizes_law (hardware_of s) (opening_stage s) (history s order) r;
      written = ap (words_in ins) same ∙ (taken.words ∙ ap (λ n. words_of (account_in s order (r.0, n)).written) bytes);
    }

told-each : (s : Scripted) (order : List Act) (ins : InList) (ends : List RingEnd) (rings : List (RingNo × ℕ)) → map (λ (e : RingEnd). e.ring) ends ≡ map (λ (r : RingNo × ℕ). r.0) rings
    → All (IsDeclared s) rings → All (λ (e : RingEnd). IsShown e.numbers (account_in s order (e.ring, bytes_of s e.ring))) ends → All (λ (r : RingNo × ℕ). HasTaken s order ins r.0) rings
    → AreTold (map (λ (e : RingEnd). (e.ring, e.numbers, words_in ins e.ring)) ends) (map (λ (r : RingNo × ℕ). (r.0, account_in s order r)) rings)
told-each s order ins [] [] same bytes shown taken = tt
told-each s order ins [] (r ∷ rings) same bytes shown taken = absurd (omega (arith, ap length same))
told-each s order ins (e ∷ ends) [] same bytes shown taken = absurd (omega (arith, ap length same))
told-each s order ins (e ∷ ends) (r ∷ rings) same bytes shown taken =
    let numbers : List RingNo = map (λ (x : RingEnd). x.ring) ends in
    let others : List RingNo = map (λ (q : RingNo × ℕ). q.0) rings in
    let here : e.ring ≡ r.0 = first-is e.ring r.0 numbers others same in (
      here,
      told-one s order ins e r here (All-head (IsDeclared s) r rings bytes) (All-head (λ (x : RingEnd). IsShown x.numbers (account_in s order (x.ring, bytes_of s x.ring))) e ends shown)
          (All-head (λ (q : RingNo × ℕ). HasTaken s order ins q.0) r rings taken),
      told-each s order ins ends rings (others-are e.ring r.0 numbers others same) (All-tail (IsDeclared s) r rings bytes)
          (All-tail (λ (x : RingEnd). IsShown x.numbers (account_in s order (x.ring, bytes_of s x.ring))) e ends shown) (All-tail (λ (q : RingNo × ℕ). HasTaken s order ins q.0) r rings taken),
    )

pub are-told : (s : Scripted) (order : List Act) (ins : InList) (ends : List RingEnd) → IsScript s → map (λ (e : RingEnd). e.ring) ends ≡ map (λ (r : RingNo × ℕ). r.0) s.rings
    → All (λ (e : RingEnd). IsShown e.numbers (account_in s order (e.ring, bytes_of s e.ring))) ends → HaveTaken s order ins
    → AreTold (map (λ (e : RingEnd). (e.ring, e.numbers, words_in ins e.ring)) ends) (rings_after s order)
are-told s order ins ends h same shown taken = told-each s order ins ends s.rings same (all-declared s h) shown taken
