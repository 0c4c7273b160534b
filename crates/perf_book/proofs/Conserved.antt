-- Over each order of a script records are conserved on each ring.
use Rattle.std.{specs.Prelude.{◌≡◌, ℕ, List, count_by, filter, length}, proofs.{Common.{arith, ap, ◌∙◌}, lemmas.List.{length-map}}}
use Rattle.std.proofs.lemmas.List.Sums.{length-filter}
use Rattle.perf_base.specs.{declared.{acts.Act.{Act}, numbers.RingNo.{RingNo}}, Scripts.{Scripted}}
use Rattle.stage_spec.specs.{Hardware.{Hardware}, History.{Step}, Stage.{Stage}}
use Rattle.ring_spec.specs.{Account.{Sends, is_sent}, Rings.{account_of, events_of, is_to}, Sending.{SentSample, sent_by_steps}}
use Rattle.ring_spec.proofs.{Conserved.{sent_law, told_law}, Rings.{sends_law}}
use Rattle.perf_book.specs.Conserved.{IsConserved}

-- the records that are sent to a ring
sent-to : (hw : Hardware) (s : Stage) (steps : List Step) (ring : RingNo) → count_by (is_to ring) (sent_by_steps hw s steps) ≡ count_by is_sent (events_of hw s steps ring)
sent-to hw s steps ring =
    let sents : List (RingNo × SentSample) = filter (is_to ring) (sent_by_steps hw s steps) in
    let sends : length (filter is_sent (events_of hw s steps ring)) ≡ length sents = ap length (sends_law hw s steps ring) ∙ length-map sents (λ (sent : RingNo × SentSample). Sends sent.1) in
    omega (arith, sends, length-filter is_sent (events_of hw s steps ring), length-filter (is_to ring) (sent_by_steps hw s steps))

pub conserved : (s : Scripted) (order : List Act) (ring : RingNo × ℕ) → IsConserved s order ring
unfolding account_of
conserved s order ring = grind (arith, sent-to, sent_law, told_law)
