-- There is space for the records of the next line of work.
use Rattle.std.specs.Prelude.{◌≡◌, ℕ, ◌+◌, ◌*◌, ◌^◌, ◌<◌, ◌≤◌, true, All, List, [], ◌∷◌, filter, length, slice_index_or}
use Rattle.std.proofs.{Common.{arith, sym, ap, subst, ◌∙◌, inl}, lemmas.{Nat.{mul-le}, List.{length-map}}}
use Rattle.std.proofs.lemmas.List.{Elements.{All-cons, All-head, All-map, All-nil, All-tail, All-weaker}, Sums.{count_by-le-length, length-filter}}
use Rattle.perf_base.specs.declared.{acts.Act.{Act}, numbers.{EventNo.{EventNo}, Key.{Key}, RingNo.{RingNo}}}
use Rattle.perf_base.specs.{Scripts.{Scripted, IsCovered, IsRingLine, IsScript}, Weight.{weight}}
use Rattle.perf_base.proofs.Limits.{ring_bytes}
use Rattle.stage_spec.specs.{Hardware.{Hardware, hardware_of}, History.{Step, history, opening_stage}, Stage.{Stage, is_open}}
use Rattle.ring_spec.specs.{Account.{RingEvent, Sends, head_of, is_sent}, Rings.{account_in, account_of, events_of, is_to}}
use Rattle.ring_spec.{specs.{Running.{RingAccount, Running, record_of}, Sending.{SentSample, sent_by_steps}}, proofs.Conserved.{sent_law}}
use Rattle.ring_spec.proofs.{Rings.{sends_law}, Running.{in_account}}
use Rattle.ring_laws.proofs.{Losses.{few_lost_of_script, heads}, Orders.{few_of_script}}
use Rattle.ring_words.specs.Ends.{head_place}
use Rattle.sample_ring.specs.{OutEnds.{OutEnd}, RingLists.{OutList}}
use Rattle.world_spec.{specs.{Kept.{IsKept}, StageOf.{stage_of}, Value.{World, is_live, instance_at}}, proofs.Families.{open-is}}
use Rattle.world_spec.proofs.Staying.{origin-is}
use Rattle.work_account.specs.{Ends.{AreAccounts, IsAccountOf}, Sampling.{HasInstance, sent_by}}
use Rattle.machine.{specs.Left.{IsLeft, SpaceLaw}, proofs.{RingsThere.{recorded}, Shown.{shown}, Sent.{few-sent}}}
use Rattle.machine.proofs.Roomy.{slot-open}

-- A ring's account is small: its head and its losses by the weight of the script, its size by the limit on sizes.
record IsSmall (s : Scripted) (a : RingAccount) : Type 0 where
  head : head_of a.account ≤ 72 * weight s
  lost : length a.account.lost ≤ weight s
  bytes : a.bytes ≤ 65536

ring-lost : (hw : Hardware) (s : Stage) (steps : List Step) (ring : RingNo × ℕ) → length (account_of hw s steps ring).lost ≤ length (sent_by_steps hw s steps)
unfolding account_of
ring-lost hw s steps ring =
    let events : List RingEvent = events_of hw s steps ring.0 in
    let sents : List (RingNo × SentSample) = filter (is_to ring.0) (sent_by_steps hw s steps) in
    let sends : length (filter is_sent events) ≡ length sents = ap length (sends_law hw s steps ring.0) ∙ length-map sents (λ (sent : RingNo × SentSample). Sends sent.1) in
    omega (arith, sends, sent_law ring.1 events, length-filter is_sent events, length-filter (is_to ring.0) (sent_by_steps hw s steps), count_by-le-length (is_to ring.0) (sent_by_steps hw s steps))

rings-small : (s : Scripted) (acts : List Act) → IsScript s → IsCovered s → All (IsSmall s) (record_of (hardware_of s) (opening_stage s) s.rings (history s acts)).rings
rings-small s acts script covered =
    let its-account : RingNo × ℕ → RingAccount = in_account (account_in s acts) in
    subst (All (IsSmall s)) (sym (recorded s acts).rings)
    (All-map (IsSmall s) its-account s.rings (All-weaker IsRingLine (λ ring. IsSmall s (its-account ring)) (λ ring its. record {
      head = heads s acts ring script covered;
      lost = omega (arith, ring-lost (hardware_of s) (opening_stage s) (history s acts) ring, few_of_script s acts script covered);
      bytes = ring_bytes ring its;
    }) s.rings script.rings))

-- so many records move its head and its count of losses no further than there is space
abbrev HasSpace : ℕ → OutEnd → Type 0
HasSpace count o = (head_place o.producer + count * o.producer.ring.bytes < 2 ^ 63) × (o.lost + count < 2 ^ 63)

end-space : (s : Scripted) (count : ℕ) (n : RingNo) (o : OutEnd) (a : RingAccount) → weight s ≤ 65536 → count ≤ weight s → IsAccountOf n o a → IsSmall s a → HasSpace count o
end-space s count n o a light few h small = grind (arith, mul-le, shown)

ends-space : (s : Scripted) (count : ℕ) (numbers : List RingNo) (outs : List OutEnd) (accounts : List RingAccount) → weight s ≤ 65536 → count ≤ weight s
    → AreAccounts numbers outs accounts → All (IsSmall s) accounts → All (HasSpace count) outs
ends-space s count [] [] [] light few h small = All-nil (HasSpace count)
ends-space s count [] [] (a ∷ accounts) light few h small = absurd h
ends-space s count [] (o ∷ outs) accounts light few h small = absurd h
ends-space s count (n ∷ numbers) [] accounts light few h small = absurd h
ends-space s count (n ∷ numbers) (o ∷ outs) [] light few h small = absurd h
ends-space s count (n ∷ numbers) (o ∷ outs) (a ∷ accounts) light few h small =
    search (All-cons, end-space, All-head, All-tail, ends-space s count numbers outs accounts light few h.1 (All-tail (IsSmall s) a accounts small))

-- the slot of an event that is there is open, and lost few records
slot-lost : (s : Scripted) (acts : List Act) (w : World) (outs : OutList) (slot : ℕ) → IsScript s → IsCovered s → IsKept w.hardware w → IsLeft s acts w outs → HasInstance w slot
    → slice_index_or w.lost slot 0 ≤ weight s
slot-lost s acts w outs slot script covered kept left has =
    let e : EventNo = (instance_at w has.0).event in
    omega (
      arith,
      ap (λ (n : ℕ). slice_index_or w.lost n 0) has.2,
      left.agrees.lost e (inl (slot-open w.hardware w has.0 kept has.1)),
      (recorded s acts).lost e,
      few_lost_of_script s acts e script covered,
    )

pub space : SpaceLaw
space s acts w outs cpu work script covered light kept left step =
    let r : Running = record_of (hardware_of s) (opening_stage s) s.rings (history s acts) in
    let count : ℕ = length (sent_by w r.left cpu work) in
    let few : count ≤ weight s = few-sent s acts w outs cpu work script covered left step in
    let ends : All (HasSpace count) outs.outs = ends-space s count outs.numbers outs.outs r.rings light few left.ends.each (rings-small s acts script covered) in
    record {
      left = r.left;
      are_left = left.agrees.left;
      space = record {
        heads = λ k d inside. (ends k d inside).0;
        losses = λ k d inside. (ends k d inside).1;
        lost = λ slot has. omega (arith, slot-lost s acts w outs slot script covered kept left has, light, few);
      };
    }
