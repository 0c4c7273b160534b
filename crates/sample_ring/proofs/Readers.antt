-- What a reader has whose words are the first of those published, and whose store has room for all of these.
use Rattle.std.proofs.Common.{◌≡◌, ℕ, ◌+◌, ◌*◌, ◌/◌, ◌<◌, ◌≤◌, List, [], ◌∷◌, ◌++◌, Option, Some, None, inl, inr, length, take, drop, length-take-le, lt_of_not-le, refl, sym, ap, ◌∙◌, subst, arith}
use Rattle.std.proofs.{Math.{Decide.{dec_le}, Logic.{dite}}, lemmas.List.{take-append-drop, take_all}}
use mathlib.Core.List.{IsPrefix}
use Rattle.ring_spec.specs.Whole.{size_field, IsWhole}
use Rattle.ring_words.{specs.Ends.{IsStop}, proofs.Prefixes.{take-prefix}}
use Rattle.perf_base.proofs.Prefixes.{prefix_through}
use Rattle.sample_ring.specs.{OutEnds.{OutEnd, IsSoundOut}, InEnds.{InEnd, AreRecords, kept_words, IsDry, IsSoundIn, Reads, Passes}}
use Rattle.sample_ring.{specs.Taking.{TakesOne, with_tail}, proofs.Takes.{taken_words, whole_words}}
use Rattle.sample_ring.proofs.Blocks.{records_more, within_whole, begins_within}

pub record Follows (i : InEnd) (published : List ℕ) : Type 0 where
  pub sound : IsSoundIn i
  pub prefix : IsPrefix i.consumer.taken published
  pub whole : IsWhole published
  pub room : length published ≤ i.room

-- so it is where the two ends met
pub follows_met : (o met : OutEnd) (i : InEnd) (tail loads : ℕ) → IsSoundIn i → IsSoundOut met → met ≡ with_tail o tail loads → IsPrefix i.consumer.taken o.producer.published
    → length o.producer.published ≤ i.room → Follows i o.producer.published
follows_met o met i tail loads sound sound_met is prefix room = record {
  sound = sound;
  prefix = prefix;
  whole = subst IsWhole (ap (λ (x : OutEnd). x.producer.published) is) sound_met.producer.whole;
  room = room;
}

module _ (i : InEnd) (published : List ℕ) (f : Follows i published) where
  -- no first word of a record that passes the room is published
  none_passes : (first : ℕ) → i.kept ≡ Some first → ⊥
  none_passes first kept =
      let taken : i.consumer.taken ≡ i.words ++ first ∷ [] = f.sound.taken ∙ ap (λ (k : Option ℕ). i.words ++ kept_words k) kept in
      let within : 8 * length i.words + size_field first ≤ 8 * length published = begins_within i.words published first (whole_words i f.sound) f.whole (subst (λ (l : List ℕ). IsPrefix l published) taken f.prefix) in
      let passes : Passes i first = f.sound.kept first kept in
      absurd (omega (arith, within, passes, f.room))

  none_other : (k : Option ℕ) → i.kept ≡ k → i.kept ≡ None
  none_other None e = e
  none_other (Some first) e = absurd (none_passes first e)

  pub none_kept : i.kept ≡ None
  none_kept = none_other i.kept refl

  pub words_first : IsPrefix i.words published
  words_first = subst (λ (l : List ℕ). IsPrefix l published) (taken_words i f.sound none_kept) f.prefix

  -- where no further record is taken, all words are
  pub all_taken : IsDry i → 8 * length published ≤ i.consumer.last_head → i.words ≡ published
  all_taken (inl none) head = sym (take-prefix i.words published words_first) ∙ take_all (length i.words) published (omega (arith, none.place, head))
  all_taken (inr passing) head = absurd (none_passes passing.first passing.kept)

-- what a reader has taken that was to take one record, where one was published behind its words
module _ (i j : InEnd) (published : List ℕ) (n : ℕ) (sound : IsSoundIn i) (f : Follows j published) (reads : Reads i j) (records : j.records ≡ i.records + n) where
  words_before : IsPrefix i.words published
  words_before = prefix_through i.words j.words published reads.words (words_first j published f)

  one_taken : n ≤ 1 → (n < 1 → IsDry j) → 8 * length published ≤ j.consumer.last_head → length i.words < length published → n ≡ 1
  one_taken most fewer head more =
      dite (dec_le 1 n)
      (λ (one : 1 ≤ n). omega (arith, one, most))
      (λ none.
      let all : j.words ≡ published = all_taken j published f (fewer (lt_of_not-le none)) head in
      let back : length j.words + i.records ≤ length i.words + j.records = records_more j.words i.words published j.records i.records f.sound.records sound.records (words_first j published f) words_before (omega (arith, records, lt_of_not-le none)) in
      absurd (omega (arith, back, ap length all, more, records, lt_of_not-le none)))

  pub takes_one : (head loads : ℕ) → n ≤ 1 → (n < 1 → IsDry j) → 8 * length published ≤ j.consumer.last_head → length i.words < length published → j.consumer.released ≡ length j.words
      → TakesOne i (record j { consumer = record j.consumer { last_head = head; loads = loads } }) published
  takes_one head loads most fewer seen more released =
      let one : n ≡ 1 = one_taken most fewer seen more in record {
        reader = record { kept = none_kept j published f; words = refl; released = released };
        records = records ∙ ap (λ (k : ℕ). i.records + k) one;
        words = words_first j published f;
        longer = omega (arith, one, records, records_more i.words j.words published i.records j.records sound.records f.sound.records words_before (words_first j published f) reads.records);
      }

-- one record more does not pass a place at which a record ends
pub one_within : (i j : InEnd) (published : List ℕ) (place : ℕ) → IsSoundIn i → IsSoundIn j → IsPrefix i.words published → TakesOne i j published → IsStop published place
    → 8 * length i.words < place → 8 * length j.words ≤ place
one_within i j published place s t first takes stop more =
    let before : List ℕ = take (place / 8) published in
    let long : length before ≡ place / 8 = length-take-le (place / 8) published (omega (arith, stop.within)) in
    let next : AreRecords j.words (i.records + 1) = subst (AreRecords j.words) takes.records t.records in
    let within : length j.words ≤ length before = within_whole i.words j.words before published i.records s.records next stop.whole first takes.words (drop (place / 8) published, take-append-drop (place / 8) published) (omega (arith, long, more, stop.of_words)) in
    omega (arith, within, long)
