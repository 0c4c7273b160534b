-- What a send leaves: words of records behind those published, and one more send in the account.
use Rattle.std.proofs.Common.{◌≡◌, ℕ, zero, suc, ◌+◌, ◌<◌, ◌≤◌, Bool, true, false, List, [], ◌∷◌, ◌++◌, All, length, take, drop, sum_by, refl, sym, ap, ◌∙◌, subst, append-nil, length-append, arith}
use Rattle.std.proofs.lemmas.List.{Concat.{flat_map-cons, flat_map-append}, Elements.{All-append, All-cons, All-nil}}
use Rattle.std.proofs.{lemmas.{List.Sums.{sum_by-cons, sum_by-append}, Bool.{le-leb, leb-false, leb-true, lt-leb}}, Math.Seq.{take-append_seam}}
use Rattle.ring_spec.specs.{Whole.{IsWhole}, Records.{Record, Lost, IsRecord, record_words, record_size, words_of}, Sending.{SentSample}}
use Rattle.ring_spec.{specs.Account.{Account, sample_of, told_before, send}, proofs.{Cutting.{whole_law}, Sizes.{size-words}}}
use Rattle.ring_spec.specs.Account as account
use Rattle.ring_words.specs.Ends.{ProducerEnd, head_place, room_of, IsSoundProducer}
use Rattle.sample_ring.{proofs.Marks.{marks_later}, specs.{declared.sent.RingNumbers.{RingNumbers}, OutEnds.{OutEnd, HasAccount, AreOfRecords}}}
use Rattle.sample_ring.specs.Outs.{AreMarks, HoldsOut}
use Rattle.sample_ring.specs.Sends.{Request, request_of, told_where, records_for, need_for, with_published, with_records, written_to, lost_to, sent_to, fits}

-- the words put for two records are those of both
pub words-both : (n : ℕ) (told sent : Record) → words_of (told_where n told) ++ record_words sent ≡ words_of (told_where n told ++ sent ∷ [])
words-both n told sent =
    ap (λ (l : List ℕ). words_of (told_where n told) ++ l) (sym (append-nil (record_words sent)) ∙ sym (flat_map-cons record_words sent [])) ∙ sym (flat_map-append record_words (told_where n told) (sent ∷ []))

lawful-told : (n : ℕ) (told : Record) → IsRecord told → All IsRecord (told_where n told)
lawful-told zero told h = All-nil IsRecord
lawful-told (suc n) told h = All-cons IsRecord told [] h (All-nil IsRecord)

pub lawful-both : (n : ℕ) (told sent : Record) → IsRecord told → IsRecord sent → All IsRecord (told_where n told ++ sent ∷ [])
lawful-both n told sent a b = All-append IsRecord (told_where n told) (sent ∷ []) (lawful-told n told a) (All-cons IsRecord sent [] b (All-nil IsRecord))

pub whole-both : (n : ℕ) (told sent : Record) → IsRecord told → IsRecord sent → IsWhole (words_of (told_where n told) ++ record_words sent)
whole-both n told sent a b = subst IsWhole (sym (words-both n told sent)) (whole_law (told_where n told ++ sent ∷ []) (lawful-both n told sent a b))

-- words written over the beginning of a list of their length
pub written_over : (xs ys : List ℕ) (n : ℕ) → n ≡ length xs → length ys ≡ length xs → take n (ys ++ drop (length ys) xs) ≡ ys
written_over xs ys n a b = ap (λ (k : ℕ). take k (ys ++ drop (length ys) xs)) (a ∙ sym b) ∙ take-append_seam ys (drop (length ys) xs)

of_records_more : (words : List ℕ) (records : List Record) → AreOfRecords words → All IsRecord records → AreOfRecords (words ++ words_of records)
of_records_more words records r all = (r.0 ++ records, All-append IsRecord r.0 records r.1 all, flat_map-append record_words r.0 records ∙ ap (λ (l : List ℕ). l ++ words_of records) r.2)

-- the fields after records were published
pub holds_published : (p : ProducerEnd) (numbers : RingNumbers) (marks after : List ℕ) (records : List Record) (head : ℕ) → HoldsOut p numbers marks → length after ≡ length marks
    → All IsRecord records → head ≡ numbers.head + sum_by record_size records → IsSoundProducer (with_published p records)
    → AreMarks after (with_published p records).published p.last_tail
    → HoldsOut (with_published p records) (record numbers { head = head; pending = 0 }) after
holds_published p numbers marks after records head h same all at sound noted = record {
  head = omega (arith, at, h.head, size-words records, length-append p.published (words_of records));
  tail = h.tail;
  put = h.put;
  bytes = omega (arith, h.bytes, same);
  small = omega (arith, h.small, same);
  sound = sound;
  records = of_records_more p.published records h.records all;
  pending = omega arith;
  noted = noted;
}

-- the fields after a later tail was seen
pub holds_seen : (p : ProducerEnd) (numbers : RingNumbers) (marks : List ℕ) (tail loads place : ℕ) → HoldsOut p numbers marks → place ≡ tail → p.last_tail ≤ tail
    → IsSoundProducer (record p { last_tail = tail; loads = loads }) → HoldsOut (record p { last_tail = tail; loads = loads }) (record numbers { tail = place }) marks
holds_seen p numbers marks tail loads place h at rises sound = record {
  head = h.head;
  tail = at;
  put = h.put;
  bytes = h.bytes;
  small = h.small;
  sound = sound;
  records = h.records;
  pending = h.pending;
  noted = marks_later marks p.published p.last_tail tail h.noted rises;
}

need_sum : (n : ℕ) (told sent : Record) → sum_by record_size (told_where n told ++ sent ∷ []) ≡ sum_by record_size (told_where n told) + record_size sent
need_sum n told sent = sum_by-append record_size (told_where n told) (sent ∷ []) ∙ omega (arith, sum_by-cons record_size sent [])

-- what a send needs, by the account and by the end
told_same : (n : ℕ) (s : SentSample) → told_before n s ≡ told_where n (Lost s.id n s.trailer)
told_same zero s = refl
told_same (suc n) s = refl

module _ (o : OutEnd) (a : Account) (s : SentSample) (h : HasAccount o a) (put : o.producer.put ≡ []) where
  abbrev bytes : ℕ
  bytes = o.producer.ring.bytes

  records_same : account.records_for a s ≡ records_for o (request_of s)
  records_same = ap (λ (l : List Record). l ++ sample_of s ∷ []) (told_same a.pending s ∙ ap (λ (n : ℕ). told_where n (Lost s.id n s.trailer)) h.pending)

  need_same : account.need_of a s ≡ need_for o (request_of s)
  need_same = ap (sum_by record_size) records_same

  room_same : account.room_of bytes a ≡ room_of o.producer
  room_same = omega (arith, size-words a.written, ap length h.written, h.tail, ap length put)

  pub account_lost : room_of o.producer < need_for o (request_of s) → HasAccount (lost_to o) (send bytes a s)
  account_lost less =
      let P : Bool → Type 0 = λ b. HasAccount (lost_to o) (elim b [ true ↦ account.written_to a s | false ↦ account.lost_to a s ]) in
      subst P (sym (lt-leb (account.need_of a s) (account.room_of bytes a) (omega (arith, need_same, room_same, less)))) (record {
        written = h.written;
        lawful = h.lawful;
        pending = ap (λ (n : ℕ). n + 1) h.pending;
        lost = length-append a.lost (s.event ∷ []) ∙ ap (λ (n : ℕ). n + 1) h.lost;
        tail = h.tail;
      })

  pub account_written : need_for o (request_of s) ≤ room_of o.producer → All IsRecord (records_for o (request_of s)) → HasAccount (written_to o (request_of s)) (send bytes a s)
  account_written enough lawful =
      let P : Bool → Type 0 = λ b. HasAccount (written_to o (request_of s)) (elim b [ true ↦ account.written_to a s | false ↦ account.lost_to a s ]) in
      subst P (sym (le-leb (account.need_of a s) (account.room_of bytes a) (omega (arith, need_same, room_same, enough)))) (record {
        written = flat_map-append record_words a.written (account.records_for a s) ∙ (ap (λ (l : List ℕ). l ++ words_of (account.records_for a s)) h.written ∙ ap (λ (l : List Record). o.producer.published ++ words_of l) records_same);
        lawful = All-append IsRecord a.written (account.records_for a s) h.lawful (subst (All IsRecord) (sym records_same) lawful);
        pending = refl;
        lost = h.lost;
        tail = h.tail;
      })

-- what a send has found: what the LOST record and the record need, and the room
pub record Found (o : OutEnd) (q : Request) (lost : Record) (lost_bytes sent_bytes free : ℕ) : Type 0 where
  pub put : o.producer.put ≡ []
  pub told : lost ≡ Lost q.id o.pending q.trailer
  pub told_size : lost_bytes ≡ sum_by record_size (told_where o.pending lost)
  pub sent_size : sent_bytes ≡ record_size q.sent
  pub room : free ≡ room_of o.producer

pub found : (was o : OutEnd) (q : Request) (lost : Record) (lost_bytes sent_bytes free : ℕ) → was ≡ o → was.producer.put ≡ [] → lost ≡ Lost q.id was.pending q.trailer
    → lost_bytes ≡ sum_by record_size (told_where was.pending lost) → sent_bytes ≡ record_size q.sent → free ≡ room_of o.producer → Found o q lost lost_bytes sent_bytes free
found was o q lost lost_bytes sent_bytes free same put told told_size sent_size room =
    let pending : was.pending ≡ o.pending = ap (λ (x : OutEnd). x.pending) same in record {
      put = ap (λ (x : OutEnd). x.producer.put) (sym same) ∙ put;
      told = told ∙ ap (λ (n : ℕ). Lost q.id n q.trailer) pending;
      told_size = told_size ∙ ap (λ (n : ℕ). sum_by record_size (told_where n lost)) pending;
      sent_size = sent_size;
      room = room;
    }

module _ (o : OutEnd) (q : Request) (lost : Record) (lost_bytes sent_bytes free : ℕ) (f : Found o q lost lost_bytes sent_bytes free) where
  needs : need_for o q ≡ lost_bytes + sent_bytes
  needs = need_sum o.pending (Lost q.id o.pending q.trailer) q.sent ∙ omega (arith, f.sent_size, f.told_size, ap (λ (r : Record). sum_by record_size (told_where o.pending r)) f.told)

  pub after_lost : free < lost_bytes + sent_bytes → (a : Account) (s : SentSample) → HasAccount o a → q ≡ request_of s → HasAccount (lost_to o) (send o.producer.ring.bytes a s)
  after_lost less a s h e = account_lost o a s h f.put (omega (arith, less, f.room, needs, ap (need_for o) e))

  pub after_written : lost_bytes + sent_bytes ≤ free → IsRecord lost → IsRecord q.sent → (a : Account) (s : SentSample) → HasAccount o a → q ≡ request_of s
      → HasAccount (with_records o (told_where o.pending lost ++ q.sent ∷ [])) (send o.producer.ring.bytes a s)
  after_written enough lawful_lost lawful a s h e =
      let same : told_where o.pending lost ++ q.sent ∷ [] ≡ records_for o (request_of s) = ap (λ (r : Record). told_where o.pending r ++ q.sent ∷ []) f.told ∙ ap (records_for o) e in
      let all : All IsRecord (records_for o (request_of s)) = subst (All IsRecord) same (lawful-both o.pending lost q.sent lawful_lost lawful) in
      let done : HasAccount (written_to o (request_of s)) (send o.producer.ring.bytes a s) = account_written o a s h f.put (omega (arith, enough, f.room, needs, ap (need_for o) e)) all in
      subst (λ (l : List Record). HasAccount (with_records o l) (send o.producer.ring.bytes a s)) (sym same) done

-- By the account the head is the end's place, and a send of the end is a send of the account: what callers can say
-- before it.
pub head_same : (o : OutEnd) (a : Account) → HasAccount o a → o.producer.put ≡ [] → account.head_of a ≡ head_place o.producer
head_same o a h put = omega (arith, size-words a.written, ap length h.written, ap length put)

pub account_sent : (o : OutEnd) (a : Account) (s : SentSample) → HasAccount o a → o.producer.put ≡ [] → All IsRecord (records_for o (request_of s)) → HasAccount (sent_to o (request_of s)) (send o.producer.ring.bytes a s)
account_sent o a s h put lawful = one (fits o (request_of s)) refl
  where
    one : (b : Bool) → fits o (request_of s) ≡ b → HasAccount (elim b as (λ _. OutEnd) [ true ↦ written_to o (request_of s) | false ↦ lost_to o ]) (send o.producer.ring.bytes a s)
    one true e = account_written o a s h put (leb-true (need_for o (request_of s)) (room_of o.producer) e) lawful
    one false e = account_lost o a s h put (leb-false (need_for o (request_of s)) (room_of o.producer) e)

-- a send moves the head by less than the ring's size, and loses at most one record
pub head_bounded : (o : OutEnd) (q : Request) → head_place (sent_to o q).producer ≤ head_place o.producer + o.producer.ring.bytes
head_bounded o q = one (fits o q) refl
  where
    one : (b : Bool) → fits o q ≡ b → head_place (elim b as (λ _. OutEnd) [ true ↦ written_to o q | false ↦ lost_to o ]).producer ≤ head_place o.producer + o.producer.ring.bytes
    one true e = omega (arith, leb-true (need_for o q) (room_of o.producer) e, size-words (records_for o q), length-append o.producer.published (words_of (records_for o q)))
    one false e = omega arith

pub lost_bounded : (o : OutEnd) (q : Request) → (sent_to o q).lost ≤ o.lost + 1
lost_bounded o q = one (fits o q)
  where
    one : (b : Bool) → (elim b as (λ _. OutEnd) [ true ↦ written_to o q | false ↦ lost_to o ]).lost ≤ o.lost + 1
    one true = omega arith
    one false = omega arith
