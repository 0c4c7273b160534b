-- Records have lawful sizes, so a ring gets few words, and a whole prefix of them ends at a record.
use Rattle.std.specs.Prelude.{◌≡◌, ℕ, zero, suc, ◌+◌, ◌-◌, ◌*◌, ◌≤◌, ◌==◌, nat_le, bit_and, Bool, true, false, All, List, [], ◌∷◌, ◌++◌, length, map, take, filter, fold, flat_map, min, sum, sum_by, Option, Some, None, cond, if◌then◌else◌}
use Rattle.std.{specs.List.{concat}, proofs.{Common.{arith, refl, sym, ap, ◌∙◌, get_or}, Math.Seq.{take-append-add}}}
use Rattle.std.proofs.lemmas.List.{length-append, length-take, get_or-take, Concat.{flat_map-append}}
use Rattle.std.proofs.lemmas.List.{Elements.{All-append, All-cons, All-nil, All-tail}, Sums.{length-filter, count_by-le-length, sum_by-cons}}
use Rattle.perf_base.specs.declared.{numbers.{CpuNo.{CpuNo}, RingNo.{RingNo}}, lines.{CpuLine.{CpuLine}, Work.{Work}}}
use Rattle.perf_base.specs.declared.lines.CpuLine.TheVariants as cpu_line
use Rattle.stage_spec.specs.{declared.instance.Instance.{Instance}, Hardware.{Hardware}, Stage.{Stage, original_of}, Verdict.{on_instances}}
use Rattle.stage_spec.{specs.{History.{Step, CpuStep, ToolStep, SeenStep, stage_after}, Remainders.{remainder_of}}, proofs.Each.{Each, append-Each, replicate-Each}}
use Rattle.ring_spec.specs.{declared.fields.Fields.{Fields}, Whole.{IsBlock, size_field}}
use Rattle.ring_spec.specs.Records.{Record, Sample, Lost, field, body_of, trailer_of, record_words, words_of, record_size, IsRecord, EndsAtRecord, PrefixLaw}
use Rattle.ring_spec.specs.Sending.{SentSample, fields_of, has_trailer, trailer_if, sent_of, to_ring, sent_by_family, overflows_by, sent_by_line, sent_by_step, sent_after, sent_by_steps, clock_of}
use Rattle.ring_spec.specs.Account.{RingEvent, Sends, Looks, Account, account, empty_account, ring_step, send, told_before, sample_of, records_for, written_to, lost_to, need_of, room_of, is_sent}
use Rattle.ring_spec.specs.Rings.{is_to, sends_to, looks_at, events_by, events_from, events_of, account_of, SizesLaw, RingWordsLaw, WholeLookLaw}
use Rattle.ring_spec.proofs.{Cutting.{back, block-of}, Rings.{sends_law}}

-- a field has at most one word, so a body has at most 8 and a trailer at most 6
pub field-short : (bit sample word : ℕ) → length (field bit sample word) ≤ 1
field-short bit sample word = one (bit_and sample bit == 0)
  where
    one : (b : Bool) → length (if b then [] else word ∷ []) ≤ 1
    one true = omega arith
    one false = omega arith

and_field : (xs : List ℕ) (n : ℕ) → length xs ≤ n → (bit sample word : ℕ) → length (xs ++ field bit sample word) ≤ n + 1
and_field xs n h bit sample word = omega (arith, h, field-short bit sample word, length-append xs (field bit sample word))

pub body-short : (sample : ℕ) (f : Fields) → length (body_of sample f) ≤ 8
body-short sample f = grind (arith, and_field)

trailer-short : (sample : ℕ) (f : Fields) → length (trailer_of sample f) ≤ 6
trailer-short sample f = grind (arith, and_field)

-- the records that a step sends
abbrev pub IsSized : SentSample → Type 0
IsSized sent = (length sent.body ≤ 8) × (length sent.trailer ≤ 6)

pub trailer_if-short : (b : Bool) (sample : ℕ) (f : Fields) → length (trailer_if b sample f) ≤ 6
trailer_if-short true sample f = trailer-short sample f
trailer_if-short false sample f = omega arith

sized : (original : Instance) (w : Work) (i : Instance) (f : Fields) → IsSized (sent_of original w i f)
sized original w i f = (body-short i.attr.sample f, trailer_if-short (has_trailer original.attr) original.attr.sample (record f { stream_id = original.id }))

abbrev pub AreSized : List (RingNo × SentSample) → Type 0
AreSized sents = Each (λ (sent : RingNo × SentSample). IsSized sent.1) sents

to_ring-sized : (ring : Option RingNo) (n : ℕ) (sent : SentSample) → IsSized sent → AreSized (to_ring ring n sent)
unfolding Each
to_ring-sized None n sent h = tt
to_ring-sized (Some ring) n sent h = replicate-Each (λ (sent : RingNo × SentSample). IsSized sent.1) n (ring, sent) h

family-sized : (original : Option Instance) (s : Stage) (cpu : CpuNo) (w : Work) (clock count : ℕ) (i : Instance) → AreSized (sent_by_family original s cpu w clock count i)
unfolding Each
family-sized None s cpu w clock count i = tt
family-sized (Some original) s cpu w clock count i = to_ring-sized original.ring count (sent_of original w i (fields_of s cpu w clock original.id i)) (sized original w i (fields_of s cpu w clock original.id i))

pub work-sized : (s : Stage) (left : ℕ → ℕ) (clock : ℕ) (cpu : CpuNo) (w : Work) (instances : List Instance)
    → AreSized (flat_map (λ i. sent_by_family (original_of s i.event) s cpu w clock (overflows_by w (left i.id) i) i) instances)
unfolding Each
work-sized s left clock cpu w [] = tt
work-sized s left clock cpu w (i ∷ instances) = grind (arith, append-Each, family-sized, work-sized s left clock cpu w instances)

line-sized : (hw : Hardware) (s : Stage) (left : ℕ → ℕ) (clock : ℕ) (cpu : CpuNo) (line : CpuLine) → AreSized (sent_by_line hw s left clock cpu line)
unfolding Each
line-sized hw s left clock cpu (cpu_line.Switch to) = tt
line-sized hw s left clock cpu (cpu_line.Work w) = work-sized s left (clock + w.length) cpu w (on_instances hw s cpu)
line-sized hw s left clock cpu cpu_line.Tick = tt
line-sized hw s left clock cpu (cpu_line.Fork child) = tt
line-sized hw s left clock cpu cpu_line.Exit = tt

step-sized : (hw : Hardware) (s : Stage) (left : ℕ → ℕ) (clock : CpuNo → ℕ) (x : Step) → AreSized (sent_by_step hw s left clock x)
unfolding Each
step-sized hw s left clock (CpuStep cpu line) = line-sized hw s left (clock cpu) cpu line
step-sized hw s left clock (ToolStep line) = tt
step-sized hw s left clock (SeenStep ring place) = tt

-- the events of a ring
abbrev IsSizedEvent : RingEvent → Type 0
IsSizedEvent (Sends sent) = IsSized sent
IsSizedEvent (Looks place) = Unit {0}

looks-sized : (ring : RingNo) (x : Step) → Each IsSizedEvent (looks_at ring x)
unfolding Each
looks-sized ring (CpuStep cpu line) = tt
looks-sized ring (ToolStep line) = tt
looks-sized ring (SeenStep other place) = one (other.0 == ring.0)
  where
    one : (b : Bool) → Each IsSizedEvent (if b then Looks place ∷ [] else [])
    one true = (tt, tt)
    one false = tt

sends-sized : (ring : RingNo) (sents : List (RingNo × SentSample)) → AreSized sents → Each IsSizedEvent (sends_to ring sents)
unfolding Each
sends-sized ring [] h = tt
sends-sized ring (sent ∷ sents) h = one (is_to ring sent) (sends-sized ring sents h.1)
  where
    one : (b : Bool) → Each IsSizedEvent (sends_to ring sents)
        → Each IsSizedEvent (map (λ (s : RingNo × SentSample). Sends s.1) (cond b (sent ∷ filter (is_to ring) sents) (filter (is_to ring) sents)))
    one true rest = (h.0, rest)
    one false rest = rest

events-sized : (hw : Hardware) (s : Stage) (ring : RingNo) (before steps : List Step) → Each IsSizedEvent (events_from hw s ring before steps)
unfolding events_from sent_after Each
events-sized hw s ring before [] = tt
events-sized hw s ring before (x ∷ steps) =
    let sents : List (RingNo × SentSample) = sent_by_step hw (stage_after hw s before) (remainder_of hw s before) (clock_of before) x in
    append-Each IsSizedEvent (events_by x sents ring) (events_from hw s ring (before ++ x ∷ []) steps)
    (append-Each IsSizedEvent (looks_at ring x) (sends_to ring sents) (looks-sized ring x) (sends-sized ring sents (step-sized hw (stage_after hw s before) (remainder_of hw s before) (clock_of before) x)))
    (events-sized hw s ring (before ++ x ∷ []) steps)

-- what is written for a record that is sent: lawful, at most 9 words, and 9 more where some were lost
abbrev told : ℕ → ℕ
told pending = 9 * min 1 pending

record AreFew (pending : ℕ) (records : List Record) : Type 0 where
  pub lawful : All IsRecord records
  pub words : length (words_of records) ≤ 9 + told pending

for_sent : (pending : ℕ) (sent : SentSample) → IsSized sent → AreFew pending (told_before pending sent ++ sample_of sent ∷ [])
for_sent zero sent h = record { lawful = All-cons IsRecord (sample_of sent) [] h.0 (All-nil IsRecord); words = omega (arith, h.0, length-append sent.body []) }
for_sent (suc n) sent h = grind (arith, All-cons, All-nil, length-append)

-- Losses that are not told yet keep room for the record that tells them.
record AccountFew (a : Account) (sends : ℕ) : Type 0 where
  pub lawful : All IsRecord a.written
  pub words : length (words_of a.written) + told a.pending ≤ 9 * sends

send-few : (bytes : ℕ) (a : Account) (sent : SentSample) (n : ℕ) → IsSized sent → AccountFew a n → AccountFew (send bytes a sent) (n + 1)
send-few bytes a sent n h k = one (nat_le (need_of a sent) (room_of bytes a))
  where
    one : (b : Bool) → AccountFew (elim b as (λ x. Account) [ true ↦ written_to a sent | false ↦ lost_to a sent ]) (n + 1)
    one true =
        let few : AreFew a.pending (records_for a sent) = for_sent a.pending sent h in
        record {
          lawful = All-append IsRecord a.written (records_for a sent) k.lawful few.lawful;
          words = omega (arith, few.words, k.words, ap length (flat_map-append record_words a.written (records_for a sent)), length-append (words_of a.written) (words_of (records_for a sent)));
        }
    one false = record { lawful = k.lawful; words = omega (arith, k.words) }

over-few : (bytes : ℕ) (a : Account) (n : ℕ) (events : List RingEvent) → Each IsSizedEvent events → AccountFew a n → AccountFew (fold (ring_step bytes) a events) (n + length (filter is_sent events))
unfolding Each
over-few bytes a n [] h k = record { lawful = k.lawful; words = omega (arith, k.words) }
over-few bytes a n (Looks place ∷ events) h k = over-few bytes (record a { tail = place }) n events h.1 (record { lawful = k.lawful; words = k.words })
over-few bytes a n (Sends sent ∷ events) h k =
    let rest : AccountFew (fold (ring_step bytes) (send bytes a sent) events) ((n + 1) + length (filter is_sent events)) = over-few bytes (send bytes a sent) (n + 1) events h.1 (send-few bytes a sent n h.0 k) in
    record { lawful = rest.lawful; words = omega (arith, rest.words) }

length-mapped : {X Y : Type 0} (f : X → Y) (xs : List X) → length (map f xs) ≡ length xs
length-mapped f [] = refl
length-mapped f (x ∷ xs) = ap suc (length-mapped f xs)

written-few : (hw : Hardware) (s : Stage) (steps : List Step) (ring : RingNo × ℕ) → AccountFew (account_of hw s steps ring) (length (sent_by_steps hw s steps))
unfolding account_of account events_of
written-few hw s steps ring =
    let events : List RingEvent = events_from hw s ring.0 [] steps in
    let k : AccountFew (fold (ring_step ring.1) empty_account events) (0 + length (filter is_sent events)) =
    over-few ring.1 empty_account 0 events (events-sized hw s ring.0 [] steps) (record { lawful = All-nil IsRecord; words = omega arith }) in
    let sends : length (filter is_sent events) ≡ length (filter (is_to ring.0) (sent_by_steps hw s steps)) = search (sends_law, length-mapped) in
    record { lawful = k.lawful; words = omega (arith, k.words, sends, length-filter (is_to ring.0) (sent_by_steps hw s steps), count_by-le-length (is_to ring.0) (sent_by_steps hw s steps)) }

pub sizes_law : SizesLaw
sizes_law hw s steps ring = (written-few hw s steps ring).lawful

pub ring_words_law : RingWordsLaw
ring_words_law hw s steps ring = omega (arith, (written-few hw s steps ring).words)

-- a whole prefix ends at a record
same_length : (r : Record) (x : ℕ) (xs : List ℕ) → IsRecord r → IsBlock (x ∷ xs) → x ≡ get_or (record_words r) 0 0 → length (x ∷ xs) ≡ length (record_words r)
same_length (Sample m b) x xs h k e = omega (arith, k, block-of (Sample m b) h, ap size_field e)
same_length (Lost id lost trailer) x xs h k e = omega (arith, k, block-of (Lost id lost trailer) h, ap size_field e)

first_word : (r : Record) (more : List ℕ) → get_or (record_words r ++ more) 0 0 ≡ get_or (record_words r) 0 0
first_word (Sample m b) more = refl
first_word (Lost id lost trailer) more = refl

record HasPlace (records : List Record) (words : List ℕ) : Type 0 where
  pub few : ℕ
  pub cut : words ≡ words_of (take few records)

none_taken : (n : ℕ) → HasPlace [] (take n [])
none_taken zero = record { few = 0; cut = refl }
none_taken (suc n) = record { few = 0; cut = refl }

cut-at : (blocks : List (List ℕ)) (records : List Record) (n : ℕ) → All IsBlock blocks → All IsRecord records → concat blocks ≡ take n (words_of records) → HasPlace records (take n (words_of records))
cut-at [] records n h k e = record { few = 0; cut = sym e }
cut-at (b ∷ blocks) [] n h k e = none_taken n
cut-at ([] ∷ blocks) (r ∷ records) n h k e = absurd (h 0 [] (omega arith))
cut-at ((x ∷ xs) ∷ blocks) (r ∷ records) n h k e =
    let m : ℕ = length (record_words r) in
    let more : List ℕ = words_of records in
    let taken : length (take n (record_words r ++ more)) ≡ suc (length xs) + length (concat blocks) = sym (ap length e) ∙ length-append (x ∷ xs) (concat blocks) in
    let some : length (take n (record_words r ++ more)) ≤ n = omega (arith, length-take n (record_words r ++ more)) in
    let first : x ≡ get_or (record_words r) 0 0 = ap (λ l. get_or l 0 0) e ∙ (get_or-take n (record_words r ++ more) 0 0 (omega (arith, taken, some)) ∙ first_word r more) in
    let same : length (x ∷ xs) ≡ m = same_length r x xs (k 0 r (omega arith)) (h 0 (x ∷ xs) (omega arith)) first in
    let parts : n ≡ m + (n - m) = omega (arith, taken, some, same) in
    let cut : take n (record_words r ++ more) ≡ record_words r ++ take (n - m) more = ap (λ j. take j (record_words r ++ more)) parts ∙ take-append-add (record_words r) more (n - m) in
    let rest : HasPlace records (take (n - m) more) =
    cut-at blocks records (n - m) (All-tail IsBlock (x ∷ xs) blocks h) (All-tail IsRecord r records k) (back (x ∷ xs) (record_words r) (concat blocks) (take (n - m) more) same (e ∙ cut)) in
    record { few = suc rest.few; cut = cut ∙ ap (λ ws. record_words r ++ ws) rest.cut }

pub sum_from : (a : ℕ) (xs : List ℕ) → fold ◌+◌ a xs ≡ a + sum xs
sum_from a [] = omega arith
sum_from a (x ∷ xs) = sum_from (a + x) xs ∙ omega (arith, sum_from (0 + x) xs)

sizes-are : (records : List Record) (k : ℕ) → 8 * length (words_of (take k records)) ≡ sum (take k (map record_size records))
sizes-are [] zero = refl
sizes-are [] (suc k) = refl
sizes-are (r ∷ records) zero = refl
sizes-are (r ∷ records) (suc k) =
    omega (arith, sizes-are records k, length-append (record_words r) (words_of (take k records)), sum_from (0 + record_size r) (take k (map record_size records)))

-- the size of records is that of their words
pub size-words : (records : List Record) → sum_by record_size records ≡ 8 * length (words_of records)
size-words [] = refl
size-words (r ∷ records) = omega (arith, size-words records, sum_by-cons record_size r records, length-append (record_words r) (words_of records))

pub prefix_law : PrefixLaw
prefix_law records n h whole =
    let found : HasPlace records (take n (words_of records)) = cut-at whole.0 records n whole.1 h whole.2 in
    record { few = found.few; cut = found.cut; place = ap (λ (l : List ℕ). 8 * length l) found.cut ∙ sizes-are records found.few }

pub whole_look_law : WholeLookLaw
whole_look_law hw s steps ring last n whole above =
    let records : List Record = (account_of hw s steps ring).written in
    let ends : EndsAtRecord records (take n (words_of records)) = prefix_law records n (sizes_law hw s steps ring) whole in
    record { above = above; behind = (ends.few, ends.place) }
