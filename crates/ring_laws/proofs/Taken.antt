-- How many records a reader took, and that a ring whose tail was seen last at 0 was never looked at.
use Rattle.std.specs.Prelude.{◌≡◌, ℕ, zero, suc, ◌+◌, ◌*◌, ◌<◌, ◌≤◌, ◌==◌, nat_le, Bool, true, false, All, List, [], ◌∷◌, ◌++◌, length, take, if◌then◌else◌}
use Rattle.std.proofs.{Common.{arith, refl, sym, ap, ◌∙◌, append_assoc, append-nil}, lemmas.Bool.{leb-true, Decides.{nat_tests}}}
use Rattle.std.proofs.lemmas.List.{length-append, Elements.{All-cons, All-nil}, Sums.{fold-append}}
use Rattle.perf_base.specs.declared.{numbers.RingNo.{RingNo}, acts.Act.{Act}}
use Rattle.perf_base.specs.declared.acts.Act.TheVariants as act
use Rattle.stage_spec.specs.Order.{seen_at, last_seen}
use Rattle.ring_spec.specs.{Records.{Record, Sample, Lost, record_words, record_size, words_of}, Account.{Account}, Rings.{account_in}}
use Rattle.report_spec.specs.Answers.{IsRunLook, IsRunShaped, taken_from, IsNoLook}
use Rattle.ring_laws.specs.Taken.{FewTakenLaw, FewTakenOfLaw, NeverSeenLaw}

some_words : (r : Record) → 0 < record_size r
some_words (Sample mode body) = omega arith
some_words (Lost id lost trailer) = omega arith

few-from : (tail place n : ℕ) (records : List Record) → tail ≤ place + 8 * length (words_of (take n records)) → length (taken_from tail place records) ≤ n
unfolding taken_from
few-from tail place n [] h = omega arith
few-from tail place zero (r ∷ records) h = one (nat_le (place + record_size r) tail) refl
  where
    one : (b : Bool) → nat_le (place + record_size r) tail ≡ b → length (elim b as (λ x. List Record) [ true ↦ r ∷ taken_from tail (place + record_size r) records | false ↦ [] ]) ≤ 0
    one true e = absurd (omega (arith, h, leb-true (place + record_size r) tail e, some_words r))
    one false e = omega arith
few-from tail place (suc n) (r ∷ records) h =
    one (nat_le (place + record_size r) tail) (few-from tail (place + record_size r) n records (omega (arith, h, length-append (record_words r) (words_of (take n records)))))
  where
    one : (b : Bool) → length (taken_from tail (place + record_size r) records) ≤ n
        → length (elim b as (λ x. List Record) [ true ↦ r ∷ taken_from tail (place + record_size r) records | false ↦ [] ]) ≤ suc n
    one true rest = omega (arith, rest)
    one false rest = omega arith

pub few-taken : FewTakenLaw
few-taken records n tail h = few-from tail 0 n records (omega (arith, h))

pub few-taken-of : FewTakenOfLaw
few-taken-of s order ring n h = let a : Account = account_in s order ring in few-taken a.written n a.tail h

-- A run-shaped order sees a ring's tail rise.
seen-more : (ring : RingNo) (before : List Act) (a : Act) → last_seen ring (before ++ a ∷ []) ≡ seen_at ring (last_seen ring before) a
seen-more ring before a = fold-append (seen_at ring) 0 before (a ∷ [])

seen-rises : (order before after : List Act) (ring : RingNo) (a : Act) → IsRunShaped order → order ≡ before ++ a ∷ after
    → last_seen ring before ≤ seen_at ring (last_seen ring before) a
seen-rises order before after ring (act.Processor cpu) shaped e = omega arith
seen-rises order before after ring (act.Tool tool) shaped e = omega arith
seen-rises order before after ring (act.Seen other place) shaped e = one (other.0 == ring.0) refl
  where
    look : IsRunLook before after other place
    look = shaped before after (act.Seen other place) e

    one : (b : Bool) → (other.0 == ring.0) ≡ b → last_seen ring before ≤ (if b then place else last_seen ring before)
    one true same =
        let number : other.0 ≡ ring.0 = grind (arith, nat_tests, same) in
        omega (arith, look.above, ap (λ n. last_seen (record { 0 = n }) before) number)
    one false same = omega arith

seen-most : (order before acts : List Act) (ring : RingNo) → IsRunShaped order → order ≡ before ++ acts → last_seen ring before ≤ last_seen ring order
seen-most order before [] ring shaped e = omega (arith, ap (last_seen ring) (e ∙ append-nil before))
seen-most order before (a ∷ acts) ring shaped e =
    omega (
      arith,
      seen-rises order before acts ring a shaped e,
      seen-more ring before a,
      seen-most order (before ++ a ∷ []) acts ring shaped (e ∙ sym (append_assoc before (a ∷ []) acts)),
    )

no-look : (order before after : List Act) (ring : RingNo) (a : Act) → IsRunShaped order → last_seen ring order ≡ 0 → order ≡ before ++ a ∷ after → IsNoLook ring a
no-look order before after ring (act.Processor cpu) shaped none e = tt
no-look order before after ring (act.Tool tool) shaped none e = tt
no-look order before after ring (act.Seen other place) shaped none e = λ same.
    let look : IsRunLook before after other place = shaped before after (act.Seen other place) e in
    let here : (other.0 == ring.0) ≡ true = grind (arith, nat_tests, same) in
    let seen : last_seen ring (before ++ act.Seen other place ∷ []) ≡ place = seen-more ring before (act.Seen other place) ∙ rw here refl in
    let most = seen-most order (before ++ act.Seen other place ∷ []) after ring shaped (e ∙ sym (append_assoc before (act.Seen other place ∷ []) after)) in
    omega (arith, look.above, seen, most, none)

none-from : (order before acts : List Act) (ring : RingNo) → IsRunShaped order → last_seen ring order ≡ 0 → order ≡ before ++ acts → All (IsNoLook ring) acts
none-from order before [] ring shaped none e = All-nil (IsNoLook ring)
none-from order before (a ∷ acts) ring shaped none e =
    All-cons (IsNoLook ring) a acts (no-look order before acts ring a shaped none e)
    (none-from order (before ++ a ∷ []) acts ring shaped none (e ∙ sym (append_assoc before (a ∷ []) acts)))

pub never-seen : NeverSeenLaw
never-seen order ring shaped none = none-from order [] order ring shaped none refl
