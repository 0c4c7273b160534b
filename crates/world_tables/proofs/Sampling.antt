-- How many events sample at a place after one came, went or was written, and that there is one where their number is
-- not 0.
use Rattle.std.specs.Prelude.{◌≡◌, ◌≢◌, ℕ, ◌+◌, ◌-◌, ◌<◌, ◌≤◌, ◌==◌, Bool, true, false, not, ◌&&◌, List, [], ◌∷◌, length, replicate, count_by, Option, Some, None, is_some, slice_index_or, slice_set, if◌then◌else◌}
use Rattle.std.proofs.Common.{arith, refl, sym, ap, subst, ◌∙◌, inl, inr, zero, suc}
use Rattle.std.proofs.lemmas.Bool.{cases_eq, cases_lt, cases_Bool, false≢true, and_parts, Decides.{nat_tests}}
use Rattle.std.proofs.{lemmas.List.{get_or_past, get_or-set_same, get_or-set_other, length-set}, Math.Seq.{set_out}}
use Rattle.slab.specs.Slab.{Slab, Updates, slab_len, get as slab_get}
use Rattle.stage_laws.proofs.Counts.{count-cons, one_place}
use Rattle.world_spec.{specs.Kept.{once_if}, proofs.Keys.{once-true, once-false}}
use Rattle.perf_base.specs.declared.standing.Context.{Context}
use Rattle.stage_spec.specs.{declared.instance.Instance.{Instance}, Stage.{place_of}}
use Rattle.world_tables.specs.{Rows.{Kept}, Samplers.{is_sampler, samples_at, AreCounted, with_event, without_event}}

-- lists of slots that show the same at each key, and that do so but for one
module _ (p : Option Kept → Bool) (none : p None ≡ false) where
  same-count : (a b : List (Option Kept)) → ((i : ℕ) → slice_index_or a i None ≡ slice_index_or b i None) → count_by p a ≡ count_by p b
  same-count [] [] same = refl
  same-count [] (y ∷ b) same =
      omega (arith, count-cons p y b, once-false (p y) (ap p (sym (same 0)) ∙ none), same-count [] b (λ i. same (suc i)))
  same-count (x ∷ a) [] same =
      omega (arith, count-cons p x a, once-false (p x) (ap p (same 0) ∙ none), same-count a [] (λ i. same (suc i)))
  same-count (x ∷ a) (y ∷ b) same =
      omega (arith, count-cons p x a, count-cons p y b, ap (λ o. once_if (p o)) (same 0), same-count a b (λ i. same (suc i)))

  emptied : (xs : List (Option Kept)) (i : ℕ) → slice_index_or (slice_set xs i None) i None ≡ None
  emptied xs i = elim (cases_lt i (length xs)) [
    | inl low ↦ get_or-set_same xs i None None low
    | inr past ↦ ap (λ (l : List (Option Kept)). slice_index_or l i None) (set_out xs i None past) ∙ get_or_past xs i None past
  ]

  pub count-updated : (s after : Slab Kept) (k : ℕ) (o : Option Kept) → Updates s after k o
      → count_by p after.slots + once_if (p (slab_get s k)) ≡ count_by p s.slots + once_if (p o)
  count-updated s after k o up =
      let others : count_by p (slice_set s.slots k None) ≡ count_by p (slice_set after.slots k None) =
      same-count (slice_set s.slots k None) (slice_set after.slots k None) (λ i. elim (cases_eq i k) [
        | inl same ↦
            subst (λ (n : ℕ). slice_index_or (slice_set s.slots k None) n None ≡ slice_index_or (slice_set after.slots k None) n None) (sym same)
            (emptied s.slots k ∙ sym (emptied after.slots k))
        | inr apart ↦
            get_or-set_other s.slots k i None None apart ∙ (sym (up.others i apart) ∙ sym (get_or-set_other after.slots k i None None apart))
      ]) in
      omega (
        arith,
        others,
        one_place (λ x. once_if (p x)) None (once-false (p None) none) s.slots k,
        one_place (λ x. once_if (p x)) None (once-false (p None) none) after.slots k,
        ap (λ x. once_if (p x)) up.changed,
      )

  pub count-there : (xs : List (Option Kept)) (i : ℕ) → p (slice_index_or xs i None) ≡ true → 1 ≤ count_by p xs
  count-there xs i is =
      omega (arith, one_place (λ x. once_if (p x)) None (once-false (p None) none) xs i, once-true (p (slice_index_or xs i None)) is)

pub count-some : (p : Option Kept → Bool) (xs : List (Option Kept)) → 1 ≤ count_by p xs → (i : ℕ) × (p (slice_index_or xs i None) ≡ true)
count-some p [] some = absurd (omega (arith, some))
count-some p (x ∷ xs) some = elim (cases_Bool (p x)) [
  | inl e ↦ (0, e)
  | inr e ↦ let rest = count-some p xs (omega (arith, some, count-cons p x xs, once-false (p x) e)) in (suc rest.0, rest.1)
]

-- there are no more of them than events
pub count-few : (place : ℕ) (xs : List (Option Kept)) → count_by (samples_at place) xs ≤ count_by is_some xs
count-few place [] = omega arith
count-few place (None ∷ xs) = omega (arith, count-cons (samples_at place) None xs, count-cons is_some None xs, count-few place xs)
count-few place (Some e ∷ xs) =
    let p : Bool = samples_at place (Some e) in
    elim (cases_Bool p) [
      | inl is ↦ omega (arith, count-cons (samples_at place) (Some e) xs, count-cons is_some (Some e) xs, once-true p is, count-few place xs)
      | inr not ↦ omega (arith, count-cons (samples_at place) (Some e) xs, count-cons is_some (Some e) xs, once-false p not, count-few place xs)
    ]

-- one number of a list is one more, or one less
same-place : (at place : ℕ) → place ≡ at → (at == place) ≡ true
same-place at place same = grind (arith, nat_tests, same)

other-place : (at place : ℕ) → place ≢ at → (at == place) ≡ false
other-place at place apart = grind (arith, nat_tests, apart)

no-and : (b : Bool) → once_if (b && false) ≡ 0
no-and true = refl
no-and false = refl

and-once : (a : Bool) (n : ℕ) → once_if a ≡ n → once_if (a && true) ≡ n
and-once true n h = h
and-once false n h = h

one-more : (b : Bool) (counts : List ℕ) (at place : ℕ) → length counts ≡ 72 → place < 72
    → slice_index_or (if b then slice_set counts at (slice_index_or counts at 0 + 1) else counts) place 0 ≡ slice_index_or counts place 0 + once_if (at == place && b)
one-more false counts at place size low = omega (arith, no-and (at == place))
one-more true counts at place size low =
    grind (arith, nat_tests, get_or-set_same, and-once, once-true, same-place, get_or-set_other, once-false, other-place)

one-less : (b : Bool) (counts : List ℕ) (at place : ℕ) → length counts ≡ 72 → place < 72 → (b ≡ true → at < 72 → 1 ≤ slice_index_or counts at 0)
    → slice_index_or (if b then slice_set counts at (slice_index_or counts at 0 - 1) else counts) place 0 + once_if (at == place && b) ≡ slice_index_or counts place 0
one-less false counts at place size low some = omega (arith, no-and (at == place))
one-less true counts at place size low some =
    grind (arith, nat_tests, get_or-set_same, and-once, once-true, same-place, get_or-set_other, once-false, other-place)

resized : (b : Bool) (counts : List ℕ) (at n : ℕ) → length (if b then slice_set counts at n else counts) ≡ length counts
resized true counts at n = length-set counts at n
resized false counts at n = refl

-- an event comes, is written, and goes
module _ (counts : List ℕ) (s after : Slab Kept) (k : ℕ) (e : Kept) (counted : AreCounted counts s) where
  abbrev i : Instance
  i = e.entry.instance

  abbrev at : ℕ
  at = place_of e.entry.context

  pub counted-comes : slab_get s k ≡ None → Updates s after k (Some e) → AreCounted (with_event e.entry.instance e.entry.context counts) after
  counted-comes was up = record {
    places = resized (is_sampler i) counts at (slice_index_or counts at 0 + 1) ∙ counted.places;
    each = λ place low.
        omega (
          arith,
          counted.each place low,
          count-updated (samples_at place) refl s after k (Some e) up,
          ap (λ o. once_if (samples_at place o)) was,
          one-more (is_sampler i) counts at place counted.places low,
        );
  }

  pub counted-written : (r : Kept) → slab_get s k ≡ Some r → Updates s after k (Some e) → ((place : ℕ) → samples_at place (Some e) ≡ samples_at place (Some r)) → AreCounted counts after
  counted-written r was up same = record {
    places = counted.places;
    each = λ place low.
        omega (
          arith,
          counted.each place low,
          count-updated (samples_at place) refl s after k (Some e) up,
          ap (λ o. once_if (samples_at place o)) was,
          ap once_if (same place),
        );
  }

  pub counted-some : slab_get s k ≡ Some e → is_sampler e.entry.instance ≡ true → place_of e.entry.context < 72 → 1 ≤ slice_index_or counts (place_of e.entry.context) 0
  counted-some was is low =
      let here : samples_at at (slab_get s k) ≡ true = ap (samples_at at) was ∙ (ap (λ b. b && is_sampler i) (same-place at at refl) ∙ is) in
      omega (arith, counted.each at low, count-there (samples_at at) refl s.slots k here)

  pub counted-goes : slab_get s k ≡ Some e → Updates s after k None → AreCounted (without_event e.entry.instance e.entry.context counts) after
  counted-goes was up = record {
    places = resized (is_sampler i) counts at (slice_index_or counts at 0 - 1) ∙ counted.places;
    each = λ place low.
        omega (
          arith,
          counted.each place low,
          count-updated (samples_at place) refl s after k None up,
          ap (λ o. once_if (samples_at place o)) was,
          one-less (is_sampler i) counts at place counted.places low (counted-some was),
        );
  }

-- whether it samples, by its period
pub sampler-is : (i : Instance) → i.attr.period ≢ 0 → is_sampler i ≡ true
sampler-is i some = grind (arith, nat_tests)

sampler-some : (i : Instance) → is_sampler i ≡ true → i.attr.period ≢ 0
sampler-some i is none = let zero : (i.attr.period == 0) ≡ true = grind (arith, nat_tests, none) in false≢true (sym (ap not zero) ∙ is)

pub sampler-kept : (place : ℕ) (o : Option Kept) → samples_at place o ≡ true
    → (e : Kept) × (o ≡ Some e) × (place_of e.entry.context ≡ place) × (e.entry.instance.attr.period ≢ 0)
sampler-kept place None bad = absurd (cc)
sampler-kept place (Some e) is =
    let both = and_parts (place_of e.entry.context == place) (is_sampler e.entry.instance) is in
    (e, refl, grind (arith, nat_tests, both.0), sampler-some e.entry.instance both.1)

pub sampler-at : (place : ℕ) (e : Kept) → place_of e.entry.context ≡ place → e.entry.instance.attr.period ≢ 0 → samples_at place (Some e) ≡ true
sampler-at place e here some = grind (arith, nat_tests, same-place, sampler-is)

pub sampler-at-same : (place : ℕ) (r : Kept) (i : Instance) → r.entry.instance.attr.period ≢ 0 → i.attr.period ≢ 0
    → (place_of r.entry.context == place && is_sampler i) ≡ samples_at place (Some r)
sampler-at-same place r i some still = ap (λ b. place_of r.entry.context == place && b) (sampler-is i still ∙ sym (sampler-is r.entry.instance some))

-- none at first
abbrev none-yet : ℕ → List ℕ
none-yet n = replicate n 0

none-counted : (n place : ℕ) → slice_index_or (none-yet n) place 0 ≡ 0
none-counted zero place = refl
none-counted (suc n) zero = refl
none-counted (suc n) (suc place) = none-counted n place

pub counted-none : (counts : List ℕ) (s : Slab Kept) → counts ≡ replicate 72 0 → s.slots ≡ [] → AreCounted counts s
counted-none counts s none empty = record {
  places = ap (λ (l : List ℕ). length l) none;
  each = λ place low.
      ap (λ (l : List ℕ). slice_index_or l place 0) none ∙ (none-counted 72 place ∙ sym (ap (λ (l : List (Option Kept)). count_by (samples_at place) l) empty));
}

-- there is room for one more
pub counted-room : (counts : List ℕ) (s : Slab Kept) (c : Context) → AreCounted counts s → slab_len s < 4352 → slice_index_or counts (place_of c) 0 < 4352
counted-room counts s c counted room = elim (cases_lt (place_of c) 72) [
  | inl low ↦ omega (arith, counted.each (place_of c) low, count-few (place_of c) s.slots, room)
  | inr past ↦ omega (arith, get_or_past counts (place_of c) 0 (omega (arith, counted.places, past)))
]
