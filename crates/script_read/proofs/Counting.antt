-- How often each kind of a work line occurs, one occurrence after the other.
use Rattle.std.proofs.Common.{◌≡◌, ◌≢◌, ℕ, zero, suc, ◌+◌, ◌-◌, ◌<◌, ◌≤◌, ◌||◌, Bool, true, false, All, AllPairs, MatchBool, List, [], ◌∷◌, ◌++◌, map, length, length-append, get_or, set, Option, Some, None, inl, inr, refl, sym, ap, subst, ◌∙◌, append_assoc, arith}
use Rattle.std.proofs.lemmas.{Slice.Eq.{bytes_eq-Decides}, Bool.{cases_Bool, cases_lt, false_from_ne_true}, List.{append-nil, get_or-map, get_or_append_left, length-map}}
use Rattle.std.proofs.lemmas.List.{Quantifiers.{position-Some, all_pairs_push}, Elements.{All-nil, All-cons, All-head, All-tail, All-push}}
use Rattle.std.specs.{Prelude.{replicate, Any}, Str.{bytes_eq}}
use Rattle.perf_base.specs.declared.lines.KindLine.{KindLine}
use Rattle.perf_base.specs.declared.reasons.SReason.{SReason}
use Rattle.perf_base.specs.declared.reasons.SReason.TheVariants as reason
use Rattle.script_spec.specs.Forms as form
use Rattle.script_spec.specs.{Forms.{Hit, Working}, Faults.{IsAmount}, Meaning.{number_of, times_of, occurrences}}
use Rattle.script_read.specs.{Names.{AreKindsIn}, Lines.{stands_in, IsNamedOnce, AreCounted, RefusesHits, RefusesCpuForm}}
use Rattle.script_read.proofs.Called.{any_at, declared_none}

-- ---- an occurrence behind others

same_bytes : (a b : List ℕ) → a ≡ b → bytes_eq a b ≡ true
same_bytes a b e = (bytes_eq-Decides a b).1 e

other_bytes : (a b : List ℕ) → (a ≡ b → ⊥) → bytes_eq a b ≡ false
other_bytes a b n = false_from_ne_true (bytes_eq a b) (λ t. n ((bytes_eq-Decides a b).0 t))

stands_push : (hits : List Hit) (h : Hit) (n : List ℕ) → h.name ≡ n → stands_in (hits ++ h ∷ []) n ≡ true
stands_push [] h n e = rw (same_bytes h.name n e) refl
stands_push (g ∷ hits) h n e = elim (cases_Bool (bytes_eq g.name n)) [
  | inl t ↦ rw t refl
  | inr f ↦ rw f (stands_push hits h n e)
]

stands_kept : (hits : List Hit) (h : Hit) (n : List ℕ) → (h.name ≡ n → ⊥) → stands_in (hits ++ h ∷ []) n ≡ stands_in hits n
stands_kept [] h n o = rw (other_bytes h.name n o) refl
stands_kept (g ∷ hits) h n o = ap (λ b. bytes_eq g.name n || b) (stands_kept hits h n o)

times_push : (hits : List Hit) (h : Hit) (n : List ℕ) → h.name ≡ n → stands_in hits n ≡ false → times_of (hits ++ h ∷ []) n ≡ h.times
times_push [] h n e none = rw (same_bytes h.name n e) refl
times_push (g ∷ hits) h n e none = elim (cases_Bool (bytes_eq g.name n)) [
  | inl t ↦ let both : true ≡ false = (rw t at none) in absurd cc
  | inr f ↦ rw f (times_push hits h n e (rw f at none))
]

times_kept : (hits : List Hit) (h : Hit) (n : List ℕ) → (h.name ≡ n → ⊥) → times_of (hits ++ h ∷ []) n ≡ times_of hits n
times_kept [] h n o = rw (other_bytes h.name n o) refl
times_kept (g ∷ hits) h n o = rw (times_kept hits h n o) refl

stands_none : (hits : List Hit) (n : List ℕ) → stands_in hits n ≡ false → All (λ h. h.name ≢ n) hits
stands_none [] n none = All-nil (λ h. h.name ≢ n)
stands_none (g ∷ hits) n none = elim (cases_Bool (bytes_eq g.name n)) [
  | inl t ↦ let both : true ≡ false = (rw t at none) in absurd cc
  | inr f ↦ All-cons (λ h. h.name ≢ n) g hits (λ e. let t = same_bytes g.name n e in absurd cc) (stands_none hits n (rw f at none))
]

stands_some : (hits : List Hit) (n : List ℕ) → stands_in hits n ≡ true → All (λ h. h.name ≢ n) hits → ⊥
stands_some [] n some all = absurd cc
stands_some (g ∷ hits) n some all = elim (cases_Bool (bytes_eq g.name n)) [
  | inl t ↦ All-head (λ h. h.name ≢ n) g hits all ((bytes_eq-Decides g.name n).0 t)
  | inr f ↦ stands_some hits n (rw f at some) (All-tail (λ h. h.name ≢ n) g hits all)
]

-- ---- a table by the kinds' numbers

abbrev by_kind : {A : Type 0} → (KindLine → A) → List KindLine → List A → List A
by_kind f kinds behind = map f kinds ++ behind

same_map : {A : Type 0} (f g : KindLine → A) (kinds : List KindLine) → ((j : ℕ) (d : KindLine) → j < length kinds → g (get_or kinds j d) ≡ f (get_or kinds j d)) → map f kinds ≡ map g kinds
same_map f g [] same = refl
same_map {A} f g (x ∷ kinds) same =
    ap (λ (y : A). y ∷ map f kinds) (sym (same 0 x (omega arith))) ∙ ap (λ (ys : List A). g x ∷ ys) (same_map f g kinds (λ j d l. same (suc j) d (omega (arith, l))))

set_one : {A : Type 0} (f g : KindLine → A) (kinds : List KindLine) (behind : List A) (k : ℕ) (v : A) → k < length kinds → ((d : KindLine) → g (get_or kinds k d) ≡ v)
    → ((j : ℕ) (d : KindLine) → j < length kinds → j ≢ k → g (get_or kinds j d) ≡ f (get_or kinds j d)) → set (by_kind f kinds behind) k v ≡ by_kind g kinds behind
set_one f g [] behind k v l here others = absurd (omega (arith, l))
set_one {A} f g (x ∷ kinds) behind zero v l here others =
    ap (λ (y : A). y ∷ (map f kinds ++ behind)) (sym (here x)) ∙ ap (λ (ys : List A). g x ∷ (ys ++ behind)) (same_map f g kinds (λ j d m. others (suc j) d (omega (arith, m)) (λ e. omega (arith, e))))
set_one {A} f g (x ∷ kinds) behind (suc k) v l here others =
    ap (λ (y : A). y ∷ set (map f kinds ++ behind) k v) (sym (others 0 x (omega arith) (λ e. omega (arith, e))))
    ∙ ap (λ (ys : List A). g x ∷ ys) (set_one f g kinds behind k v (omega (arith, l)) here (λ j d m o. others (suc j) d (omega (arith, m)) (λ e. o (omega (arith, e)))))

read_one : {A : Type 0} (f : KindLine → A) (kinds : List KindLine) (behind : List A) (k : ℕ) (d : KindLine) (e : A) → k < length kinds → get_or (by_kind f kinds behind) k e ≡ f (get_or kinds k d)
read_one f [] behind k d e l = absurd (omega (arith, l))
read_one f (x ∷ kinds) behind zero d e l = refl
read_one f (x ∷ kinds) behind (suc k) d e l = read_one f kinds behind k d e (omega (arith, l))

pub filled : {A : Type 0} (v : A) (kinds : List KindLine) (n : ℕ) → length kinds ≤ n → replicate n v ≡ by_kind (λ k. v) kinds (replicate (n - length kinds) v)
filled v [] n l = let z : n - 0 ≡ n = omega arith in rw z refl
filled v (x ∷ kinds) zero l = absurd (omega (arith, l))
filled {A} v (x ∷ kinds) (suc n) l =
    let z : suc n - length (x ∷ kinds) ≡ n - length kinds = omega arith in
    rw z (ap (λ (ys : List A). v ∷ ys) (filled v kinds n (omega (arith, l))))

pub none_counted : (kinds : List KindLine) → length kinds ≤ 16 → AreCounted kinds [] (replicate 16 0) (replicate 16 false)
none_counted kinds few = record { once = (All-nil _, λ i j d l m. absurd (omega (arith, m))); counts = filled 0 kinds 16 few; marks = filled false kinds 16 few }

-- ---- one occurrence more

at_number : (kinds : List KindLine) (name : List ℕ) (k : ℕ) → number_of kinds name ≡ Some k → (k < length kinds) × ((d : KindLine) → (get_or kinds k d).name ≡ name)
at_number [] name k e = absurd cc
at_number (x ∷ kinds) name k e = (
  (position-Some (λ k. bytes_eq k.name name) (x ∷ kinds) k x e).0,
  λ d. (bytes_eq-Decides (get_or (x ∷ kinds) k d).name name).0 (position-Some (λ k. bytes_eq k.name name) (x ∷ kinds) k d e).1,
)

pub number_few : (kinds : List KindLine) (name : List ℕ) (k : ℕ) → length kinds ≤ 16 → number_of kinds name ≡ Some k → k < 16
number_few kinds name k few e = let at = at_number kinds name k e in omega (arith, at.0, few)

pub not_declared : (kinds : List KindLine) (hits : List Hit) (name : List ℕ) → number_of kinds name ≡ None → IsNamedOnce kinds hits name → ⊥
not_declared kinds hits name none once =
    let any = once.0 in
    declared_none kinds name none any.0 any.1 any.2 (ap (λ (k : KindLine). k.name) any.3 ∙ any.4)

module _ (kinds : List KindLine) (hits : List Hit) (times : List ℕ) (named : List Bool) (counted : AreCounted kinds hits times named) (name : List ℕ) (k : ℕ) (number : number_of kinds name ≡ Some k) where
  named_is : (d : KindLine) (e : Bool) → get_or named k e ≡ stands_in hits name
  named_is d e =
      let at = at_number kinds name k number in
      ap (λ (bs : List Bool). get_or bs k e) counted.marks ∙ (read_one (λ x. stands_in hits x.name) kinds (replicate (16 - length kinds) false) k d e at.0 ∙ ap (stands_in hits) (at.1 d))

  a_kind : KindLine
  a_kind = go kinds number
    where
      go : (ks : List KindLine) → number_of ks name ≡ Some k → KindLine
      go [] e = absurd cc
      go (x ∷ ks) e = x

  pub named_twice : (e : Bool) → get_or named k e ≡ true → IsNamedOnce kinds hits name → ⊥
  named_twice e t once = stands_some hits name (sym (named_is a_kind e) ∙ t) once.1

  pub one_counted : (once : AllPairs (λ i j. i.name ≢ j.name) kinds) (amount : ℕ) (e : Bool) → get_or named k e ≡ false
      → AreCounted kinds (hits ++ record { name = name; times = amount } ∷ []) (set times k amount) (set named k true)
  one_counted once amount e f =
      let at = at_number kinds name k number in
      let h : Hit = record { name = name; times = amount } in
      let none : stands_in hits name ≡ false = sym (named_is a_kind e) ∙ f in
      let other : (j : ℕ) (d : KindLine) → j < length kinds → j ≢ k → (name ≡ (get_or kinds j d).name → ⊥) = λ j d l o is. elim (cases_lt j k) [
        | inl less ↦ once j k d less at.0 (sym is ∙ sym (at.1 d))
        | inr over ↦ once k j d (omega (arith, over, o)) l (at.1 d ∙ is)
      ] in
      record {
        once = (
          All-push (λ h. Any (λ x. x.name ≡ h.name) kinds) hits h counted.once.0 (any_at (λ x. x.name ≡ name) kinds k a_kind at.0 (at.1 a_kind)),
          all_pairs_push (λ g h. g.name ≢ h.name) hits h counted.once.1 (stands_none hits name none),
        );
        counts = ap (λ (ts : List ℕ). set ts k amount) counted.counts
            ∙ set_one (λ x. times_of hits x.name) (λ x. times_of (hits ++ h ∷ []) x.name) kinds (replicate (16 - length kinds) 0) k amount at.0
            (λ d. times_push hits h (get_or kinds k d).name (sym (at.1 d)) (ap (stands_in hits) (at.1 d) ∙ none)) (λ j d l o. times_kept hits h (get_or kinds j d).name (other j d l o));
        marks = ap (λ (bs : List Bool). set bs k true) counted.marks
            ∙ set_one (λ x. stands_in hits x.name) (λ x. stands_in (hits ++ h ∷ []) x.name) kinds (replicate (16 - length kinds) false) k true at.0
            (λ d. stands_push hits h (get_or kinds k d).name (sym (at.1 d))) (λ j d l o. stands_kept hits h (get_or kinds j d).name (other j d l o));
      }

-- ---- all occurrences of a line

-- those in front are counted, or some kind is unknown or stands there twice
pub record IsCounting (kinds : List KindLine) (hits : List Hit) (are_kinds : Bool) (times : List ℕ) (named : List Bool) (rest : List Hit) : Type 0 where
  pub front : List Hit
  pub is : front ++ rest ≡ hits
  pub few : All (λ h. IsAmount h.times) front
  pub counted : MatchBool are_kinds (AreCounted kinds front times named) (AreKindsIn kinds hits → ⊥)

pub counting_none : (kinds : List KindLine) (hits : List Hit) → length kinds ≤ 16 → IsCounting kinds hits true (replicate 16 0) (replicate 16 false) hits
counting_none kinds hits few = record { front = []; is = refl; few = All-nil _; counted = none_counted kinds few }

pub middle : {X : Type 0} (P : X → Type 0) (front : List X) (x : X) (rest : List X) → All P (front ++ (x ∷ rest)) → P x
middle P [] x rest all = All-head P x rest all
middle P (y ∷ front) x rest all = middle P front x rest (All-tail P y (front ++ (x ∷ rest)) all)

-- what is before the middle is apart from it
before_middle : (front : List Hit) (h : Hit) (rest : List Hit) → AllPairs (λ g h. g.name ≢ h.name) (front ++ (h ∷ rest)) → All (λ g. g.name ≢ h.name) front
before_middle front h rest apart = λ i d l.
    let p = apart i (length front) d l (omega (arith, length-append front (h ∷ rest))) in
    rw (get_or_append_left front (h ∷ rest) d i l, get_middle front h rest d) at p
  where
    get_middle : (xs : List Hit) (x : Hit) (ys : List Hit) (d : Hit) → get_or (xs ++ (x ∷ ys)) (length xs) d ≡ x
    get_middle [] x ys d = refl
    get_middle (y ∷ xs) x ys d = get_middle xs x ys d

module _ (kinds : List KindLine) (hits : List Hit) (times : List ℕ) (named : List Bool) (h : Hit) (rest : List Hit) where
  pub too_large : (b : Bool) → IsCounting kinds hits b times named (h ∷ rest) → (IsAmount h.times → ⊥) → RefusesHits kinds hits reason.Range
  too_large b c large = λ all. large (middle (λ h. IsAmount h.times) c.front h rest (subst (All (λ h. IsAmount h.times)) (sym c.is) all))

  moved : (c : List Hit) → c ++ (h ∷ rest) ≡ hits → (c ++ h ∷ []) ++ rest ≡ hits
  moved c is = append_assoc c (h ∷ []) rest ∙ is

  -- a name that is unknown or stands there twice came before
  pub counting_on : IsCounting kinds hits false times named (h ∷ rest) → IsAmount h.times → (ts : List ℕ) (ns : List Bool) → IsCounting kinds hits false ts ns rest
  counting_on c small ts ns = record { front = c.front ++ h ∷ []; is = moved c.front c.is; few = All-push (λ x. IsAmount x.times) c.front h c.few small; counted = c.counted }

  named_once : (front : List Hit) → front ++ (h ∷ rest) ≡ hits → AreKindsIn kinds hits → IsNamedOnce kinds front h.name
  named_once front is all =
      let own = subst (AreKindsIn kinds) (sym is) all in
      (middle (λ g. Any (λ k. k.name ≡ g.name) kinds) front h rest own.0, before_middle front h rest own.1)

  pub counting_more : (c : IsCounting kinds hits true times named (h ∷ rest)) → IsAmount h.times → (b : Bool) (ts : List ℕ) (ns : List Bool)
      → ((front : List Hit) → AreCounted kinds front times named → MatchBool b (AreCounted kinds (front ++ h ∷ []) ts ns) (IsNamedOnce kinds front h.name → ⊥))
      → IsCounting kinds hits b ts ns rest
  counting_more c small true ts ns counts = record { front = c.front ++ h ∷ []; is = moved c.front c.is; few = All-push (λ x. IsAmount x.times) c.front h c.few small; counted = counts c.front c.counted }
  counting_more c small false ts ns counts =
      let own : IsNamedOnce kinds c.front h.name → ⊥ = counts c.front c.counted in
      record { front = c.front ++ h ∷ []; is = moved c.front c.is; few = All-push (λ x. IsAmount x.times) c.front h c.few small; counted = λ all. own (named_once c.front c.is all) }

-- all are read
whole : {kinds : List KindLine} {hits : List Hit} {b : Bool} {times : List ℕ} {named : List Bool} → (c : IsCounting kinds hits b times named []) → c.front ≡ hits
whole c = sym (append-nil c.front) ∙ c.is

pub all_counted : (kinds : List KindLine) (hits : List Hit) (times : List ℕ) (named : List Bool) → IsCounting kinds hits true times named []
    → All (λ h. IsAmount h.times) hits × AreKindsIn kinds hits × (times ≡ occurrences kinds hits)
all_counted kinds hits times named c =
    let counted : AreCounted kinds hits times named = subst (λ hs. AreCounted kinds hs times named) (whole c) c.counted in
    (subst (All (λ h. IsAmount h.times)) (whole c) c.few, counted.once, counted.counts)

pub not_kinds : (kinds : List KindLine) (hits : List Hit) (times : List ℕ) (named : List Bool) → IsCounting kinds hits false times named [] → RefusesHits kinds hits reason.Name
not_kinds kinds hits times named c = (subst (All (λ h. IsAmount h.times)) (whole c) c.few, tt, c.counted)

-- a work line whose length is in its range is refused for them
pub hits_refused : (kinds : List KindLine) (w : Working) (r : SReason) → IsAmount w.length → RefusesHits kinds w.hits r → RefusesCpuForm kinds (form.Work w) r
hits_refused kinds w reason.Range small bad = λ both. bad both.1
hits_refused kinds w reason.Attr small bad = absurd (bad.1 tt)
hits_refused kinds w reason.Name small bad = ((small, bad.0), tt, bad.2)
hits_refused kinds w other small bad = absurd bad
