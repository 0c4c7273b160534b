-- A brief by its four passes.
use Rattle.std.specs.Prelude.{◌≡◌, ℕ, zero, suc, ◌+◌, ◌<◌, ◌≤◌, ◌==◌, All, List, [], ◌∷◌, ◌++◌, length, flat_map, take, slice_index_or}
use Rattle.std.proofs.{Common.{arith, refl, sym, ap, subst, ◌∙◌}, Math.Seq.{take-suc}, lemmas.Grind.{flat_map-append}}
use Rattle.std.proofs.lemmas.List.{append-nil, get_or_append_left, get_or-append-add, length-append}
use Rattle.perf_base.specs.declared.numbers.{EventNo.{EventNo}, Key.{Key}}
use Rattle.stage_laws.{specs.Briefs.{GroupBrief}, proofs.Counts.{count-append}}
use Rattle.cpu_sched.{specs.Briefs.{ProcessorBrief, events_in, IsGroupBrief, IsBrief}, proofs.Served.{slots}}

all-left : {X : Type 0} (P : X → Type 0) (xs ys : List X) → All P (xs ++ ys) → All P xs
all-left P xs ys all i d low = subst P (get_or_append_left xs ys d i low) (all i d (omega (arith, low, length-append xs ys)))

all-right : {X : Type 0} (P : X → Type 0) (xs ys : List X) → All P (xs ++ ys) → All P ys
all-right P xs ys all i d low = subst P (get_or-append-add xs ys i d) (all (length xs + i) d (omega (arith, low, length-append xs ys)))

four-are : {X : Type 0} (ps : List (List X)) → length ps ≡ 4
    → ps ≡ slice_index_or ps 0 [] ∷ slice_index_or ps 1 [] ∷ slice_index_or ps 2 [] ∷ slice_index_or ps 3 [] ∷ []
four-are [] four = absurd (omega (arith, four))
four-are (p ∷ []) four = absurd (omega (arith, four))
four-are (p ∷ q ∷ []) four = absurd (omega (arith, four))
four-are (p ∷ q ∷ r ∷ []) four = absurd (omega (arith, four))
four-are (p ∷ q ∷ r ∷ s ∷ []) four = refl
four-are (p ∷ q ∷ r ∷ s ∷ t ∷ ps) four = absurd (omega (arith, four))

-- what is known of the four
pub record HasParts (b : ProcessorBrief) (p q r s : List (GroupBrief Key)) : Type 0 where
  pub passes : b.passes ≡ p ∷ q ∷ r ∷ s ∷ []
  pub first : All (IsGroupBrief b.counters) p
  pub second : All (IsGroupBrief b.counters) q
  pub third : All (IsGroupBrief b.counters) r
  pub fourth : All (IsGroupBrief b.counters) s
  pub once : (e : EventNo) → slots e (events_in p) + (slots e (events_in q) + (slots e (events_in r) + slots e (events_in s))) ≤ 1
  pub few : length p + (length q + (length r + length s)) ≤ 256

pub slots-parts : (e : EventNo) (xs ys : List (GroupBrief Key)) → slots e (events_in (xs ++ ys)) ≡ slots e (events_in xs) + slots e (events_in ys)
slots-parts e xs ys = ap (slots e) (flat_map-append (λ g. g.counted) xs ys) ∙ count-append (λ event. event.0.0 == e.0) (events_in xs) (events_in ys)

parts-of : (counters : ℕ) (p q r s : List (GroupBrief Key)) → IsBrief (record { counters = counters; passes = p ∷ q ∷ r ∷ s ∷ [] })
    → HasParts (record { counters = counters; passes = p ∷ q ∷ r ∷ s ∷ [] }) p q r s
parts-of counters p q r s h =
    let P : GroupBrief Key → Type 0 = IsGroupBrief counters in
    let second : All P (q ++ (r ++ (s ++ []))) = all-right P p (q ++ (r ++ (s ++ []))) h.groups in
    let third : All P (r ++ (s ++ [])) = all-right P q (r ++ (s ++ [])) second in
    let fourth : All P (s ++ []) = all-right P r (s ++ []) third in
    record {
      passes = refl;
      first = all-left P p (q ++ (r ++ (s ++ []))) h.groups;
      second = all-left P q (r ++ (s ++ [])) second;
      third = all-left P r (s ++ []) third;
      fourth = all-left P s [] fourth;
      once = λ e. omega (
        arith,
        h.once e,
        slots-parts e p (q ++ (r ++ (s ++ []))),
        slots-parts e q (r ++ (s ++ [])),
        slots-parts e r (s ++ []),
        slots-parts e s [],
      );
      few = omega (arith, h.few, length-append p (q ++ (r ++ (s ++ []))), length-append q (r ++ (s ++ [])), length-append r (s ++ []), length-append s []);
    }

pub has-parts : (b : ProcessorBrief) (p q r s : List (GroupBrief Key)) → IsBrief b → p ≡ slice_index_or b.passes 0 [] → q ≡ slice_index_or b.passes 1 [] → r ≡ slice_index_or b.passes 2 []
    → s ≡ slice_index_or b.passes 3 [] → HasParts b p q r s
has-parts b p q r s h e1 e2 e3 e4 =
    let passes : b.passes ≡ p ∷ q ∷ r ∷ s ∷ [] = four-are b.passes h.four ∙ (λ i. sym e1 i ∷ sym e2 i ∷ sym e3 i ∷ sym e4 i ∷ []) in
    let is : b ≡ record { counters = b.counters; passes = p ∷ q ∷ r ∷ s ∷ [] } = λ i. record { counters = b.counters; passes = passes i } in
    subst (λ x. HasParts x p q r s) (sym is) (parts-of b.counters p q r s (subst IsBrief is h))

-- the groups of some passes
abbrev pub passed : List (List (GroupBrief Key)) → List (GroupBrief Key)
passed ps = flat_map (λ pass. pass) ps

pub pass-sound : (P : GroupBrief Key → Type 0) (ps : List (List (GroupBrief Key))) (pass : ℕ) → All P (passed ps) → All P (slice_index_or ps pass [])
pass-sound P [] pass all = λ i g low. absurd (omega (arith, low))
pass-sound P (p ∷ ps) zero all = all-left P p (passed ps) all
pass-sound P (p ∷ ps) (suc pass) all = pass-sound P ps pass (all-right P p (passed ps) all)

-- A size that adds up: those of the first passes, with the next one.
abbrev AddsUp : (List (GroupBrief Key) → ℕ) → Type 0
AddsUp size = (xs ys : List (GroupBrief Key)) → size (xs ++ ys) ≡ size xs + size ys

pub size-next : (size : List (GroupBrief Key) → ℕ) → AddsUp size → (ps : List (List (GroupBrief Key))) (pass : ℕ) → pass < length ps
    → size (passed (take (pass + 1) ps)) ≡ size (passed (take pass ps)) + size (slice_index_or ps pass [])
size-next size adds ps pass low =
    let one : pass + 1 ≡ suc pass = omega arith in
    let p : List (GroupBrief Key) = slice_index_or ps pass [] in
    ap (λ n. size (passed (take n ps))) one
    ∙ (ap (λ qs. size (passed qs)) (take-suc ps pass [] low)
    ∙ (ap size (flat_map-append (λ q. q) (take pass ps) (p ∷ []) ∙ ap (λ q. passed (take pass ps) ++ q) (append-nil p))
    ∙ adds (passed (take pass ps)) p))

pub size-within : (size : List (GroupBrief Key) → ℕ) → AddsUp size → (ps : List (List (GroupBrief Key))) (passes : ℕ) → size (passed (take passes ps)) ≤ size (passed ps)
size-within size adds [] zero = omega arith
size-within size adds [] (suc passes) = omega arith
size-within size adds (p ∷ ps) zero = omega (arith, adds [] [])
size-within size adds (p ∷ ps) (suc passes) = omega (arith, adds p (passed (take passes ps)), adds p (passed ps), size-within size adds ps passes)
