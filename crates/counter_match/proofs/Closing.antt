-- Where no reached event can take a free counter, some search is closed.
use Rattle.std.specs.{Prelude.{◌≢◌, nat_eq}, List.{list_any}}
use Rattle.std.proofs.Common.{◌≡◌, ℕ, zero, suc, ◌+◌, ◌<◌, ◌≤◌, true, false, List, [], ◌∷◌, ◌++◌, length, get_or, take, refl, sym, ap, ◌∙◌, arith, inl, inr, subst, add-one, length-take}
use Rattle.std.proofs.lemmas.{Bool.{cases_Bool, cases_lt, both_ways}, List.{get_or-take, length_push, get_or_push}}
use Rattle.stage_spec.specs.Fits.{can_count, fits}
use Rattle.counter_match.specs.Search.{SeatsAllBut, IsSearch, IsHeld, IsClosedBelow, IsClosedAt, IsExtended, IsShift}
use Rattle.counter_match.proofs.{Fitting.{can_count-below}, Lists.{In-from_any, any-from_In}}
use Rattle.counter_match.proofs.Growth.{IsExtended-same, IsExtended-push, IsExtended-trans, IsHeld-reached, IsClosedBelow-extended, IsClosedAt-extended, IsClosedAt-more, IsClosedBelow-more, IsSearch-push, IsSearch-start, length-search}
use Rattle.counter_match.proofs.Shift.{IsShift-start, fits_from_shift}

-- no event that is reached can take a counter that is free
pub record IsStuck (masks counters : List ℕ) : Type 0 where
  pub stuck : (queue parents : List ℕ) (position counter : ℕ) → IsSearch masks counters queue parents → IsShift masks counters queue counters position counter → ⊥

pub IsStuck-unfit : (masks counters : List ℕ) → fits masks ≡ false → IsStuck masks counters
IsStuck-unfit masks counters un =
    record { stuck = λ queue parents position counter s h. both_ways _ un (fits_from_shift masks counters queue parents s (suc position) counters position counter (omega arith) h) }

-- the search once the counters of one event, below some number, are looked at
pub record Wider (masks counters queue : List ℕ) (at n : ℕ) : Type 0 where
  pub wide : List ℕ
  pub parents : List ℕ
  pub search : IsSearch masks counters wide parents
  pub extended : IsExtended queue wide
  pub closed : IsClosedAt at n masks counters wide

-- an event that has the counter is reached
pub wider_held : (masks counters queue : List ℕ) (at n place : ℕ) → (w : Wider masks counters queue at n) → at < length queue → place + 1 < length masks → get_or counters place 0 ≡ n
    → can_count (get_or masks (get_or w.wide at 0) 0) n ≡ true → Wider masks counters queue at (n + 1)
wider_held masks counters queue at n place w la lp e can =
    elim (cases_Bool (list_any (nat_eq place) w.wide)) [
      | inl t ↦ record {
        wide = w.wide;
        parents = w.parents;
        search = w.search;
        extended = w.extended;
        closed = IsClosedAt-more at n masks counters w.wide w.closed (λ k. subst (IsHeld counters w.wide) e (IsHeld-reached masks counters w.wide w.parents place w.search ne t));
      }
      | inr f ↦
          let s : IsSearch masks counters (w.wide ++ place ∷ []) (w.parents ++ at ∷ []) =
          IsSearch-push masks counters w.wide w.parents at place w.search la' (omega arith) f (ap (can_count (get_or masks (get_or w.wide at 0) 0)) e ∙ can) in
          let g = IsExtended-push w.wide place in
          record {
            wide = w.wide ++ place ∷ [];
            parents = w.parents ++ at ∷ [];
            search = s;
            extended = IsExtended-trans queue w.wide _ w.extended g;
            closed = IsClosedAt-more at n masks counters (w.wide ++ place ∷ []) (IsClosedAt-extended at n masks counters w.wide _ la' g w.closed)
                (λ k. subst (IsHeld counters (w.wide ++ place ∷ [])) e
                (IsHeld-reached masks counters _ _ place s ne (any-from_In _ place (record { place = length w.wide; within = omega (arith, length_push w.wide place); is = get_or_push w.wide place 0 (length w.wide) refl }))));
          }
    ]
  where
    ne : place + 1 ≢ length masks
    ne q = omega arith

    la' : at < length w.wide
    la' = omega (arith, la, w.extended.longer)

pub wider : (masks counters queue parents : List ℕ) (at : ℕ) → IsStuck masks counters → SeatsAllBut (get_or queue 0 0) masks counters → IsSearch masks counters queue parents → at < length queue
    → (n : ℕ) → Wider masks counters queue at n
wider masks counters queue parents at un a s la zero =
    record { wide = queue; parents = parents; search = s; extended = IsExtended-same queue; closed = record { held = λ c l can. absurd (omega arith) } }
wider masks counters queue parents at un a s la (suc n) =
    let w = wider masks counters queue parents at un a s la n in
    let W : ℕ → Type 0 = λ m. Wider masks counters queue at m in
    subst W (add-one n) (elim (cases_Bool (can_count (get_or masks (get_or w.wide at 0) 0) n)) [
      | inr f ↦ record {
        wide = w.wide;
        parents = w.parents;
        search = w.search;
        extended = w.extended;
        closed = IsClosedAt-more at n masks counters w.wide w.closed (λ k. absurd (both_ways _ f k));
      }
      | inl can ↦ elim (cases_Bool (list_any (nat_eq n) (take (get_or queue 0 0) counters))) [
        | inl t ↦
            let i = In-from_any (take (get_or queue 0 0) counters) n t in
            let li : i.place < get_or queue 0 0 = omega (arith, i.within, length-take (get_or queue 0 0) counters) in
            wider_held masks counters queue at n i.place w la (omega (arith, s.first)) (sym (get_or-take (get_or queue 0 0) counters i.place 0 li) ∙ i.is) can
        | inr f ↦
            let same : get_or w.wide 0 0 ≡ get_or queue 0 0 = w.extended.same 0 s.some in
            let S : ℕ → Type 0 = λ g. SeatsAllBut g masks counters in
            absurd (un.stuck w.wide w.parents at n w.search
            (IsShift-start masks counters w.wide w.parents at n w.search (subst S (sym same) a) (omega (arith, la, w.extended.longer)) can
            (λ j l m q.
            let lj : j < get_or queue 0 0 = omega (arith, m, same, s.first, a.one_each) in
            both_ways _ f (any-from_In (take (get_or queue 0 0) counters) n (record { place = j; within = omega (arith, length-take (get_or queue 0 0) counters); is = get_or-take (get_or queue 0 0) counters j 0 lj ∙ q })))))
      ]
    ])

-- a search in which each counter of each reached event is held
pub record Closed (masks counters : List ℕ) (first : ℕ) : Type 0 where
  pub queue : List ℕ
  pub parents : List ℕ
  pub search : IsSearch masks counters queue parents
  pub begins : get_or queue 0 0 ≡ first
  pub closed : IsClosedBelow (length queue) masks counters queue

pub closed_from : (masks counters : List ℕ) (first : ℕ) → IsStuck masks counters → SeatsAllBut first masks counters → (fuel n : ℕ) → length masks ≤ n + fuel
    → (queue parents : List ℕ) → IsSearch masks counters queue parents → get_or queue 0 0 ≡ first → n ≤ length queue → IsClosedBelow n masks counters queue → Closed masks counters first
closed_from masks counters first un a zero n enough queue parents s b l c =
    record { queue = queue; parents = parents; search = s; begins = b; closed = record { held = λ q k m can. c.held q k (omega (arith, length-search masks counters queue parents s)) can } }
closed_from masks counters first un a (suc fuel) n enough queue parents s b l c =
    elim (cases_lt n (length queue)) [
      | inl lt ↦
          let S : ℕ → Type 0 = λ g. SeatsAllBut g masks counters in
          let w = wider masks counters queue parents n un (subst S (sym b) a) s lt 16 in
          closed_from masks counters first un a fuel (n + 1) (omega arith) w.wide w.parents w.search (w.extended.same 0 s.some ∙ b) (omega (arith, w.extended.longer))
          (IsClosedBelow-more n masks counters w.wide (IsClosedBelow-extended n masks counters queue w.wide (omega arith) w.extended c) w.closed can_count-below)
      | inr ge ↦ record { queue = queue; parents = parents; search = s; begins = b; closed = record { held = λ q k m can. c.held q k (omega arith) can } }
    ]

pub closed_search : (masks counters : List ℕ) (last : ℕ) → IsStuck masks counters → SeatsAllBut last masks counters → last + 1 ≡ length masks → Closed masks counters last
closed_search masks counters last un a e =
    closed_from masks counters last un a (length masks) 0 (omega arith) (last ∷ []) (0 ∷ []) (IsSearch-start masks counters last e) refl (omega arith) (record { held = λ q k l can. absurd (omega arith) })
