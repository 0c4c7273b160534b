-- A list does not fit exactly where there is no augmenting path.
use Rattle.std.specs.Prelude.{◌≢◌}
use Rattle.std.proofs.Common.{◌≡◌, ℕ, zero, suc, ◌+◌, ◌-◌, ◌<◌, ◌≤◌, true, List, [], ◌∷◌, ◌++◌, length, get_or, refl, sym, ap, ◌∙◌, arith, inl, inr, subst}
use Rattle.std.proofs.lemmas.{Bool.{cases_eq, both_ways}, List.{get_or_append_left, get_or_push, length_push}}
use Rattle.stage_spec.specs.Fits.{can_count, fits}
use Rattle.counter_match.{specs.{Search.{SeatsAllBut, IsSearch, IsShift, IsFree}, Paths.{IsAugmentingPath, PathLaw}}, proofs.Closing.{closed_search}}
use Rattle.counter_match.proofs.{Shift.{IsShift-start, fits_from_shift}, Tightness.{unfit}}

-- the position before each
predecessors : ℕ → ℕ → List ℕ
predecessors k zero = []
predecessors k (suc n) = (k - 1) ∷ predecessors (suc k) n

get_or-predecessors : (k n i : ℕ) → i < n → get_or (predecessors k n) i 0 ≡ (k + i) - 1
unfolding predecessors
get_or-predecessors k zero i l = absurd (omega arith)
get_or-predecessors k (suc n) zero l = omega arith
get_or-predecessors k (suc n) (suc i) l = get_or-predecessors (suc k) n i (omega arith) ∙ omega arith

length-predecessors : (k n : ℕ) → length (predecessors k n) ≡ n
unfolding predecessors
length-predecessors k zero = refl
length-predecessors k (suc n) = ap suc (length-predecessors (suc k) n)

-- a path is a search
IsSearch-path : (masks seats path : List ℕ) (counter : ℕ) → IsAugmentingPath masks seats path counter → IsSearch masks seats path (predecessors 0 (length path))
IsSearch-path masks seats path counter p =
    record {
      some = p.some;
      first = p.first;
      parent_each = length-predecessors 0 (length path);
      inside = p.inside;
      different = p.different;
      earlier = λ q lo l. let e : get_or (predecessors 0 (length path)) q 0 ≡ (0 + q) - 1 = get_or-predecessors 0 (length path) q l in omega arith;
      wanted = λ q lo l. wanted q lo l;
    }
  where
    wanted : (q : ℕ) → 0 < q → q < length path → can_count (get_or masks (get_or path (get_or (predecessors 0 (length path)) q 0) 0) 0) (get_or seats (get_or path q 0) 0) ≡ true
    wanted zero lo l = absurd (omega arith)
    wanted (suc q) lo l =
        let e : get_or (predecessors 0 (length path)) (suc q) 0 ≡ q = get_or-predecessors 0 (length path) (suc q) l ∙ omega arith in
        let next : can_count (get_or masks (get_or path q 0) 0) (get_or seats (get_or path (q + 1) 0) 0) ≡ true = p.next q (omega arith) in
        ap (λ k. can_count (get_or masks (get_or path k 0) 0) (get_or seats (get_or path (suc q) 0) 0)) e
        ∙ (ap (λ k. can_count (get_or masks (get_or path q 0) 0) (get_or seats (get_or path k 0) 0)) (omega arith) ∙ next)

pub fits-path : (masks seats path : List ℕ) (counter last : ℕ) → last + 1 ≡ length masks → SeatsAllBut last masks seats → IsAugmentingPath masks seats path counter → fits masks ≡ true
fits-path masks seats path counter last e s p =
    let S : ℕ → Type 0 = λ gap. SeatsAllBut gap masks seats in
    let first : last ≡ get_or path 0 0 = omega (arith, p.first) in
    let l : length path - 1 < length path = omega (arith, p.some) in
    fits_from_shift masks seats path (predecessors 0 (length path)) (IsSearch-path masks seats path counter p) (length path) seats (length path - 1) counter l
    (IsShift-start masks seats path (predecessors 0 (length path)) (length path - 1) counter (IsSearch-path masks seats path counter p) (subst S first s) l
    (p.wanted (length path - 1) (omega (arith, p.some))) p.free.free)

-- where a place of the path stands in the queue
pub record IsEarlier (queue : List ℕ) (q place : ℕ) : Type 0 where
  pub position : ℕ
  pub low : position ≤ q
  pub is : get_or queue position 0 ≡ place

-- the path from the first of the queue to a position
pub record PathTo (masks seats queue : List ℕ) (q : ℕ) : Type 0 where
  pub path : List ℕ
  pub some : 0 < length path
  pub first : get_or path 0 0 ≡ get_or queue 0 0
  pub last : (i : ℕ) → i + 1 ≡ length path → get_or path i 0 ≡ get_or queue q 0
  pub from : (i : ℕ) → i < length path → IsEarlier queue q (get_or path i 0)
  pub different : (i j : ℕ) → i < j → j < length path → get_or path i 0 ≢ get_or path j 0
  pub next : (i : ℕ) → i + 1 < length path → can_count (get_or masks (get_or path i 0) 0) (get_or seats (get_or path (i + 1) 0) 0) ≡ true

path_next : (masks seats queue parents : List ℕ) (q : ℕ) → IsSearch masks seats queue parents → 0 < q → q < length queue → PathTo masks seats queue (get_or parents q 0) → PathTo masks seats queue q
path_next masks seats queue parents q s lo hi p =
    record {
      path = p.path ++ get_or queue q 0 ∷ [];
      some = omega (arith, more);
      first = left 0 p.some ∙ p.first;
      last = λ i e. end i (omega (arith, more));
      from = λ i l. elim (cases_eq i (length p.path)) [
        | inl e ↦ record { position = q; low = omega arith; is = sym (end i e) }
        | inr ne ↦
            let li : i < length p.path = omega (arith, l, more) in
            let f = p.from i li in
            record { position = f.position; low = omega (arith, f.low, earlier); is = f.is ∙ sym (left i li) }
      ];
      different = λ i j l m e. elim (cases_eq j (length p.path)) [
        | inl f ↦
            let li : i < length p.path = omega arith in
            let g = p.from i li in
            s.different g.position q (omega (arith, g.low, earlier)) hi (g.is ∙ (sym (left i li) ∙ (e ∙ end j f)))
        | inr ne ↦
            let lj : j < length p.path = omega (arith, m, more) in
            p.different i j l lj (sym (left i (omega arith)) ∙ (e ∙ left j lj))
      ];
      next = λ i l. elim (cases_eq (i + 1) (length p.path)) [
        | inl e ↦
            let li : i < length p.path = omega arith in
            rw (left i li, end (i + 1) e, p.last i e) (s.wanted q lo hi)
        | inr ne ↦
            let lj : i + 1 < length p.path = omega (arith, l, more) in
            rw (left i (omega arith), left (i + 1) lj) (p.next i lj)
      ];
    }
  where
    earlier : get_or parents q 0 < q
    earlier = s.earlier q lo hi

    more : length (p.path ++ get_or queue q 0 ∷ []) ≡ length p.path + 1
    more = length_push p.path (get_or queue q 0)

    left : (i : ℕ) → i < length p.path → get_or (p.path ++ get_or queue q 0 ∷ []) i 0 ≡ get_or p.path i 0
    left i l = get_or_append_left p.path (get_or queue q 0 ∷ []) 0 i l

    end : (i : ℕ) → i ≡ length p.path → get_or (p.path ++ get_or queue q 0 ∷ []) i 0 ≡ get_or queue q 0
    end i e = get_or_push p.path (get_or queue q 0) 0 i (sym e)

path_to : (masks seats queue parents : List ℕ) → IsSearch masks seats queue parents → (n q : ℕ) → q < n → q < length queue → PathTo masks seats queue q
path_to masks seats queue parents s zero q l h = absurd (omega arith)
path_to masks seats queue parents s (suc n) zero l h =
    record {
      path = get_or queue 0 0 ∷ [];
      some = omega arith;
      first = refl;
      last = λ i e. one i (omega arith);
      from = λ i l. record { position = 0; low = omega arith; is = sym (one i (omega arith)) };
      different = λ i j l m. absurd (omega arith);
      next = λ i l. absurd (omega arith);
    }
  where
    one : (i : ℕ) → i ≡ 0 → get_or (get_or queue 0 0 ∷ []) i 0 ≡ get_or queue 0 0
    one i z = rw z refl
path_to masks seats queue parents s (suc n) (suc q) l h =
    let e : get_or parents (suc q) 0 < suc q = s.earlier (suc q) (omega arith) h in
    path_next masks seats queue parents (suc q) s (omega arith) h (path_to masks seats queue parents s n (get_or parents (suc q) 0) (omega arith) (omega arith))

-- an event that can take a free counter ends a path
pub path_from_shift : (masks seats queue parents : List ℕ) (position counter : ℕ) → IsSearch masks seats queue parents → IsShift masks seats queue seats position counter
    → (path : List ℕ) × IsAugmentingPath masks seats path counter
path_from_shift masks seats queue parents position counter s h =
    let p = path_to masks seats queue parents s (suc position) position (omega arith) h.reached in (
      p.path,
      record {
        some = p.some;
        first = ap (λ k. k + 1) p.first ∙ s.first;
        inside = λ i l. let f = p.from i l in rw (← f.is) (s.inside f.position (omega (arith, f.low, h.reached)));
        different = p.different;
        next = p.next;
        wanted = λ i e. ap (λ k. can_count (get_or masks k 0) counter) (p.last i e) ∙ h.wanted;
        free = (let F : ℕ → Type 0 = λ gap. IsFree gap seats counter in subst F (sym p.first) (record { free = h.free }));
      },
    )

pub path_law : PathLaw
path_law masks seats last e s = (
  λ none.
      let k = closed_search masks seats last (record {
        stuck = λ queue parents position counter t h.
            let p = path_from_shift masks seats queue parents position counter t h in none p.0 counter p.1;
      }) s e in
      unfit masks seats k.queue k.parents k.search k.closed,
  λ un path counter p. both_ways _ un (fits-path masks seats path counter last e s p),
)
