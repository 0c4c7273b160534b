-- The tables of events after one came, and after siblings were freed.
use Rattle.std.specs.Prelude.{◌≡◌, ℕ, ◌+◌, ◌<◌, ◌≤◌, true, false, List, [], ◌∷◌, ◌++◌, length, drop, slice_index_or, slice_set}
use Rattle.std.specs.{FinMap.{FinMap, get, contains_key, insert, same_map, nat_cmp-IsAntisymmetric}, Ordering.{nat_cmp}}
use Rattle.std.proofs.{Common.{arith, refl, sym, ap, subst, ◌∙◌, inl, inr, zero, suc, append-nil, append_assoc}, lemmas.Bool.{cases_eq}}
use Rattle.std.proofs.{lemmas.{Cmp.{nat_cmp_total}, List.{get_or-set_same}}, Math.Seq.{drop-cons}}
use Rattle.perf_base.specs.declared.numbers.Key.{Key}
use Rattle.stage_laws.proofs.Counts.{count-append}
use Rattle.world_spec.specs.{Value.{Entry, Leaders, no_leaders, is_key, times}, Changes.{in_list}}
use Rattle.world_spec.proofs.{Keys.{times-cons, once-true, is_key-same}, Tables.{get-here, get-there, keys-written}}
use Rattle.world_tables.specs.{Columns.{Columns, is_there, entry_in, put_entry, put_row}, Rows.{Row}}
use Rattle.perf_world.specs.Parts.{free_one, behind, HaveRoomBehind}

-- a key that names an event is not one that names none
pub apart : (t : Columns) (l k : Key) → is_there t l ≡ true → is_there t k ≡ false → l.0 ≡ k.0 → ⊥
apart t l k there fresh same = let e : is_there t l ≡ is_there t k = ap (contains_key t.entries) same in absurd (cc (there, fresh, e))

-- what the tables have at other keys after a row came
pub row-keeps : (t : Columns) (k : Key) (r : Row) (l : Key) → (l.0 ≡ k.0 → ⊥) → get (put_row k r t).entries l.0 ≡ get t.entries l.0
row-keeps t k r l other = get-there t.entries k.0 r.entry l.0 other

-- two writes at two keys, in either order
pub insert-swap : {X : Type 0} (m : FinMap nat_cmp X) (k l : ℕ) (v u : X) → (k ≡ l → ⊥) → insert (insert m k v) l u ≡ insert (insert m l u) k v
insert-swap m k l v u other = same_map nat_cmp_total nat_cmp-IsAntisymmetric (insert (insert m k v) l u) (insert (insert m l u) k v) (λ q.
    elim (cases_eq q k) [
      | inl e ↦ grind (arith, e, get-there, get-here)
      | inr off ↦ elim (cases_eq q l) [
        | inl e ↦ get-here (insert m k v) l u q e ∙ sym (get-there (insert m l u) k v q off ∙ get-here m l u q e)
        | inr away ↦ get-there (insert m k v) l u q away ∙ (get-there m k v q off ∙ sym (get-there (insert m l u) k v q off ∙ get-there m l u q away))
      ]
    ])

-- a member noted after the row came, or before
pub noted-member : (t : Columns) (k : Key) (r : Row) (l : Key) (f : Entry → Entry) → is_there t l ≡ true → is_there t k ≡ false
    → put_entry l (f (entry_in (put_row k r t) l)) (put_row k r t) ≡ put_row k r (put_entry l (f (entry_in t l)) t)
noted-member t k r l f there fresh = grind (arith, apart, row-keeps, insert-swap)

-- a sibling that is freed leaves the keys
pub freed-keys : (t : Columns) (k : Key) → is_there t k ≡ true → (q : Key) → is_there (free_one t k) q ≡ is_there t q
freed-keys t k there q = keys-written t.entries k.0 _ there q.0

-- what is left of siblings that are to go behind a list, after the first has gone there
pub push-behind : (s : Key) (rest : List Key) (l : Leaders) → behind rest (in_list false (λ keys. keys ++ s ∷ []) l) ≡ behind (s ∷ rest) l
push-behind s rest l = ap (λ keys. record l { flexible = keys }) (append_assoc l.flexible (s ∷ []) rest)

pub none-behind : (l : Leaders) → behind [] l ≡ l
none-behind l = ap (λ keys. record l { flexible = keys }) (append-nil l.flexible)

pub room-left : (s : Key) (rest : List Key) (l : Leaders) → HaveRoomBehind (s ∷ rest) l → HaveRoomBehind rest (in_list false (λ keys. keys ++ s ∷ []) l)
room-left s rest l h =
    let e : (l.flexible ++ s ∷ []) ++ rest ≡ l.flexible ++ s ∷ rest = append_assoc l.flexible (s ∷ []) rest in
    record {
      once = λ k. subst (λ (keys : List Key). times k keys ≤ 1) (sym e) (h.once k);
      few = subst (λ (keys : List Key). length keys ≤ 256) (sym e) h.few;
    }

pub not-there : (s : Key) (rest : List Key) (l : Leaders) → HaveRoomBehind (s ∷ rest) l → times s l.flexible ≡ 0
not-there s rest l h =
    omega (arith, h.once s, count-append (is_key s) l.flexible (s ∷ rest), times-cons s s rest, once-true (is_key s s) (is_key-same s s refl))

-- a place that is written twice
pub set-again : {X : Type 0} (xs : List X) (i : ℕ) (v u : X) → slice_set (slice_set xs i v) i u ≡ slice_set xs i u
set-again [] i v u = refl
set-again (x ∷ xs) zero v u = refl
set-again (x ∷ xs) (suc i) v u = ap (λ ys. x ∷ ys) (set-again xs i v u)

-- the next sibling goes behind the list of a place
pub next-behind : (contexts : List Leaders) (at : ℕ) (s : Key) (rest : List Key) → at < length contexts
    → slice_set (slice_set contexts at (in_list false (λ keys. keys ++ s ∷ []) (slice_index_or contexts at no_leaders))) at
    (behind rest (slice_index_or (slice_set contexts at (in_list false (λ keys. keys ++ s ∷ []) (slice_index_or contexts at no_leaders))) at no_leaders))
    ≡ slice_set contexts at (behind (s ∷ rest) (slice_index_or contexts at no_leaders))
next-behind contexts at s rest low = grind (arith, set-again, get_or-set_same, push-behind)

pub split-rest : (xs : List Key) (i : ℕ) (d : Key) → i < length xs → drop i xs ≡ slice_index_or xs i d ∷ drop (i + 1) xs
split-rest xs i d low = drop-cons xs i d low ∙ ap (λ n. slice_index_or xs i d ∷ drop n xs) (let e : suc i ≡ i + 1 = omega arith in e)

-- some siblings go behind a list that lost a leader
pub dropped-behind : (contexts : List Leaders) (at : ℕ) (l : Leaders) (keys : List Key) → at < length contexts
    → slice_set (slice_set contexts at l) at (behind keys (slice_index_or (slice_set contexts at l) at no_leaders)) ≡ slice_set contexts at (behind keys l)
dropped-behind contexts at l keys low = grind (arith, set-again, get_or-set_same)
