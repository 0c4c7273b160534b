-- Facts that hold or not: each of these can be found out.
use Rattle.std.proofs.Common.{◌≡◌, ℕ, zero, suc, ◌<◌, ◌≤◌, All, AllPairs, List, [], ◌∷◌, length, get_or, Option, Some, None, inl, inr, refl, sym, subst, arith}
use Rattle.std.proofs.lemmas.{Bool.{cases_Bool, cases_lt, cases_order}, List.{Elements.{All-cons, All-head, All-tail}, Kept.{AllPairs-cons}}}
use Rattle.std.{proofs.lemmas.Slice.Eq.{bytes_eq-Decides}, specs.{Prelude.{Any, IfSome, IsSome}, Str.{bytes_eq}}}

pub data Known (P : Type 0) : Type 0 where
  Yes : P → Known P
  No : (P → ⊥) → Known P

pub known_as : {P Q : Type 0} → Known P → (P → Q) → (Q → P) → Known Q
known_as (Yes p) to from = Yes (to p)
known_as (No n) to from = No (λ q. n (from q))

pub both : {P Q : Type 0} → Known P → Known Q → Known (P × Q)
both (Yes p) (Yes q) = Yes (p, q)
both (Yes p) (No n) = No (λ h. n h.1)
both (No n) other = No (λ h. n h.0)

pub all_three : {P Q R : Type 0} → Known P → Known Q → Known R → Known (P × Q × R)
all_three p q r = known_as (both p (both q r)) (λ h. (h.0, h.1.0, h.1.1)) (λ h. (h.0, (h.1, h.2)))

pub all_four : {P Q R S : Type 0} → Known P → Known Q → Known R → Known S → Known (P × Q × R × S)
all_four p q r s = known_as (both p (both q (both r s))) (λ h. (h.0, h.1.0, h.1.1.0, h.1.1.1)) (λ h. (h.0, (h.1, (h.2, h.3))))

pub known_not : {P : Type 0} → Known P → Known (P → ⊥)
known_not (Yes p) = No (λ n. n p)
known_not (No n) = Yes n

-- ---- numbers and texts

pub below : (n m : ℕ) → Known (n < m)
below n m = elim (cases_lt n m) [ inl less ↦ Yes less | inr past ↦ No (λ l. omega (arith, l, past)) ]

pub at_most : (n m : ℕ) → Known (n ≤ m)
at_most n m = elim (cases_lt m n) [ inl more ↦ No (λ l. omega (arith, l, more)) | inr within ↦ Yes within ]

pub same_number : (n m : ℕ) → Known (n ≡ m)
same_number n m = elim (cases_order n m) [ inl same ↦ Yes same | inr (inl less) ↦ No (λ e. omega (arith, e, less)) | inr (inr more) ↦ No (λ e. omega (arith, e, more)) ]

pub same_text : (a b : List ℕ) → Known (a ≡ b)
same_text a b = elim (cases_Bool (bytes_eq a b)) [
  | inl t ↦ Yes ((bytes_eq-Decides a b).0 t)
  | inr f ↦ No (λ e. let t = (bytes_eq-Decides a b).1 e in absurd cc)
]

pub known_empty : {X : Type 0} (xs : List X) → Known (xs ≡ [])
known_empty [] = Yes refl
known_empty (x ∷ xs) = No (λ e. absurd cc)

-- ---- values that may be missing

pub known_missing : {X : Type 0} (o : Option X) → Known (o ≡ None)
known_missing None = Yes refl
known_missing (Some x) = No (λ e. absurd cc)

pub known_some : {X : Type 0} (o : Option X) → Known (IsSome o)
known_some None = No (λ e. absurd cc)
known_some (Some x) = Yes refl

pub known_if_some : {X : Type 0} (P : X → Type 0) → ((x : X) → Known (P x)) → (o : Option X) → Known (IfSome o P)
known_if_some P k None = Yes tt
known_if_some P k (Some x) = k x

-- ---- lists

pub known_all : {X : Type 0} (P : X → Type 0) → ((x : X) → Known (P x)) → (xs : List X) → Known (All P xs)
known_all P k [] = Yes (λ i d l. absurd (omega (arith, l)))
known_all P k (x ∷ xs) = known_as (both (k x) (known_all P k xs)) (λ h. All-cons P x xs h.0 h.1) (λ h. (All-head P x xs h, All-tail P x xs h))

pub any_first : {X : Type 0} (P : X → Type 0) (x : X) (xs : List X) → P x → Any P (x ∷ xs)
any_first P x xs p = (0, x, omega arith, refl, p)

pub any_later : {X : Type 0} (P : X → Type 0) (x : X) (xs : List X) → Any P xs → Any P (x ∷ xs)
any_later P x xs a = (suc a.0, a.1, omega (arith, a.2), a.3, a.4)

pub not_any : {X : Type 0} (P : X → Type 0) (x : X) (xs : List X) → (P x → ⊥) → (Any P xs → ⊥) → Any P (x ∷ xs) → ⊥
not_any {X} P x xs first later a = at_place a.0 a.1 a.2 a.3 a.4
  where
    at_place : (k : ℕ) (y : X) → k < length (x ∷ xs) → get_or (x ∷ xs) k y ≡ y → P y → ⊥
    at_place zero y l e p = first (subst P (sym e) p)
    at_place (suc k) y l e p = later (k, y, omega (arith, l), e, p)

pub known_any : {X : Type 0} (P : X → Type 0) → ((x : X) → Known (P x)) → (xs : List X) → Known (Any P xs)
known_any P k [] = No (λ a. omega (arith, a.2))
known_any P k (x ∷ xs) = go (k x) (known_any P k xs)
  where
    go : Known (P x) → Known (Any P xs) → Known (Any P (x ∷ xs))
    go (Yes p) other = Yes (any_first P x xs p)
    go (No n) (Yes a) = Yes (any_later P x xs a)
    go (No n) (No m) = No (not_any P x xs n m)

pub known_pairs : {X : Type 0} (R : X → X → Type 0) → ((x y : X) → Known (R x y)) → (xs : List X) → Known (AllPairs R xs)
known_pairs R k [] = Yes (λ i j d l m. absurd (omega (arith, m)))
known_pairs R k (x ∷ xs) =
    known_as (both (known_all (R x) (k x) xs) (known_pairs R k xs)) (λ h. AllPairs-cons R x xs h.0 h.1)
    (λ h. (λ j d l. h 0 (suc j) d (omega arith) (omega (arith, l)), λ i j d l m. h (suc i) (suc j) d (omega (arith, l)) (omega (arith, m))))

-- ---- numbers up to a limit

pub known_below : (P : ℕ → Type 0) → ((m : ℕ) → Known (P m)) → (n : ℕ) → Known ((m : ℕ) → m < n → P m)
known_below P k zero = Yes (λ m l. absurd (omega (arith, l)))
known_below P k (suc n) =
    known_as (both (known_below P k n) (k n)) (λ h m l. elim (cases_lt m n) [ inl less ↦ h.0 m less | inr past ↦ let same : n ≡ m = omega (arith, l, past) in subst P same h.1 ])
    (λ h. (λ m l. h m (omega (arith, l)), h n (omega arith)))

pub some_below : (P : ℕ → Type 0) → ((m : ℕ) → Known (P m)) → (n : ℕ) → Known ((m : ℕ) × (m < n) × P m)
some_below P k zero = No (λ h. omega (arith, h.1))
some_below P k (suc n) = go (k n) (some_below P k n)
  where
    go : Known (P n) → Known ((m : ℕ) × (m < n) × P m) → Known ((m : ℕ) × (m < suc n) × P m)
    go (Yes p) other = Yes (n, omega arith, p)
    go (No not) (Yes h) = Yes (h.0, omega (arith, h.1), h.2)
    go (No not) (No none) = No (λ h. elim (cases_lt h.0 n) [ inl less ↦ none (h.0, less, h.2) | inr past ↦ let same : h.0 ≡ n = omega (arith, h.1, past) in not (subst P same h.2) ])
