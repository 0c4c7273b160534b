-- One step of reading a line, with what follows: what was read stands there.
use Rattle.std.proofs.{Common.{◌≡◌, ℕ, List, [], ◌∷◌, ◌++◌, Option, Some, refl, ap, ◌∙◌, arith}, lemmas.Option.{same_Some}}
use Rattle.std.specs.Prelude.{decimal, IfSome}
use Rattle.script_spec.specs.Forms as form
use Rattle.line_forms.specs.{Words.{◌>>=◌, next_of, end_of}, Leaves.{decimal_at, hexadecimal_at, name_at, decimal_or}}
use Rattle.line_forms.specs.Shapes.{one_number, two_numbers}
use Rattle.line_forms.proofs.Singles.{bind_some, next_takes, end_takes, number_at-takes, number_at-again, name_at-takes, decimal_or-takes}

-- a word was read, what it spells fits, and then the rest was read
pub record Step {X B : Type 0} (Fits : X → Type 0) (word : X → List ℕ) (ws : List (List ℕ)) (f : X × List (List ℕ) → Option B) (y : B) : Type 0 where
  pub n : X
  pub rest : List (List ℕ)
  pub fits : Fits n
  pub words : ws ≡ word n ∷ rest
  pub then : f (n, rest) ≡ Some y

pub decimal_then : {B : Type 0} (key : List ℕ) (ws : List (List ℕ)) (f : ℕ × List (List ℕ) → Option B) (y : B) → (decimal_at key ws >>= f) ≡ Some y → Step form.IsNumber (λ n. key ++ decimal n) ws f y
decimal_then key ws f y e =
    let x = bind_some (decimal_at key ws) f y e in
    let t = number_at-takes key 10 20 ws x.0 (omega arith) (omega arith) (omega arith) x.1 in
    record { n = x.0.0; rest = x.0.1; fits = t.0; words = t.1; then = x.2 }

pub hexadecimal_then : {B : Type 0} (key : List ℕ) (ws : List (List ℕ)) (f : ℕ × List (List ℕ) → Option B) (y : B) → (hexadecimal_at key ws >>= f) ≡ Some y → Step form.IsHexadecimal (λ n. key ++ form.hexadecimal n) ws f y
hexadecimal_then key ws f y e =
    let x = bind_some (hexadecimal_at key ws) f y e in
    let t = number_at-takes key 16 16 ws x.0 (omega arith) (omega arith) (omega arith) x.1 in
    record { n = x.0.0; rest = x.0.1; fits = t.0; words = t.1; then = x.2 }

pub name_then : {B : Type 0} (key : List ℕ) (ws : List (List ℕ)) (f : List ℕ × List (List ℕ) → Option B) (y : B) → (name_at key ws >>= f) ≡ Some y → Step form.IsWord (λ n. key ++ n) ws f y
name_then key ws f y e =
    let x = bind_some (name_at key ws) f y e in
    let t = name_at-takes key ws x.0 x.1 in
    record { n = x.0.0; rest = x.0.1; fits = t.0; words = t.1; then = x.2 }

pub other_then : {B : Type 0} (key other : List ℕ) (ws : List (List ℕ)) (f : Option ℕ × List (List ℕ) → Option B) (y : B) → (decimal_or key other ws >>= f) ≡ Some y → Step (λ n. IfSome n form.IsNumber) (λ n. key ++ form.number_or other n) ws f y
other_then key other ws f y e =
    let x = bind_some (decimal_or key other ws) f y e in
    let t = decimal_or-takes key other ws x.0 x.1 in
    record { n = x.0.0; rest = x.0.1; fits = t.0; words = t.1; then = x.2 }

pub next_then : {B : Type 0} (ws : List (List ℕ)) (f : List ℕ × List (List ℕ) → Option B) (y : B) → (next_of ws >>= f) ≡ Some y → Step (λ n. Unit {0}) (λ n. n) ws f y
next_then ws f y e =
    let x = bind_some (next_of ws) f y e in
    record { n = x.0.0; rest = x.0.1; fits = tt; words = next_takes ws x.0 x.1; then = x.2 }

-- nothing was left
pub record Ended {B : Type 0} (ws : List (List ℕ)) (f : Unit {0} → Option B) (y : B) : Type 0 where
  pub words : ws ≡ []
  pub then : f tt ≡ Some y

pub end_then : {B : Type 0} (ws : List (List ℕ)) (f : Unit {0} → Option B) (y : B) → (end_of ws >>= f) ≡ Some y → Ended ws f y
end_then ws f y e =
    let x = bind_some (end_of ws) f y e in
    record { words = end_takes ws x.0 x.1; then = x.2 }

-- a word more in front
pub more : (w : List ℕ) (xs ys : List (List ℕ)) → xs ≡ ys → w ∷ xs ≡ w ∷ ys
more w xs ys e = ap (λ (ws : List (List ℕ)). w ∷ ws) e

-- what is spelled so is read
pub decimal-again : (key : List ℕ) (n : ℕ) (ws : List (List ℕ)) → form.IsNumber n → decimal_at key ((key ++ decimal n) ∷ ws) ≡ Some (n, ws)
decimal-again key n ws h = number_at-again key 10 20 n ws (omega arith) (omega arith) (omega arith) (omega arith) h

pub hexadecimal-again : (key : List ℕ) (n : ℕ) (ws : List (List ℕ)) → form.IsHexadecimal n → hexadecimal_at key ((key ++ form.hexadecimal n) ∷ ws) ≡ Some (n, ws)
hexadecimal-again key n ws h = number_at-again key 16 16 n ws (omega arith) (omega arith) (omega arith) (omega arith) h

-- one number, and two
pub one-takes : (ws : List (List ℕ)) (n : ℕ) → one_number ws ≡ Some n → form.IsNumber n × (ws ≡ decimal n ∷ [])
unfolding one_number
one-takes ws n e =
    let a = decimal_then [] ws _ n e in
    let z = end_then a.rest _ n a.then in
    rw (← same_Some a.n n z.then) (a.fits, a.words ∙ more (decimal a.n) a.rest [] z.words)

pub one-again : (n : ℕ) → form.IsNumber n → one_number (decimal n ∷ []) ≡ Some n
unfolding one_number
one-again n h = rw (decimal-again [] n [] h) refl

pub two-takes : (ws : List (List ℕ)) (x : ℕ × ℕ) → two_numbers ws ≡ Some x → form.IsNumber x.0 × form.IsNumber x.1 × (ws ≡ decimal x.0 ∷ decimal x.1 ∷ [])
unfolding two_numbers
two-takes ws x e =
    let a = decimal_then [] ws _ x e in
    let b = decimal_then [] a.rest _ x a.then in
    let z = end_then b.rest _ x b.then in
    rw (← same_Some (a.n, b.n) x z.then) (a.fits, b.fits, a.words ∙ more (decimal a.n) a.rest _ (b.words ∙ more (decimal b.n) b.rest [] z.words))

pub two-again : (n m : ℕ) → form.IsNumber n → form.IsNumber m → two_numbers (decimal n ∷ decimal m ∷ []) ≡ Some (n, m)
unfolding two_numbers
two-again n m h k = rw (decimal-again [] n (decimal m ∷ []) h, decimal-again [] m [] k) refl
