-- Lists of which each begins the other, the last entry, and lists that never fall.
use Rattle.std.proofs.Common.{◌≡◌, ℕ, zero, suc, ◌-◌, ◌<◌, ◌≤◌, List, [], ◌∷◌, ◌++◌, length, get_or, slice_get, Option, IfSome, None, Some, refl, sym, ap, ◌∙◌, subst, ⊎_elim, append-nil, length-append, eq-or-lt_of_le, arith}
use Rattle.std.proofs.lemmas.{Option.{slice_get-get_or}, List.Quantifiers.{all_pairs_push}}
use mathlib.Core.{Option.{some, some-ne-none}, List.{IsPrefix}}
use lib.ListN.{get_elem?}
use Rattle.perf_base.proofs.Prefixes.{length-prefix}
use Rattle.user_page.specs.{declared.look.Look.{Look}, Looks.{last_look, MayFollow, NeverFalls, IsLookList}}

module _ {A : Type 0} where
  prefix_whole : (xs rest ys : List A) → xs ++ rest ≡ ys → length ys ≤ length xs → xs ≡ ys
  prefix_whole xs [] ys e h = sym (append-nil xs) ∙ e
  prefix_whole xs (x ∷ rest) ys e h = absurd (omega (arith, h, ap length e, length-append xs (x ∷ rest)))

  -- of two lists each begins the other: they are one
  pub prefix_both : (xs ys : List A) → IsPrefix xs ys → IsPrefix ys xs → xs ≡ ys
  prefix_both xs ys p q = prefix_whole xs p.0 ys p.1 (length-prefix ys xs q)

  pub at_within : (l : List A) (i : ℕ) (a : A) → get_elem? l i ≡ some a → i < length l
  at_within [] i a at = absurd (some-ne-none a (sym at))
  at_within (x ∷ xs) zero a at = omega arith
  at_within (x ∷ xs) (suc i) a at = let h = at_within xs i a at in omega (arith, h)

at_end : (xs : List Look) (x : Look) → slice_get (xs ++ x ∷ []) (length xs) ≡ Some x
at_end [] x = refl
at_end (y ∷ xs) x = at_end xs x

pub last_added : (xs : List Look) (x : Look) → last_look (xs ++ x ∷ []) ≡ Some x
last_added xs x =
    let e : length (xs ++ x ∷ []) - 1 ≡ length xs = omega (arith, length-append xs (x ∷ [])) in
    ap (slice_get (xs ++ x ∷ [])) e ∙ at_end xs x

pub rises_more : (xs : List Look) (x : Look) → NeverFalls xs → MayFollow xs x → NeverFalls (xs ++ x ∷ [])
rises_more xs x rises may = all_pairs_push (λ (a b : Look). a.at ≤ b.at) xs x rises (λ k d below.
    let n : ℕ = length xs - 1 in
    let last : slice_get xs n ≡ Some (get_or xs n d) = slice_get-get_or xs n d (omega arith) in
    let end : (get_or xs n d).at ≤ x.at = subst (λ o. IfSome o (λ (l : Look). l.at ≤ x.at)) last may in
    ⊎_elim (λ (same : k ≡ n). omega (arith, ap (λ (j : ℕ). (get_or xs j d).at) same, end))
    (λ (before : k < n). let r : (get_or xs k d).at ≤ (get_or xs n d).at = rises k n d before (omega arith) in omega (arith, r, end))
    (eq-or-lt_of_le (let h : k ≤ n = omega (arith, below) in h)))

pub list_more : (xs : List Look) (x : Look) → IsLookList xs → MayFollow xs x → IsLookList (xs ++ x ∷ [])
list_more xs x sound may = record { some = omega (arith, length-append xs (x ∷ [])); rises = rises_more xs x sound.rises may }

pub follows_at : (o : Option Look) (at : ℕ) (x : Look) → IfSome o (λ l. l.at ≡ at) → at ≤ x.at → IfSome o (λ l. l.at ≤ x.at)
follows_at None at x is more = tt
follows_at (Some l) at x is more = omega (arith, is, more)
