-- Beginnings of lists.
use Rattle.std.proofs.Common.{◌≤◌, List, [], ◌++◌, length, sym, ap, ◌∙◌, subst, append_assoc, append-nil, length-append, arith}
use mathlib.Core.List.{IsPrefix}

module _ {A : Type 0} where
  pub prefix_self : (xs : List A) → IsPrefix xs xs
  prefix_self xs = ([], append-nil xs)

  pub prefix_more : (xs ys zs : List A) → IsPrefix xs ys → IsPrefix xs (ys ++ zs)
  prefix_more xs ys zs p = (p.0 ++ zs, sym (append_assoc xs p.0 zs) ∙ ap (λ (l : List A). l ++ zs) p.1)

  pub prefix_through : (xs ys zs : List A) → IsPrefix xs ys → IsPrefix ys zs → IsPrefix xs zs
  prefix_through xs ys zs p q = let P : List A → Type 0 = λ l. IsPrefix xs l in subst P q.1 (prefix_more xs ys q.0 p)

  pub length-prefix : (xs ys : List A) → IsPrefix xs ys → length xs ≤ length ys
  length-prefix xs ys p = omega (arith, length-append xs p.0, ap length p.1)
