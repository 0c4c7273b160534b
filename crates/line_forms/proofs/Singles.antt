-- Single words: what is read is what is spelled so, and what is spelled so is read.
use Rattle.std.proofs.Common.{◌≡◌, ℕ, ◌^◌, ◌<◌, ◌≤◌, true, false, ◌&&◌, eqb, leb, List, [], ◌∷◌, ◌++◌, length, take, drop, All, Option, Some, None, inl, inr, refl, sym, ap, subst, ◌∙◌, arith}
use Rattle.std.proofs.lemmas.{Option.{same_Some, none-some}, Cmp.{nat_list_eq_equiv}, Slice.Eq.{bytes_eq-Decides}}
use Rattle.std.proofs.lemmas.Bool.{cases_Bool, eqb-true, leb-true, le-leb, and_parts, and_from, or_cases, false_from_ne_true}
use Rattle.std.proofs.lemmas.List.{take_at, drop_at, take-append-drop, Elements.{All-cons, All-head, All-tail}}
use Rattle.std.specs.{Prelude.{nat_eq, IfSome}, List.{starts_with, list_all}, Str.{bytes_eq}, Fmt.{digits}, Cmp.Lexicographic.{same_text}}
use lib.Pointwise.{pointwise}
use Rattle.perf_base.specs.Scripts.{IsLetter, IsNameByte}
use Rattle.script_spec.specs.Forms as form
use Rattle.line_forms.specs.Words.{◌>>=◌, strip, next_of, end_of}
use Rattle.line_forms.specs.Leaves.{is_letter, is_name_byte, is_name, number, name, number_at, name_at, other_or, decimal_or}
use Rattle.line_forms.proofs.Spelling.{guard_some, number_takes, number_again}

-- ---- steps

pub bind_some : {A B : Type 0} (r : Option A) (f : A → Option B) (y : B) → (r >>= f) ≡ Some y → (x : A) × (r ≡ Some x) × (f x ≡ Some y)
bind_some (Some x) f y e = (x, refl, e)
bind_some None f y e = absurd cc

pub next_takes : (ws : List (List ℕ)) (x : List ℕ × List (List ℕ)) → next_of ws ≡ Some x → ws ≡ x.0 ∷ x.1
next_takes [] x e = absurd cc
next_takes (w ∷ ws) x e = ap (λ (y : List ℕ × List (List ℕ)). y.0 ∷ y.1) (same_Some (w, ws) x e)

pub end_takes : (ws : List (List ℕ)) (x : Unit {0}) → end_of ws ≡ Some x → ws ≡ []
end_takes [] x e = refl
end_takes (w ∷ ws) x e = absurd cc

-- ---- literals

pub strip_takes : (literal bytes rest : List ℕ) → strip literal bytes ≡ Some rest → bytes ≡ literal ++ rest
unfolding strip
strip_takes literal bytes rest e =
    let g = guard_some (starts_with nat_eq bytes literal) (drop (length literal) bytes) rest e in
    let front : literal ≡ take (length literal) bytes = same_text literal (take (length literal) bytes) (sym g.0) in
    sym (take-append-drop (length literal) bytes) ∙ (ap (λ (t : List ℕ). t ++ drop (length literal) bytes) (sym front) ∙ ap (λ (t : List ℕ). literal ++ t) g.1)

pub strip_again : (literal rest : List ℕ) → strip literal (literal ++ rest) ≡ Some rest
unfolding strip
strip_again literal rest =
    let front : take (length literal) (literal ++ rest) ≡ literal = take_at literal rest (length literal) refl in
    let back : drop (length literal) (literal ++ rest) ≡ rest = drop_at literal rest (length literal) refl in
    let self : pointwise nat_eq literal literal ≡ true = nat_list_eq_equiv.refl literal in
    rw (front, back, self) refl

pub bytes_eq-true : (a b : List ℕ) → bytes_eq a b ≡ true → a ≡ b
bytes_eq-true a b e = (bytes_eq-Decides a b).0 e

pub bytes_eq_self : (a : List ℕ) → bytes_eq a a ≡ true
bytes_eq_self a = (bytes_eq-Decides a a).1 refl

-- ---- numbers behind a literal

pub number_at-takes : (key : List ℕ) (b most : ℕ) (ws : List (List ℕ)) (x : ℕ × List (List ℕ)) → 2 ≤ b → b ≤ 16 → most ≤ 64
    → number_at key b most ws ≡ Some x → (x.0 < b ^ most) × (ws ≡ (key ++ digits b false x.0) ∷ x.1)
unfolding number_at
number_at-takes key b most ws x low high few e =
    let w = bind_some (next_of ws) (λ word. strip key word.0 >>= λ text. number b most text >>= λ n. Some (n, word.1)) x e in
    let t = bind_some (strip key w.0.0) (λ text. number b most text >>= λ n. Some (n, w.0.1)) x w.2 in
    let n = bind_some (number b most t.0) (λ n. Some (n, w.0.1)) x t.2 in
    let is : (n.0, w.0.1) ≡ x = same_Some (n.0, w.0.1) x n.2 in
    let num = number_takes b most n.0 t.0 low high few n.1 in
    let word : w.0.0 ≡ key ++ digits b false n.0 = strip_takes key w.0.0 t.0 t.1 ∙ ap (λ (y : List ℕ). key ++ y) num.1 in
    let words : ws ≡ (key ++ digits b false n.0) ∷ w.0.1 = next_takes ws w.0 w.1 ∙ ap (λ (y : List ℕ). y ∷ w.0.1) word in
    subst (λ (y : ℕ × List (List ℕ)). (y.0 < b ^ most) × (ws ≡ (key ++ digits b false y.0) ∷ y.1)) {x = (n.0, w.0.1)} is (num.0, words)

pub number_at-again : (key : List ℕ) (b most n : ℕ) (ws : List (List ℕ)) → 2 ≤ b → b ≤ 16 → 0 < most → most ≤ 64 → n < b ^ most
    → number_at key b most ((key ++ digits b false n) ∷ ws) ≡ Some (n, ws)
unfolding number_at
number_at-again key b most n ws low high some few h = rw (strip_again key (digits b false n), number_again b most n low high some few h) refl

-- ---- names

letter_from : (b : ℕ) → is_letter b ≡ true → IsLetter b
letter_from b h = let p = and_parts (leb 97 b) (leb b 122) h in (leb-true _ _ p.0, leb-true _ _ p.1)

letter_true : (b : ℕ) → IsLetter b → is_letter b ≡ true
letter_true b h = and_from (leb 97 b) (leb b 122) (le-leb _ _ h.0) (le-leb _ _ h.1)

byte_from : (b : ℕ) → is_name_byte b ≡ true → IsNameByte b
byte_from b h = grind (arith, or_cases, leb, eqb, letter_from, and_parts, leb-true, eqb-true)

byte_true : (b : ℕ) → IsNameByte b → is_name_byte b ≡ true
byte_true b (inl l) = let t : is_letter b ≡ true = letter_true b l in rw t refl
byte_true b (inr (inl d)) = grind (arith, leb, true, and_from, le-leb)
byte_true b (inr (inr e)) = rw e refl

bytes_from : (bs : List ℕ) → list_all is_name_byte bs ≡ true → All IsNameByte bs
bytes_from [] h = λ k d l. absurd (omega arith)
bytes_from (b ∷ bs) h =
    let p = and_parts (is_name_byte b) (list_all is_name_byte bs) h in
    All-cons IsNameByte b bs (byte_from b p.0) (bytes_from bs p.1)

bytes_true : (bs : List ℕ) → All IsNameByte bs → list_all is_name_byte bs ≡ true
bytes_true [] h = refl
bytes_true (b ∷ bs) h = and_from (is_name_byte b) (list_all is_name_byte bs) (byte_true b (All-head IsNameByte b bs h)) (bytes_true bs (All-tail IsNameByte b bs h))

name_from : (text : List ℕ) → is_name text ≡ true → form.IsWord text
name_from [] h = absurd cc
name_from (b ∷ bs) h =
    let p = and_parts (is_letter b) (leb (length bs) 30 && list_all is_name_byte bs) h in
    let q = and_parts (leb (length bs) 30) (list_all is_name_byte bs) p.1 in
    ((letter_from b p.0, bytes_from bs q.1), omega (arith, leb-true _ _ q.0))

name_true : (text : List ℕ) → form.IsWord text → is_name text ≡ true
name_true [] h = absurd h.0
name_true (b ∷ bs) h = grind (arith, leb, length, true, le-leb, bytes_true, letter_true)

pub name_takes : (text n : List ℕ) → name text ≡ Some n → form.IsWord n × (text ≡ n)
unfolding name
name_takes text n e =
    let g = guard_some (is_name text) text n e in
    (subst form.IsWord g.1 (name_from text g.0), g.1)

pub name_again : (n : List ℕ) → form.IsWord n → name n ≡ Some n
unfolding name
name_again n h = let t : is_name n ≡ true = name_true n h in rw t refl

pub name_at-takes : (key : List ℕ) (ws : List (List ℕ)) (x : List ℕ × List (List ℕ)) → name_at key ws ≡ Some x → form.IsWord x.0 × (ws ≡ (key ++ x.0) ∷ x.1)
unfolding name_at
name_at-takes key ws x e =
    let w = bind_some (next_of ws) (λ word. strip key word.0 >>= λ text. name text >>= λ n. Some (n, word.1)) x e in
    let t = bind_some (strip key w.0.0) (λ text. name text >>= λ n. Some (n, w.0.1)) x w.2 in
    let n = bind_some (name t.0) (λ n. Some (n, w.0.1)) x t.2 in
    let is : (n.0, w.0.1) ≡ x = same_Some (n.0, w.0.1) x n.2 in
    let num = name_takes t.0 n.0 n.1 in
    let word : w.0.0 ≡ key ++ n.0 = strip_takes key w.0.0 t.0 t.1 ∙ ap (λ (y : List ℕ). key ++ y) num.1 in
    let words : ws ≡ (key ++ n.0) ∷ w.0.1 = next_takes ws w.0 w.1 ∙ ap (λ (y : List ℕ). y ∷ w.0.1) word in
    subst (λ (y : List ℕ × List (List ℕ)). form.IsWord y.0 × (ws ≡ (key ++ y.0) ∷ y.1)) {x = (n.0, w.0.1)} is (num.0, words)

pub name_at-again : (key n : List ℕ) (ws : List (List ℕ)) → form.IsWord n → name_at key ((key ++ n) ∷ ws) ≡ Some (n, ws)
unfolding name_at
name_at-again key n ws h = rw (strip_again key n, name_again n h) refl

-- ---- a number or another word

other_takes : (text other : List ℕ) (o : Option ℕ) → other_or (bytes_eq text other) (number 10 20 text) ≡ Some o → IfSome o form.IsNumber × (text ≡ form.number_or other o)
other_takes text other o e = elim (cases_Bool (bytes_eq text other)) [
  | inl t ↦ grind (arith, None, same_Some, t, Option, ℕ, bytes_eq-true)
  | inr f ↦
      let m = bind_some (number 10 20 text) (λ m. Some (Some m)) o (sym (ap (λ b. other_or b (number 10 20 text)) f) ∙ e) in
      let is : Some m.0 ≡ o = same_Some (Some m.0) o m.2 in
      let num = number_takes 10 20 m.0 text (omega arith) (omega arith) (omega arith) m.1 in
      subst (λ (p : Option ℕ). IfSome p form.IsNumber × (text ≡ form.number_or other p)) is (num.0, num.1)
]

pub decimal_or-takes : (key other : List ℕ) (ws : List (List ℕ)) (x : Option ℕ × List (List ℕ)) → decimal_or key other ws ≡ Some x
    → IfSome x.0 form.IsNumber × (ws ≡ (key ++ form.number_or other x.0) ∷ x.1)
unfolding decimal_or
decimal_or-takes key other ws x e =
    let w = bind_some (next_of ws) (λ word. strip key word.0 >>= λ text. other_or (bytes_eq text other) (number 10 20 text) >>= λ n. Some (n, word.1)) x e in
    let t = bind_some (strip key w.0.0) (λ text. other_or (bytes_eq text other) (number 10 20 text) >>= λ n. Some (n, w.0.1)) x w.2 in
    let n = bind_some (other_or (bytes_eq t.0 other) (number 10 20 t.0)) (λ n. Some (n, w.0.1)) x t.2 in
    let is : (n.0, w.0.1) ≡ x = same_Some (n.0, w.0.1) x n.2 in
    let num = other_takes t.0 other n.0 n.1 in
    let word : w.0.0 ≡ key ++ form.number_or other n.0 = strip_takes key w.0.0 t.0 t.1 ∙ ap (λ (y : List ℕ). key ++ y) num.1 in
    let words : ws ≡ (key ++ form.number_or other n.0) ∷ w.0.1 = next_takes ws w.0 w.1 ∙ ap (λ (y : List ℕ). y ∷ w.0.1) word in
    subst (λ (y : Option ℕ × List (List ℕ)). IfSome y.0 form.IsNumber × (ws ≡ (key ++ form.number_or other y.0) ∷ y.1)) {x = (n.0, w.0.1)} is (num.0, words)

other_again : (other : List ℕ) (o : Option ℕ) → number 10 20 other ≡ None → IfSome o form.IsNumber → other_or (bytes_eq (form.number_or other o) other) (number 10 20 (form.number_or other o)) ≡ Some o
other_again other None none h = let t : bytes_eq other other ≡ true = bytes_eq_self other in rw t refl
other_again other (Some n) none h = grind (arith, Some, number_again, false, false_from_ne_true, none-some, bytes_eq-true)

pub decimal_or-again : (key other : List ℕ) (o : Option ℕ) (ws : List (List ℕ)) → number 10 20 other ≡ None → IfSome o form.IsNumber
    → decimal_or key other ((key ++ form.number_or other o) ∷ ws) ≡ Some (o, ws)
unfolding decimal_or
decimal_or-again key other o ws none h = rw (strip_again key (form.number_or other o), other_again other o none h) refl
