-- Passing over the lines of a text, up to the first that may not stand in a head.
use Rattle.std.proofs.Common.{◌≡◌, ℕ, ◌+◌, ◌<◌, List, [], ◌∷◌, ◌++◌, length, length-append, get_or, refl, sym, ap, subst, ◌∙◌, arith, append_assoc}
use Rattle.std.proofs.lemmas.List.{append-nil, length_push, get_or_append_left, Elements.{All-nil, All-push}}
use Rattle.script_spec.specs.{Lines.{lines_of}, Forms.{Version}, Texts.{version_of}}
use Rattle.script_read.specs.Reading.{IsNextLine, HasNoLine}
use Rattle.given_lines.specs.{Heads.{IsUndeclared, AreDeclared, IsFirstUndeclared}, Passing.{IsPassed}}
use Rattle.std.proofs.Math.Seq.{get_or-append_seam}

pub none_passed : (v : Version) (text : List ℕ) → IsPassed v text 0 text
none_passed v text = record { front = []; many = refl; lines = refl; declared = All-nil (λ line. IsUndeclared v line → ⊥); few = omega arith }

module _ (v : Version) (text : List ℕ) (n : ℕ) (left line more : List ℕ) (p : IsPassed v text n left) (x : IsNextLine left line more) where
  split : lines_of text ≡ p.front ++ (line ∷ lines_of more)
  split = p.lines ∙ ap (λ (ls : List (List ℕ)). p.front ++ ls) x.lines

  pub one_more_passed : (IsUndeclared v line → ⊥) → IsPassed v text (n + 1) more
  one_more_passed h = record {
    front = p.front ++ line ∷ [];
    many = length_push p.front line ∙ ap (λ k. k + 1) p.many;
    lines = split ∙ sym (append_assoc p.front (line ∷ []) (lines_of more));
    declared = All-push (λ l. IsUndeclared v l → ⊥) p.front line p.declared h;
    few = omega (arith, p.few, x.shorter);
  }

  at_line : get_or (lines_of text) n [] ≡ line
  at_line = ap (λ (ls : List (List ℕ)). get_or ls n []) split ∙ (ap (λ k. get_or (p.front ++ (line ∷ lines_of more)) k []) (sym p.many) ∙ get_or-append_seam p.front line (lines_of more) [])

  at_front : (k : ℕ) → k < n → get_or (lines_of text) k [] ≡ get_or p.front k []
  at_front k l = ap (λ (ls : List (List ℕ)). get_or ls k []) split ∙ get_or_append_left p.front (line ∷ lines_of more) [] k (omega (arith, l, p.many))

  pub first_at : v ≡ version_of (lines_of text) → IsUndeclared v line → IsFirstUndeclared text (n + 1)
  first_at e h =
      let whole : length (lines_of text) ≡ length p.front + length (line ∷ lines_of more) = ap length split ∙ length-append p.front (line ∷ lines_of more) in
      record {
        before = n;
        number = refl;
        within = omega (arith, whole, p.many);
        is = rw at_line (subst (λ u. IsUndeclared u line) e h);
        first = λ k l. rw (at_front k l) (subst (λ u. IsUndeclared u (get_or p.front k []) → ⊥) e (p.declared k [] (omega (arith, l, p.many))));
      }

pub all_passed : (v : Version) (text : List ℕ) (n : ℕ) (left : List ℕ) → v ≡ version_of (lines_of text) → IsPassed v text n left → HasNoLine left → AreDeclared (version_of (lines_of text)) (lines_of text)
all_passed v text n left e p x =
    let is : lines_of text ≡ p.front = p.lines ∙ (ap (λ (ls : List (List ℕ)). p.front ++ ls) x.lines ∙ append-nil p.front) in
    subst (λ u. AreDeclared u (lines_of text)) e (subst (AreDeclared v) (sym is) p.declared)
