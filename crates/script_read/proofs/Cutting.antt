-- The lines of a text, from the left, and its version.
use Rattle.std.proofs.Common.{◌≡◌, ℕ, ◌+◌, ◌-◌, ◌<◌, ◌≤◌, Bool, true, false, eqb, leb, All, List, [], ◌∷◌, ◌++◌, length, length-append, length-take, length-drop, get_or, take, drop, Option, Some, None, inl, inr, refl, sym, ap, subst, ◌∙◌, arith}
use Rattle.std.proofs.lemmas.{Bool.{and_parts, and_from, leb-true, le-leb, ne_eqb, cases_Bool}, List.{drop_more, take_all, take-append-drop, get_or-take, Elements.{All-head, All-tail, All-weaker}}}
use Rattle.std.proofs.lemmas.{List.Sums.{prefix_len_passes}, Slice.Eq.{bytes_eq-Decides}, Cmp.{nat_list_eq_equiv}}
use Rattle.std.specs.{Prelude.{codes, nat_eq}, List.{join_with_byte, prefix_len, starts_with}, Str.{bytes_eq}, Cmp.Lexicographic.{same_text}}
use Rattle.script_spec.specs.{Lines.{pieces, all_but_last, last_one, lines_of}, Texts.{version_of}, Faults.{IsPrintable}}
use Rattle.script_spec.specs.Forms as form
use Rattle.line_forms.{specs.Words.{cut, pieces_behind}, proofs.{Cuts.{pieces_cut}, Sequences.{cut-takes, cut-again}, Optionals.{join_pieces}}}
use Rattle.script_read.specs.Reading.{is_plain, IsNextLine, HasNoLine}

pub no_line : (text front : List ℕ) → (front, None) ≡ cut 10 text → HasNoLine text
no_line text front e =
    let one : pieces 10 text ≡ front ∷ [] = pieces_cut 10 text ∙ ap (λ (x : List ℕ × Option (List ℕ)). x.0 ∷ pieces_behind 10 x.1) (sym e) in
    let whole : front ≡ text = ap (join_with_byte 10) (sym one) ∙ join_pieces 10 text in
    record { lines = ap all_but_last one; rest = ap last_one one ∙ whole }

more_pieces : (line : List ℕ) (ps : List (List ℕ)) (x : List ℕ) (xs : List (List ℕ)) → ps ≡ x ∷ xs
    → (all_but_last (line ∷ ps) ≡ line ∷ all_but_last ps) × (last_one (line ∷ ps) ≡ last_one ps)
more_pieces line ps x xs e = (rw e refl, rw e refl)

whole_text : (text line more : List ℕ) → (line, Some more) ≡ cut 10 text → text ≡ line ++ (10 ∷ more)
whole_text text line more e =
    cut-takes 10 text more (ap (λ (x : List ℕ × Option (List ℕ)). x.1) (sym e)) ∙ ap (λ (x : List ℕ × Option (List ℕ)). x.0 ++ (10 ∷ more)) (sym e)

pub next_line_is : (text line more : List ℕ) → (line, Some more) ≡ cut 10 text → IsNextLine text line more
next_line_is text line more e =
    let all : pieces 10 text ≡ line ∷ pieces 10 more = pieces_cut 10 text ∙ ap (λ (x : List ℕ × Option (List ℕ)). x.0 ∷ pieces_behind 10 x.1) (sym e) in
    let m = more_pieces line (pieces 10 more) _ _ (pieces_cut 10 more) in
    let n : length text ≡ length (line ++ (10 ∷ more)) = ap length (whole_text text line more e) in
    record { lines = ap all_but_last all ∙ m.0; rest = ap last_one all ∙ m.1; shorter = omega (arith, n, length-append line (10 ∷ more)) }

-- ---- a line of printable bytes

plain_from : (b : ℕ) → is_plain b ≡ true → IsPrintable b
plain_from b t = let p = and_parts (leb 32 b) (leb b 126) t in (leb-true _ _ p.0, leb-true _ _ p.1)

plain_to : (b : ℕ) → IsPrintable b → is_plain b ≡ true
plain_to b p = and_from (leb 32 b) (leb b 126) (le-leb _ _ p.0) (le-leb _ _ p.1)

plain_front : (text : List ℕ) (n : ℕ) → n ≡ prefix_len is_plain text → All IsPrintable (take n text)
plain_front text n e = λ k d l.
    let m : k < n = omega (arith, l, length-take n text) in
    subst IsPrintable (sym (get_or-take n text k d m)) (plain_from (get_or text k d) (prefix_len_passes is_plain text k d (omega (arith, m, e))))

plain_length : (line more : List ℕ) → All IsPrintable line → prefix_len is_plain (line ++ (10 ∷ more)) ≡ length line
plain_length [] more all = refl
plain_length (b ∷ line) more all =
    let ih : prefix_len is_plain (line ++ (10 ∷ more)) ≡ length line = plain_length line more (All-tail IsPrintable b line all) in
    rw (plain_to b (All-head IsPrintable b line all)) (omega (arith, ih))

-- the printable bytes in front end at an LF
pub plain_line : (text : List ℕ) (n : ℕ) → n ≡ prefix_len is_plain text → n < length text → get_or text n 0 ≡ 10 → IsNextLine text (take n text) (drop (n + 1) text) × All IsPrintable (take n text)
plain_line text n e l at =
    let front = plain_front text n e in
    let whole : text ≡ take n text ++ (10 ∷ drop (n + 1) text) = sym (take-append-drop n text) ∙ ap (λ (t : List ℕ). take n text ++ t) (drop_more text n 0 l ∙ ap (λ (b : ℕ). b ∷ drop (n + 1) text) at) in
    let none = All-weaker IsPrintable (λ b. eqb b 10 ≡ false) (λ b p. ne_eqb b 10 (λ is. omega (arith, is, p.0))) (take n text) front in
    (next_line_is text (take n text) (drop (n + 1) text) (sym (ap (cut 10) whole ∙ cut-again 10 (take n text) (drop (n + 1) text) none)), front)

-- all that is behind a place
pub behind_all : (n : ℕ) (text : List ℕ) → take (length text - n) (drop n text) ≡ drop n text
behind_all n text = take_all (length text - n) (drop n text) (omega (arith, length-drop n text))

at_behind : (line more : List ℕ) → get_or (line ++ (10 ∷ more)) (length line) 0 ≡ 10
at_behind [] more = refl
at_behind (b ∷ line) more = at_behind line more

-- they end at another byte
pub other_line : (text line more : List ℕ) (n : ℕ) → (line, Some more) ≡ cut 10 text → n ≡ prefix_len is_plain text → (n < length text → get_or text n 0 ≡ 10 → ⊥) → All IsPrintable line → ⊥
other_line text line more n c e other all =
    let whole = whole_text text line more c in
    let len : n ≡ length line = e ∙ (ap (prefix_len is_plain) whole ∙ plain_length line more all) in
    let long : length text ≡ length (line ++ (10 ∷ more)) = ap length whole in
    other (omega (arith, len, long, length-append line (10 ∷ more))) (ap (λ k. get_or text k 0) len ∙ (ap (λ (t : List ℕ). get_or t (length line) 0) whole ∙ at_behind line more))

-- ---- the version of a text

second : (rest : List ℕ) → version_of (lines_of (codes "perf 2\n" ++ rest)) ≡ form.Two
unfolding pieces
second rest = rw (pieces_cut 10 rest) refl

pub version_two : (text : List ℕ) → starts_with nat_eq text (codes "perf 2\n") ≡ true → version_of (lines_of text) ≡ form.Two
version_two text t =
    let front : codes "perf 2\n" ≡ take 7 text = same_text (codes "perf 2\n") (take 7 text) (sym t) in
    let whole : text ≡ codes "perf 2\n" ++ drop 7 text = sym (take-append-drop 7 text) ∙ ap (λ (x : List ℕ). x ++ drop 7 text) (sym front) in
    ap (λ (x : List ℕ). version_of (lines_of x)) whole ∙ second (drop 7 text)

first_line : (text line more : List ℕ) → (line, Some more) ≡ cut 10 text → starts_with nat_eq text (codes "perf 2\n") ≡ false → bytes_eq line (codes "perf 2") ≡ false
first_line text line more e f = elim (cases_Bool (bytes_eq line (codes "perf 2"))) [
  | inl t ↦
      let is : line ≡ codes "perf 2" = (bytes_eq-Decides line (codes "perf 2")).0 t in
      let starts : starts_with nat_eq text (codes "perf 2\n") ≡ true = ap (λ (x : List ℕ). starts_with nat_eq x (codes "perf 2\n")) (whole_text text line more e ∙ ap (λ (x : List ℕ). x ++ (10 ∷ more)) is) in
      absurd cc
  | inr n ↦ n
]

pub version_one : (text : List ℕ) → starts_with nat_eq text (codes "perf 2\n") ≡ false → version_of (lines_of text) ≡ form.One
version_one text f = go (cut 10 text) refl
  where
    go : (x : List ℕ × Option (List ℕ)) → x ≡ cut 10 text → version_of (lines_of text) ≡ form.One
    go (line, None) e = ap version_of (no_line text line e).lines
    go (line, Some more) e = ap version_of (next_line_is text line more e).lines ∙ rw (first_line text line more e f) refl
