-- A text has at least as many bytes as its script's order has acts.
use Rattle.std.specs.{Prelude.{◌≡◌, ℕ, ◌+◌, ◌<◌, ◌≤◌, ◌==◌, Bool, true, false, List, [], ◌∷◌, map, length, slice_index_or, codes}, List.{sum_by}}
use Rattle.std.proofs.{Common.{suc, arith, ap}, lemmas.List.{length-map, Concat.{length-flat_map}, Sums.{sum_by-cons, count_by-le-length}}}
use Rattle.perf_base.specs.Scripts.{Scripted}
use Rattle.script_spec.specs.{Acts.{act_text}, Lines.{pieces, put_before, all_but_last, lines_of, words_of}, Forms.{Version, Form, IsOfForm}}
use Rattle.script_spec.specs.{Meaning.{acts_said, acts_in, script_of}, Texts.{version_of, AreSound, StandsFor}}
use Rattle.script_spec.specs.Forms as form
use Rattle.perf_ask.proofs.LineCounts.{length-pieces}

-- the lines of a text have no more bytes than the text
bytes-put : (ends : Bool) (b : ℕ) (ps : List (List ℕ)) → sum_by length (put_before ends b ps) ≤ sum_by length ps + 1
bytes-put true b ps = omega (arith, sum_by-cons length [] ps)
bytes-put false b [] = omega arith
bytes-put false b (p ∷ ps) = omega (arith, sum_by-cons length (b ∷ p) ps, sum_by-cons length p ps)

bytes-pieces : (c : ℕ) (bytes : List ℕ) → sum_by length (pieces c bytes) ≤ length bytes
unfolding pieces
bytes-pieces c [] = omega arith
bytes-pieces c (b ∷ bytes) = omega (arith, bytes-put (b == c) b (pieces c bytes), bytes-pieces c bytes)

bytes-front : (ps : List (List ℕ)) → sum_by length (all_but_last ps) ≤ sum_by length ps
bytes-front [] = omega arith
bytes-front (p ∷ []) = omega arith
bytes-front (p ∷ q ∷ ps) = omega (arith, sum_by-cons length p (all_but_last (q ∷ ps)), sum_by-cons length p (q ∷ ps), bytes-front (q ∷ ps))

bytes-lines : (text : List ℕ) → sum_by length (lines_of text) ≤ length text
bytes-lines text = omega (arith, bytes-front (pieces 10 text), bytes-pieces 10 text)

-- a line has a space before each act of its form
acts-line : (version : Version) (line : List ℕ) (f : Form) → IsOfForm version (words_of line) f → length (acts_said f) ≤ length line
acts-line version line (form.Order acts) h =
    let words : length (words_of line) ≡ length (codes "order" ∷ map act_text acts) = ap length h.is in
    omega (arith, words, length-map acts act_text, length-pieces 32 line, count_by-le-length (λ b. b == 32) line)
acts-line version line other h = omega arith

-- a sum is no larger than another whose terms are no smaller, each than the one at its place
sums-at : {X Y : Type 0} (f : X → ℕ) (g : Y → ℕ) (d : X) (e : Y) (xs : List X) (ys : List Y) → length xs ≡ length ys
    → ((k : ℕ) → k < length ys → f (slice_index_or xs k d) ≤ g (slice_index_or ys k e)) → sum_by f xs ≤ sum_by g ys
sums-at f g d e [] ys as_many each = omega arith
sums-at f g d e (x ∷ xs) [] as_many each = absurd (omega (arith, as_many))
sums-at f g d e (x ∷ xs) (y ∷ ys) as_many each =
    let first : f x ≤ g y = each 0 (omega arith) in
    let rest : sum_by f xs ≤ sum_by g ys = sums-at f g d e xs ys (omega (arith, as_many)) (λ k l. each (suc k) (omega (arith, l))) in
    omega (arith, first, rest, sum_by-cons f x xs, sum_by-cons g y ys)

-- the forms of sound lines have no more acts than the lines have bytes
acts-lines : (version : Version) (lines : List (List ℕ)) (forms : List Form) → AreSound version lines forms → length (acts_in forms) ≤ sum_by length lines
acts-lines version lines forms h =
    let each : (k : ℕ) → k < length lines → length (acts_said (slice_index_or forms k form.End)) ≤ length (slice_index_or lines k []) = λ k l. acts-line version _ _ (h.each k l).is in
    omega (arith, length-flat_map acts_said forms, sums-at (λ f. length (acts_said f)) length form.End [] forms lines h.as_many each)

pub few-acts : (text : List ℕ) (s : Scripted) → StandsFor text s → length s.order ≤ length text
unfolding script_of
few-acts text s (forms, whole, is) =
    omega (arith, ap (λ r. length r.order) is, acts-lines (version_of (lines_of text)) (lines_of text) forms whole.sound, bytes-lines text)
