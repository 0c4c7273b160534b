-- Sections of numbers from 0 on, written one after the other.
use Rattle.std.proofs.Common.{◌≡◌, ℕ, ◌+◌, ◌<◌, List, [], length, get_or, take, Result, Ok, Err, sym, ap, ◌∙◌, arith}
use Rattle.std.{proofs.lemmas.List.FromFn.{length-range_with_len}, specs.{Prelude.{flat_map}, Result.{IsErr}, List.{range_with_len}}}
use Rattle.perf_io.{specs.{Outside.{SinkShows}, Wrote.{Wrote}, declared.outside.Failed.{Failed}}, proofs.Wrote.{wrote_text}}
use Rattle.script_spec.specs.Forms.{Form}
use Rattle.script_print.{specs.Words.{text}, proofs.{Lists.{number_at}, Loops.{loop_exit_is, loop_more_is}, Whole.{all_text}}}

-- n lists of lines, the forms of each, and what is written of each
module _ {X : Type 0} (forms : ℕ → List X → List Form) (written : ℕ → List X → List ℕ) (is : (i : ℕ) (lines : List X) → written i lines ≡ text (forms i lines)) (lists : List (List X)) (n : ℕ) where
  abbrev pub section_of : ℕ → List Form
  section_of i = forms i (get_or lists i [])

  within : (i : ℕ) → i < n → i < length (range_with_len 0 n)
  within i l = omega (arith, l, length-range_with_len 0 n)

  at : (i : ℕ) (lines : List X) → lines ≡ get_or lists i [] → written i lines ≡ text (section_of i)
  at i lines e = is i lines ∙ ap (λ ls. text (forms i ls)) e

  module _ {K : Type 0} {shows : SinkShows K} where
    -- one section more
    pub section_more : (i : ℕ) (lines : List X) {a b c : K} → i < n → lines ≡ get_or lists i [] → Wrote shows a b (Ok tt) (text (flat_map section_of (take i (range_with_len 0 n))))
        → Wrote shows b c (Ok tt) (written i lines) → Wrote shows a c (Ok tt) (text (flat_map section_of (take (i + 1) (range_with_len 0 n))))
    section_more i lines l e p q = loop_more_is (all_text section_of) (range_with_len 0 n) i i (within i l) (sym (number_at n i i l)) p (wrote_text (at i lines e) q)

    -- the front of a section
    pub section_exit : (i : ℕ) (lines : List X) {a b c : K} {f : Failed} {r : Result (Unit {0}) Failed} → i < n → lines ≡ get_or lists i [] → Wrote shows a b (Ok tt) (text (flat_map section_of (take i (range_with_len 0 n))))
        → IsErr r → Wrote shows b c (Err f) (written i lines) → Wrote shows a c r (text (flat_map section_of (range_with_len 0 n)))
    section_exit i lines l e p q w = loop_exit_is (all_text section_of) (range_with_len 0 n) i i (within i l) (sym (number_at n i i l)) p q (wrote_text (at i lines e) w)
