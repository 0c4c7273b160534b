-- A head has no ring, no line, no reader and no order.
use Rattle.std.proofs.Common.{◌≡◌, ℕ, ◌<◌, ◌⊎◌, All, List, [], ◌∷◌, ◌++◌, length, get_or, Option, None, inl, inr, refl, ap, ◌∙◌, arith}
use Rattle.std.proofs.lemmas.List.Elements.{All-head, All-tail, All-from_get_or}
use Rattle.std.specs.Prelude.{filter_map, flat_map}
use Rattle.perf_base.specs.Scripts.{Scripted}
use Rattle.script_spec.specs.{Lines.{lines_of, words_of}, Forms.{Version, Form, IsOfForm}, Texts.{version_of, AreSound}}
use Rattle.script_spec.specs.Meaning.{ring_said, reader_said, acts_said, cpu_line_at, tool_line_at, each_behind, cpu_lines_in, tool_lines_in, script_of}
use Rattle.script_spec.specs.Forms as form
use Rattle.given_lines.specs.Heads.{IsDeclaration, IsUndeclared, AreDeclared, IsHead, IsBare}

declared_or_not : (f : Form) → IsDeclaration f ⊎ (IsDeclaration f → ⊥)
declared_or_not (form.Ring number bytes) = inr (λ h. h)
declared_or_not (form.Processor number) = inr (λ h. h)
declared_or_not (form.OnProcessor line) = inr (λ h. h)
declared_or_not (form.Tool number) = inr (λ h. h)
declared_or_not (form.OnTool line) = inr (λ h. h)
declared_or_not (form.Reader ring tries batch) = inr (λ h. h)
declared_or_not (form.Order acts) = inr (λ h. h)
declared_or_not other = inl tt

declaration : (v : Version) (line : List ℕ) (f : Form) → IsOfForm v (words_of line) f → (IsUndeclared v line → ⊥) → IsDeclaration f
declaration v line f is h = elim (declared_or_not f) [ inl d ↦ d | inr n ↦ absurd (h (f, is, n)) ]

all_declarations : (v : Version) (lines : List (List ℕ)) (forms : List Form) → AreSound v lines forms → AreDeclared v lines → All IsDeclaration forms
all_declarations v lines forms s d =
    All-from_get_or IsDeclaration forms form.End (λ k l.
    let w : k < length lines = omega (arith, l, s.as_many) in
    declaration v (get_or lines k []) (get_or forms k form.End) (s.each k w).is (d k [] w))

-- ---- what declarations do not say

no_ring : (f : Form) → IsDeclaration f → ring_said f ≡ None
no_ring (form.Ring number bytes) h = absurd h
no_ring other h = refl

no_reader : (f : Form) → IsDeclaration f → reader_said f ≡ None
no_reader (form.Reader ring tries batch) h = absurd h
no_reader other h = refl

no_acts : (f : Form) → IsDeclaration f → acts_said f ≡ []
no_acts (form.Order acts) h = absurd h
no_acts other h = refl

no_cpu_line : (cpu : ℕ) (before : List Form) (f : Form) → IsDeclaration f → cpu_line_at cpu (before, f) ≡ None
no_cpu_line cpu before (form.OnProcessor line) h = absurd h
no_cpu_line cpu before other h = refl

no_tool_line : (tool : ℕ) (before : List Form) (f : Form) → IsDeclaration f → tool_line_at tool (before, f) ≡ None
no_tool_line tool before (form.OnTool line) h = absurd h
no_tool_line tool before other h = refl

nothing_said : {B : Type 0} (said : Form → Option B) → ((f : Form) → IsDeclaration f → said f ≡ None) → (forms : List Form) → All IsDeclaration forms → filter_map said forms ≡ []
nothing_said said none [] h = refl
nothing_said said none (f ∷ forms) h = rw (none f (All-head IsDeclaration f forms h)) (nothing_said said none forms (All-tail IsDeclaration f forms h))

nothing_behind : {B : Type 0} (said : List Form × Form → Option B) → ((before : List Form) (f : Form) → IsDeclaration f → said (before, f) ≡ None) → (before forms : List Form) → All IsDeclaration forms
    → filter_map said (each_behind before forms) ≡ []
nothing_behind said none before [] h = refl
nothing_behind said none before (f ∷ forms) h = rw (none before f (All-head IsDeclaration f forms h)) (nothing_behind said none (before ++ f ∷ []) forms (All-tail IsDeclaration f forms h))

no_order : (forms : List Form) → All IsDeclaration forms → flat_map acts_said forms ≡ []
no_order [] h = refl
no_order (f ∷ forms) h = rw (no_acts f (All-head IsDeclaration f forms h)) (no_order forms (All-tail IsDeclaration f forms h))

pub bare_head : (text : List ℕ) (s : Scripted) → IsHead text s → IsBare s
unfolding script_of
bare_head text s h =
    let forms = h.stands.0 in
    let all = all_declarations (version_of (lines_of text)) (lines_of text) forms h.stands.1.sound h.declares in
    let cpu : (n : ℕ) → cpu_lines_in forms n ≡ [] = λ n. nothing_behind (cpu_line_at n) (no_cpu_line n) [] forms all in
    let tool : (n : ℕ) → tool_lines_in forms n ≡ [] = λ n. nothing_behind (tool_line_at n) (no_tool_line n) [] forms all in
    record {
      rings = ap (λ (x : Scripted). x.rings) h.stands.2 ∙ nothing_said ring_said no_ring forms all;
      cpu_lines = ap (λ (x : Scripted). x.cpu_lines) h.stands.2 ∙ rw (cpu 0, cpu 1, cpu 2, cpu 3, cpu 4, cpu 5, cpu 6, cpu 7) refl;
      tool_lines = ap (λ (x : Scripted). x.tool_lines) h.stands.2 ∙ rw (tool 0, tool 1, tool 2, tool 3) refl;
      readers = ap (λ (x : Scripted). x.readers) h.stands.2 ∙ nothing_said reader_said no_reader forms all;
      order = ap (λ (x : Scripted). x.order) h.stands.2 ∙ no_order forms all;
    }
