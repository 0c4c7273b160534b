-- The words of a form have neither spaces nor bytes outside the printable ones.
use Rattle.std.proofs.Common.{◌≡◌, ℕ, zero, suc, ◌/◌, ◌%◌, ◌<◌, ◌≤◌, Bool, true, false, ◌&&◌, eqb, leb, ltb, List, [], ◌∷◌, ◌++◌, map, get_or, Option, Some, None, inl, inr, refl, arith}
use Rattle.std.proofs.lemmas.Bool.{cases_lt, and_parts, and_from, le-leb, lt-ltb, le-ltb}
use Rattle.std.proofs.lemmas.List.{Elements.{All-head, All-tail, All-weaker}, Folds.{list_all-append}, Sums.{list_all-from_AllPass}}
use Rattle.std.{proofs.Math.Nat.{mod-lt}, specs.{Prelude.{codes, decimal, flat_map, filter, All}, Int.{bit_at}, List.{list_all, join_with_byte}}}
use Rattle.std.specs.Fmt.{digits, digits_onto, digit_glyph}
use Rattle.perf_base.specs.{Flags.{flag_table}, declared.{lines.Mode.{Mode}, acts.Act.{Act}}, Scripts.{IsName, IsNameByte}}
use Rattle.perf_base.specs.declared.lines.Mode.TheVariants as mode
use Rattle.perf_base.specs.declared.acts.Act.TheVariants as act
use Rattle.script_spec.specs.{Acts.{act_text}, Forms.{Form, CpuForm, ToolForm, Hit, form_words, flag_name, hexadecimal}}
use Rattle.script_spec.specs.Forms as form

-- neither a space nor outside the printable bytes
abbrev pub is_graphic : ℕ → Bool
is_graphic b = leb 33 b && leb b 126

abbrev pub is_plain : List ℕ → Bool
is_plain text = list_all is_graphic text

graphic : (b : ℕ) → 33 ≤ b → b ≤ 126 → is_graphic b ≡ true
graphic b l h = and_from (leb 33 b) (leb b 126) (le-leb 33 b l) (le-leb b 126 h)

glyph_graphic : (d : ℕ) → d < 16 → is_graphic (digit_glyph false d) ≡ true
glyph_graphic d l = grind (arith, cases_lt, ltb, true, lt-ltb, graphic, false, le-ltb)

onto_plain : (k b n : ℕ) (rest : List ℕ) → 0 < b → b ≤ 16 → is_plain rest ≡ true → is_plain (digits_onto k b false n rest) ≡ true
onto_plain zero b n rest some few h = h
onto_plain (suc k) b n rest some few h =
    let low : n % b < b = mod-lt n some in
    let more : is_plain (digit_glyph false (n % b) ∷ rest) ≡ true = and_from (is_graphic (digit_glyph false (n % b))) (is_plain rest) (glyph_graphic (n % b) (omega arith)) h in
    grind (arith, eqb, more, false, onto_plain k b (n / b) (digit_glyph false (n % b) ∷ rest) some few more)

decimal_plain : (n : ℕ) → is_plain (decimal n) ≡ true
unfolding digits
decimal_plain n = onto_plain 64 10 n [] (omega arith) (omega arith) refl

hexadecimal_plain : (n : ℕ) → is_plain (hexadecimal n) ≡ true
unfolding digits
hexadecimal_plain n = onto_plain 64 16 n [] (omega arith) (omega arith) refl

name_byte : (b : ℕ) → IsNameByte b → is_graphic b ≡ true
name_byte b (inl letter) = graphic b (omega (arith, letter)) (omega (arith, letter))
name_byte b (inr (inl digit)) = graphic b (omega (arith, digit)) (omega (arith, digit))
name_byte b (inr (inr dash)) = graphic b (omega (arith, dash)) (omega (arith, dash))

name_plain : (name : List ℕ) → IsName name → is_plain name ≡ true
name_plain [] h = absurd h
name_plain (b ∷ bs) h = and_from (is_graphic b) (is_plain bs) (name_byte b (inl h.0)) (list_all-from_AllPass is_graphic bs (All-weaker IsNameByte (λ b. is_graphic b ≡ true) name_byte bs h.1))

entry_plain : (table : List (List ℕ × ℕ)) (n : ℕ) → list_all (λ e. is_plain e.0) table ≡ true → is_plain (get_or table n ([], 0)).0 ≡ true
entry_plain [] n h = refl
entry_plain (e ∷ table) zero h = (and_parts (is_plain e.0) (list_all (λ e. is_plain e.0) table) h).0
entry_plain (e ∷ table) (suc n) h = entry_plain table n (and_parts (is_plain e.0) (list_all (λ e. is_plain e.0) table) h).1

flag_plain : (n : ℕ) → is_plain (flag_name n) ≡ true
flag_plain n = entry_plain flag_table n refl

commas_plain : (ns : List ℕ) → is_plain (join_with_byte 44 (map flag_name ns)) ≡ true
commas_plain [] = refl
commas_plain (n ∷ []) = flag_plain n
commas_plain (n ∷ m ∷ ns) = simp (list_all-append, flag_plain, commas_plain (m ∷ ns))

flags_plain : (flags : ℕ) → is_plain (form.flags_text flags) ≡ true
flags_plain flags = commas_plain (filter (λ n. eqb (bit_at flags n) 1) (0 ∷ 1 ∷ 2 ∷ 3 ∷ 4 ∷ 5 ∷ 6 ∷ []))

bytes_plain : (bytes : List ℕ) → All (λ b. b < 256) bytes → is_plain (flat_map form.byte_text bytes) ≡ true
bytes_plain [] h = refl
bytes_plain (b ∷ bs) h = grind (arith, All-head, and_from, false, glyph_graphic, All-tail, bytes_plain bs (All-tail (λ b. b < 256) b bs h))

-- ---- words

abbrev pub are_plain : List (List ℕ) → Bool
are_plain words = list_all is_plain words

-- some words, all of them plain
abbrev pub is_line : List (List ℕ) → Bool
is_line [] = false
is_line (w ∷ ws) = are_plain (w ∷ ws)

if_plain : (o : Option ℕ) (word : ℕ → List ℕ) → ((n : ℕ) → is_plain (word n) ≡ true) → are_plain (form.word_if o word) ≡ true
if_plain None word h = refl
if_plain (Some n) word h = simp (h n)

or_plain : (word : List ℕ) (o : Option ℕ) → is_plain word ≡ true → is_plain (form.number_or word o) ≡ true
or_plain word None h = h
or_plain word (Some n) h = decimal_plain n

mode_plain : (m : Mode) → is_plain (form.mode_text m) ≡ true
mode_plain mode.User = refl
mode_plain mode.Kernel = refl

hits_plain : (hits : List Hit) → All form.IsHit hits → are_plain (map form.hit_text hits) ≡ true
hits_plain [] h = refl
hits_plain (hit ∷ hits) h =
    let own = All-head form.IsHit hit hits h in
    simp (list_all-append, name_plain hit.name own.0.0, decimal_plain, hits_plain hits (All-tail form.IsHit hit hits h))

cpu_line : (f : CpuForm) → form.IsCpuSpelling f → is_line (form.cpu_words f) ≡ true
cpu_line (form.Switch task) h = simp (or_plain (codes "idle") task refl)
cpu_line (form.Work w) h = simp (decimal_plain, mode_plain, list_all-append, if_plain w.ip form.ip_text hexadecimal_plain, hits_plain w.hits h.hits)
cpu_line (form.Fork task) h = simp decimal_plain
cpu_line other h = refl

group_plain : (b : Bool) → are_plain (form.group_words b) ≡ true
group_plain true = refl
group_plain false = refl

place_plain : (p : form.Opening) (others : List (List ℕ)) → are_plain others ≡ true → are_plain (form.place_words p others) ≡ true
place_plain p others h = simp (or_plain (codes "all") p.task refl, or_plain (codes "any") p.cpu refl, list_all-append, if_plain p.leader (λ n. codes "leader=" ++ decimal n) decimal_plain, h)

asked_plain : (a : form.Asked) → are_plain (form.asked_words a) ≡ true
asked_plain a = grind (arith, if_plain, decimal_plain, hexadecimal_plain, flags_plain, list_all-append)

tool_line : (f : ToolForm) → form.IsToolSpelling f → is_line (form.tool_words f) ≡ true
tool_line (form.OpenKind p name a) h = simp (decimal_plain, name_plain name h.1.0, place_plain p (form.asked_words a) (asked_plain a))
tool_line (form.OpenAttr p bytes) h = simp (decimal_plain, bytes_plain bytes h.1.each, place_plain p [] refl)
tool_line (form.Read slot size) h = simp (decimal_plain, if_plain size (λ n. codes "size=" ++ decimal n) decimal_plain)
tool_line other h = simp (decimal_plain, group_plain)

act_plain : (a : Act) → is_plain (act_text a) ≡ true
act_plain (act.Seen ring place) = simp (list_all-append, decimal_plain)
act_plain other = simp decimal_plain

acts_plain : (acts : List Act) → are_plain (map act_text acts) ≡ true
acts_plain [] = refl
acts_plain (a ∷ acts) = simp (act_plain, acts_plain acts)

-- the words of a form that is spelled
pub form_line : (f : Form) → form.IsSpelling f → is_line (form_words f) ≡ true
form_line (form.Perf form.One) h = refl
form_line (form.Perf form.Two) h = refl
form_line (form.Kind name mask) h = simp (name_plain name h.0.0, hexadecimal_plain)
form_line (form.KindOfPmu name pmu mask) h = simp (name_plain name h.0.0, decimal_plain, hexadecimal_plain)
form_line (form.OnProcessor line) h = cpu_line line h
form_line (form.OnTool line) h = tool_line line h
form_line (form.Order acts) h = acts_plain acts
form_line form.End h = refl
form_line other h = simp (decimal_plain, hexadecimal_plain)
