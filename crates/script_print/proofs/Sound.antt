-- Forms whose lines are sound one behind the other, and the text that stands for them.
use Rattle.std.proofs.Common.{◌≡◌, ℕ, ◌<◌, ◌≤◌, Bool, true, false, not, ◌&&◌, eqb, leb, All, List, [], ◌∷◌, ◌++◌, map, refl, ap, subst, ◌∙◌, arith}
use Rattle.std.proofs.{lemmas.Bool.{and_parts, and_from, leb-true, le-leb, ne_eqb}}
use Rattle.std.proofs.lemmas.List.{map-append, Elements.{All-weaker}, Folds.{list_all-append}}
use Rattle.std.{proofs.lemmas.List.Sums.{AllPass-from_list_all, list_all-from_AllPass}, specs.Prelude.{flat_map, Any}}
use Rattle.std.specs.List.{list_all, join_with_byte}
use Rattle.perf_base.specs.declared.reasons.SReason.{SReason}
use Rattle.perf_base.specs.declared.reasons.SReason.TheVariants as reason
use Rattle.script_spec.specs.{Lines.{words_of, lines_of, rest_of}, Forms.{Version, Form, IsOfForm, IsOfVersion, IsSpelling, form_words}}
use Rattle.script_spec.specs.Meaning.{script_of}
use Rattle.script_spec.specs.Faults.{IsNoEnd, IsPrintable, IsPlaced, IsInRange, HasAttr, IsNamed, IsWithinLimits, IsWithinWeight, Keeps, IsSound}
use Rattle.script_spec.specs.{Texts.{version_of, AreSound, StandsFor}, Printing.{line_text}}
use Rattle.script_spec.specs.Forms as form
use Rattle.line_forms.proofs.Laws.{one_form}
use Rattle.script_spec.proofs.Sound.{sound_more}
use Rattle.script_print.proofs.Cutting.{lacks, ended, words_again, lines_are, rest_is}
use Rattle.script_print.proofs.Plain.{is_graphic, is_plain, are_plain, is_line, form_line}

-- ---- the bytes of a line

abbrev pub line_bytes : Form → List ℕ
line_bytes f = join_with_byte 32 (form_words f)

-- a test that all pass, and a weaker one
all_weaker : {X : Type 0} (p q : X → Bool) → ((x : X) → p x ≡ true → q x ≡ true) → (xs : List X) → list_all p xs ≡ true → list_all q xs ≡ true
all_weaker p q weaker xs h = list_all-from_AllPass q xs (All-weaker (λ x. p x ≡ true) (λ x. q x ≡ true) weaker xs (AllPass-from_list_all p xs h))

-- printable, as a test
abbrev printable : ℕ → Bool
printable b = leb 32 b && leb b 126

graphic_low : (b : ℕ) → is_graphic b ≡ true → 33 ≤ b
graphic_low b h = leb-true _ _ (and_parts (leb 33 b) (leb b 126) h).0

graphic_printable : (b : ℕ) → is_graphic b ≡ true → printable b ≡ true
graphic_printable b h = and_from (leb 32 b) (leb b 126) (le-leb 32 b (omega (arith, graphic_low b h))) (and_parts (leb 33 b) (leb b 126) h).1

printable_byte : (b : ℕ) → printable b ≡ true → IsPrintable b
printable_byte b h = let p = and_parts (leb 32 b) (leb b 126) h in (leb-true _ _ p.0, leb-true _ _ p.1)

is_not : (c b : ℕ) → c < b → not (eqb b c) ≡ true
is_not c b l = let f : eqb b c ≡ false = ne_eqb b c (λ e. omega (arith, e, l)) in rw f refl

joined_printable : (ws : List (List ℕ)) → are_plain ws ≡ true → list_all printable (join_with_byte 32 ws) ≡ true
joined_printable [] h = refl
joined_printable (w ∷ []) h = all_weaker is_graphic printable graphic_printable w (and_parts (is_plain w) true h).0
joined_printable (w ∷ v ∷ ws) h =
    let p = and_parts (is_plain w) (are_plain (v ∷ ws)) h in
    simp (list_all-append, all_weaker is_graphic printable graphic_printable w p.0, joined_printable (v ∷ ws) p.1)

-- the bytes of a line are printable, and its words are those of its form
record IsPrinted (ws : List (List ℕ)) : Type 0 where
  bytes : list_all printable (join_with_byte 32 ws) ≡ true
  words : words_of (join_with_byte 32 ws) ≡ ws

is_printed : (ws : List (List ℕ)) → is_line ws ≡ true → IsPrinted ws
is_printed [] h = absurd cc
is_printed (w ∷ ws) h = search (joined_printable, words_again, all_weaker, is_plain, lacks, is_graphic, not, eqb, is_not, graphic_low)

-- ---- sound lines

-- what is asked of a form for itself, behind these forms
pub record Fits (v : Version) (before : List Form) (f : Form) : Type 0 where
  pub form : IsOfVersion v f × IsSpelling f
  pub range : IsInRange before f
  pub others : HasAttr f × IsNamed before f × IsWithinLimits before f × IsWithinWeight before f

line_sound : (v : Version) (before : List Form) (f : Form) → Fits v before f → IsPlaced before f → All IsNoEnd before → IsSound v before (line_bytes f) f
line_sound v before f h placed no_end = record { is = is; keeps = keeps }
  where
    printed : IsPrinted (form_words f)
    printed = is_printed (form_words f) (form_line f h.form.1)

    is : IsOfForm v (words_of (line_bytes f)) f
    is = record { of_version = h.form.0; spelling = h.form.1; is = printed.words }

    same : (g : Form) → IsOfForm v (words_of (line_bytes f)) g → f ≡ g
    same g k = one_form v (words_of (line_bytes f)) f g is k

    keeps : (q : SReason) → Keeps v before (line_bytes f) q
    keeps reason.End = no_end
    keeps reason.Ascii = All-weaker (λ b. printable b ≡ true) IsPrintable printable_byte (line_bytes f) (AllPass-from_list_all printable (line_bytes f) printed.bytes)
    keeps reason.Form = (f, is)
    keeps reason.Place = λ g k. subst (IsPlaced before) (same g k) placed
    keeps reason.Range = λ g k. subst (IsInRange before) (same g k) h.range
    keeps reason.Attr = λ g k. subst HasAttr (same g k) h.others.0
    keeps reason.Name = λ g k. subst (IsNamed before) (same g k) h.others.1
    keeps reason.Limit = λ g k. subst (IsWithinLimits before) (same g k) h.others.2
    keeps reason.Weight = λ g k. subst (IsWithinWeight before) (same g k) h.others.3
    keeps reason.Order = tt

-- the lines of the forms are sound, and end nowhere but at their ends
pub record AreSoundForms (v : Version) (forms : List Form) : Type 0 where
  lines : AreSound v (map line_bytes forms) forms
  lack : list_all (lacks 10) (map line_bytes forms) ≡ true

pub none_sound : (v : Version) → AreSoundForms v []
none_sound v = record { lines = record { as_many = refl; each = λ k l. absurd (omega (arith, l)) }; lack = refl }

pub more_sound : (v : Version) (forms : List Form) (f : Form) → AreSoundForms v forms → Fits v forms f → IsPlaced forms f → All IsNoEnd forms → AreSoundForms v (forms ++ f ∷ [])
more_sound v forms f h fits placed no_end =
    let lack : lacks 10 (line_bytes f) ≡ true = all_weaker printable (λ b. not (eqb b 10)) (λ b p. is_not 10 b (omega (arith, (printable_byte b p).0))) (line_bytes f) (is_printed (form_words f) (form_line f fits.form.1)).bytes in
    record {
      lines = rw (map-append line_bytes forms (f ∷ [])) (sound_more v (map line_bytes forms) forms (line_bytes f) f h.lines (line_sound v forms f fits placed no_end));
      lack = simp (map-append, list_all-append, h.lack, lack);
    }

-- ---- the whole text

text_is : (forms : List Form) → flat_map line_text forms ≡ ended (map line_bytes forms)
text_is [] = refl
text_is (f ∷ forms) = ap (λ t. line_text f ++ t) (text_is forms)

-- sound forms make a text that stands for what they say
pub text_stands : (v : Version) (forms : List Form) → AreSoundForms v forms → version_of (map line_bytes forms) ≡ v → Any (λ f. f ≡ form.End) forms → StandsFor (flat_map line_text forms) (script_of forms)
text_stands v forms h version end =
    let cut : lines_of (flat_map line_text forms) ≡ map line_bytes forms = ap lines_of (text_is forms) ∙ lines_are (map line_bytes forms) h.lack in
    let sound : AreSound (version_of (lines_of (flat_map line_text forms))) (lines_of (flat_map line_text forms)) forms = rw cut (rw version h.lines) in
    (forms, record { sound = sound; ended = ap rest_of (text_is forms) ∙ rest_is (map line_bytes forms) h.lack; has_end = end }, refl)
