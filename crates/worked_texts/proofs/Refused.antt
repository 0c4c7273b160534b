-- Small texts worked out by hand: each is refused at its line and for its reason.
use Rattle.std.proofs.Common.{◌≡◌, ℕ, zero, suc, ◌<◌, ◌≤◌, ◌&&◌, Bool, true, false, leb, All, List, [], ◌∷◌, None, refl, sym, ap, subst, inl, inr, get_or, length, ◌∙◌, arith}
use Rattle.std.{proofs.lemmas.{Bool.{and_parts, leb-true}, List.Elements.{All-cons}, Option.{none-some}}, specs.Prelude.{codes, bit_and}}
use Rattle.std.specs.{Int.{bit_at}, Fmt.{digits}}
use Rattle.perf_base.specs.{declared.{lines.PmuLine.{PmuLine}, reasons.SReason.{SReason}}, Scripts.{AreApart}}
use Rattle.perf_base.specs.declared.attr.Kind.TheVariants as kind
use Rattle.perf_base.specs.declared.reasons.SReason.TheVariants as reason
use Rattle.script_spec.specs.{Lines.{pieces, words_of, lines_of}, Forms.{Version, Form, IsOfForm}}
use Rattle.script_spec.specs.Faults.{IsInOrder, IsPrintable, IsNoEnd, IsFaulty, IsSound, AreCovered, IsUnder, IsBehindPmus, section, rank}
use Rattle.script_spec.specs.{Meaning.{pmus_in, script_of}, Texts.{version_of, AreSound, IsRefused}}
use Rattle.script_spec.specs.Forms as form
use Rattle.line_forms.specs.{Reading.{form_at, body_at}, Declarations.{perf_at, machine_at, kind_at}, Leaves.{number, number_at, name, name_at}}
use Rattle.line_forms.{specs.Words.{strip}, proofs.Laws.{form-takes, form-again, one_form}}
use Rattle.script_read.specs.Progress.{AsksOf, IsFirstOf}
use Rattle.script_read.proofs.Beginning.{sound_line, faulty_line, form_faulty, ascii_faulty, end_faulty, range_first, perf_taken, machine_asks, bare_asks, before_place}
use Rattle.script_read.proofs.Whole.{sound_more}
use Rattle.perf_base.proofs.Kept.{All-none}

-- ---- what all of them share

empty_sound : (v : Version) → AreSound v [] []
empty_sound v = record { as_many = refl; each = λ k l. absurd (omega (arith, l)) }

abbrev is_plain : List ℕ → Bool
is_plain [] = true
is_plain (b ∷ line) = leb 32 b && (leb b 126 && is_plain line)

plain : (line : List ℕ) → is_plain line ≡ true → All IsPrintable line
plain [] e = All-none IsPrintable
plain (b ∷ line) e =
    let low = and_parts (leb 32 b) (leb b 126 && is_plain line) e in
    let high = and_parts (leb b 126) (is_plain line) low.1 in
    All-cons IsPrintable b line (leb-true 32 b low.0, leb-true b 126 high.0) (plain line high.1)

-- a line of this form that nothing is wrong with, or of this form and refused for that
sound : (v : Version) (before : List Form) (line : List ℕ) (f : Form) → All IsNoEnd before → is_plain line ≡ true → IsOfForm v (words_of line) f → ((q : SReason) → AsksOf before f q) → IsSound v before line f
sound v before line f no_end p is asks = sound_line v before line f no_end (plain line p) is (λ g h. one_form v (words_of line) g f h is) asks

faulty : (v : Version) (before : List Form) (line : List ℕ) (f : Form) (r : SReason) → All IsNoEnd before → is_plain line ≡ true → IsOfForm v (words_of line) f → IsFirstOf before f r → IsFaulty v before line r
faulty v before line f r no_end p is first = faulty_line v before line f no_end (plain line p) is (λ g h. one_form v (words_of line) g f h is) r first

formless : (v : Version) (before : List Form) (line : List ℕ) → All IsNoEnd before → is_plain line ≡ true → form_at v (words_of line) ≡ None → IsFaulty v before line reason.Form
formless v before line no_end p e = form_faulty v before line no_end (plain line p) (λ f h. let z = sym (form-again v (words_of line) f h) ∙ e in absurd cc)

-- ---- the first line

-- an empty text, and one whose only line is not ended
empty_text : IsRefused [] 0 reason.End
unfolding pieces
empty_text = ([], inr (inr (record { sound = empty_sound form.One; ended = refl; no_end = All-none IsNoEnd; number = refl; is_end = refl })))

no_final_newline : IsRefused (codes "perf 1") 1 reason.End
unfolding pieces
no_final_newline = ([], inr (inl (record { sound = empty_sound form.One; more = λ e. let z : 6 ≡ 0 = ap length e in omega (arith, z); number = refl; is_end = refl })))

first_line : (text line : List ℕ) (r : SReason) → 0 < length (lines_of text) → version_of (lines_of text) ≡ form.One → get_or (lines_of text) 0 [] ≡ line → IsFaulty form.One [] line r → IsRefused text 1 r
first_line text line r within v is h = grind (arith, sound, empty_sound, faulty, get_or)

two_spaces : IsRefused (codes "perf  1\n") 1 reason.Form
unfolding pieces form_at body_at perf_at strip
two_spaces = first_line (codes "perf  1\n") (codes "perf  1") reason.Form (omega arith) refl refl (formless form.One [] (codes "perf  1") (All-none IsNoEnd) refl refl)

unknown_version : IsRefused (codes "perf 3\n") 1 reason.Form
unfolding pieces form_at body_at perf_at strip
unknown_version = first_line (codes "perf 3\n") (codes "perf 3") reason.Form (omega arith) refl refl (formless form.One [] (codes "perf 3") (All-none IsNoEnd) refl refl)

tab_in_line : IsRefused (codes "perf\t1\n") 1 reason.Ascii
unfolding pieces
tab_in_line = first_line (codes "perf\t1\n") (codes "perf\t1") reason.Ascii (omega arith) refl refl (ascii_faulty form.One [] (codes "perf\t1") (All-none IsNoEnd) (λ h. let z = h 4 0 (omega arith) in omega (arith, z.0)))

-- ---- behind a first line and a machine

abbrev one_processor : List Form
one_processor = form.Perf form.One ∷ form.Machine 1 1 ∷ []

perf_is : IsOfForm form.One (words_of (codes "perf 1")) (form.Perf form.One)
unfolding pieces
perf_is = record { of_version = refl; spelling = tt; is = refl }

machine_is : IsOfForm form.One (words_of (codes "machine cpus=1 counters=1")) (form.Machine 1 1)
unfolding pieces digits
machine_is = record { of_version = refl; spelling = (omega arith, omega arith); is = refl }

nine_is : IsOfForm form.One (words_of (codes "machine cpus=9 counters=1")) (form.Machine 9 1)
unfolding pieces digits
nine_is = record { of_version = refl; spelling = (omega arith, omega arith); is = refl }

read_is : IsOfForm form.One (words_of (codes "read 0")) (form.OnTool (form.Read 0 None))
unfolding pieces digits
read_is = record { of_version = tt; spelling = (omega arith, tt); is = refl }

perf_no_end : All IsNoEnd (form.Perf form.One ∷ [])
perf_no_end = All-cons IsNoEnd (form.Perf form.One) [] tt (All-none IsNoEnd)

no_end : All IsNoEnd one_processor
no_end = All-cons IsNoEnd (form.Perf form.One) (form.Machine 1 1 ∷ []) tt (All-cons IsNoEnd (form.Machine 1 1) [] tt (All-none IsNoEnd))

perf_sound : AreSound form.One (codes "perf 1" ∷ []) (form.Perf form.One ∷ [])
perf_sound =
    sound_more form.One [] [] (codes "perf 1") (form.Perf form.One) (empty_sound form.One)
    (sound form.One [] (codes "perf 1") (form.Perf form.One) (All-none IsNoEnd) refl perf_is (perf_taken form.One).asks)

both_sound : AreSound form.One (codes "perf 1" ∷ codes "machine cpus=1 counters=1" ∷ []) one_processor
both_sound =
    sound_more form.One (codes "perf 1" ∷ []) (form.Perf form.One ∷ []) (codes "machine cpus=1 counters=1") (form.Machine 1 1) perf_sound
    (sound form.One (form.Perf form.One ∷ []) (codes "machine cpus=1 counters=1") (form.Machine 1 1) perf_no_end refl machine_is
    (machine_asks (form.Perf form.One ∷ []) 1 1 refl ((omega arith, omega arith), (omega arith, omega arith))))

without_end : IsRefused (codes "perf 1\nmachine cpus=1 counters=1\n") 2 reason.End
unfolding pieces
without_end = (one_processor, inr (inr (record { sound = both_sound; ended = refl; no_end = no_end; number = refl; is_end = refl })))

leading_zero : IsRefused (codes "perf 1\nmachine cpus=01 counters=1\n") 2 reason.Form
unfolding pieces form_at body_at machine_at number_at number strip
leading_zero = (
  form.Perf form.One ∷ [],
  inl (record {
    within = omega arith;
    sound = perf_sound;
    faulty = formless form.One (form.Perf form.One ∷ []) (codes "machine cpus=01 counters=1") perf_no_end refl refl;
    number = refl;
  }),
)

nine_processors : IsRefused (codes "perf 1\nmachine cpus=9 counters=1\n") 2 reason.Range
unfolding pieces
nine_processors = (
  form.Perf form.One ∷ [],
  inl (record {
    within = omega arith;
    sound = perf_sound;
    faulty = faulty form.One (form.Perf form.One ∷ []) (codes "machine cpus=9 counters=1") (form.Machine 9 1) reason.Range perf_no_end refl nine_is
        (range_first (form.Perf form.One ∷ []) (form.Machine 9 1) refl (λ h. omega (arith, h.0.1)));
    number = refl;
  }),
)

tool_line_misplaced : IsRefused (codes "perf 1\nmachine cpus=1 counters=1\nread 0\n") 3 reason.Place
unfolding pieces
tool_line_misplaced = (
  one_processor,
  inl (record {
    within = omega arith;
    sound = both_sound;
    faulty = faulty form.One one_processor (codes "read 0") (form.OnTool (form.Read 0 None)) reason.Place no_end refl read_is
        (record { earlier = before_place one_processor (form.OnTool (form.Read 0 None)); broken = λ h. let z : false ≡ true = h.under in absurd cc });
    number = refl;
  }),
)

-- ---- behind a machine whose processors all have a PMU

covered : AreCovered one_processor
covered cpu l = (0, record { counters = 1; cpus = record { 0 = 1 } }, omega arith, refl, first_of cpu.0 (omega (arith, l)))
  where
    first_of : (n : ℕ) → n ≡ 0 → bit_at 1 n ≡ 1
    first_of n e = rw e refl

behind : (f : Form) → 1 ≤ section f → IsUnder one_processor f → IsBehindPmus one_processor f
behind f l under = grind (arith, All-cons, All-none)

mask_is : IsOfForm form.One (words_of (codes "kind a mask=2")) (form.Kind (codes "a") 2)
unfolding pieces form_at body_at kind_at name_at name number_at number strip
mask_is = form-takes form.One (words_of (codes "kind a mask=2")) (form.Kind (codes "a") 2) refl

mask_out_of_range : IsRefused (codes "perf 1\nmachine cpus=1 counters=1\nkind a mask=2\n") 3 reason.Range
unfolding pieces
mask_out_of_range = (
  one_processor,
  inl (record {
    within = omega arith;
    sound = both_sound;
    faulty = faulty form.One one_processor (codes "kind a mask=2") (form.Kind (codes "a") 2) reason.Range no_end refl mask_is
        (range_first one_processor (form.Kind (codes "a") 2) (behind (form.Kind (codes "a") 2) (omega arith) tt) (λ h. omega (arith, h.1)));
    number = refl;
  }),
)

dummy_is : IsOfForm form.One (words_of (codes "kind dummy mask=1")) (form.Kind (codes "dummy") 1)
unfolding pieces form_at body_at kind_at name_at name number_at number strip
dummy_is = form-takes form.One (words_of (codes "kind dummy mask=1")) (form.Kind (codes "dummy") 1) refl

dummy_first : IsFirstOf one_processor (form.Kind (codes "dummy") 1) reason.Name
dummy_first = record { earlier = earlier; broken = λ h. none-some kind.Dummy (sym h.free.software) }
  where
    earlier : (q : SReason) → rank q < 6 → AsksOf one_processor (form.Kind (codes "dummy") 1) q
    earlier reason.Place l = behind (form.Kind (codes "dummy") 1) (omega arith) tt
    earlier reason.Range l = (omega arith, omega arith)
    earlier reason.Attr l = tt
    earlier reason.Name l = absurd (omega (arith, l))
    earlier reason.Limit l = absurd (omega (arith, l))
    earlier reason.Weight l = absurd (omega (arith, l))
    earlier other l = tt

kind_with_software_name : IsRefused (codes "perf 1\nmachine cpus=1 counters=1\nkind dummy mask=1\n") 3 reason.Name
unfolding pieces
kind_with_software_name = (
  one_processor,
  inl (record {
    within = omega arith;
    sound = both_sound;
    faulty = faulty form.One one_processor (codes "kind dummy mask=1") (form.Kind (codes "dummy") 1) reason.Name no_end refl dummy_is dummy_first;
    number = refl;
  }),
)

end_is : IsOfForm form.One (words_of (codes "end")) form.End
unfolding pieces
end_is = record { of_version = tt; spelling = tt; is = refl }

end_asks : (q : SReason) → AsksOf one_processor form.End q
unfolding script_of
end_asks reason.Place = behind form.End (omega arith) tt
end_asks reason.Weight = omega arith
end_asks other = tt

line_after_end : IsRefused (codes "perf 1\nmachine cpus=1 counters=1\nend\nx\n") 4 reason.End
unfolding pieces
line_after_end = (
  form.Perf form.One ∷ form.Machine 1 1 ∷ form.End ∷ [],
  inl (record {
    within = omega arith;
    sound =
        sound_more form.One (codes "perf 1" ∷ codes "machine cpus=1 counters=1" ∷ []) one_processor (codes "end") form.End both_sound
        (sound form.One one_processor (codes "end") form.End no_end refl end_is end_asks);
    faulty = end_faulty form.One (form.Perf form.One ∷ form.Machine 1 1 ∷ form.End ∷ []) (codes "x") (λ h. h 2 form.End (omega arith));
    number = refl;
  }),
)

-- ---- two processors and their PMUs

abbrev two_processors : List Form
two_processors = form.Perf form.Two ∷ form.MachineOfPmus 2 ∷ []

second_is : IsOfForm form.Two (words_of (codes "perf 2")) (form.Perf form.Two)
unfolding pieces
second_is = record { of_version = refl; spelling = tt; is = refl }

bare_is : IsOfForm form.Two (words_of (codes "machine cpus=2")) (form.MachineOfPmus 2)
unfolding pieces digits
bare_is = record { of_version = refl; spelling = omega arith; is = refl }

both_is : IsOfForm form.Two (words_of (codes "pmu 0 counters=1 cpus=3")) (form.Pmu 0 1 3)
unfolding pieces digits
both_is = record { of_version = refl; spelling = (omega arith, omega arith, omega arith); is = refl }

other_is : IsOfForm form.Two (words_of (codes "pmu 1 counters=1 cpus=2")) (form.Pmu 1 1 2)
unfolding pieces digits
other_is = record { of_version = refl; spelling = (omega arith, omega arith, omega arith); is = refl }

one_is : IsOfForm form.Two (words_of (codes "pmu 0 counters=1 cpus=1")) (form.Pmu 0 1 1)
unfolding pieces digits
one_is = record { of_version = refl; spelling = (omega arith, omega arith, omega arith); is = refl }

last_is : IsOfForm form.Two (words_of (codes "end")) form.End
unfolding pieces
last_is = record { of_version = tt; spelling = tt; is = refl }

second_no_end : All IsNoEnd (form.Perf form.Two ∷ [])
second_no_end = All-cons IsNoEnd (form.Perf form.Two) [] tt (All-none IsNoEnd)

two_no_end : All IsNoEnd two_processors
two_no_end = All-cons IsNoEnd (form.Perf form.Two) (form.MachineOfPmus 2 ∷ []) tt (All-cons IsNoEnd (form.MachineOfPmus 2) [] tt (All-none IsNoEnd))

three_no_end : (cpus : ℕ) → All IsNoEnd (form.Perf form.Two ∷ form.MachineOfPmus 2 ∷ form.Pmu 0 1 cpus ∷ [])
three_no_end cpus = grind (arith, All-cons, All-none)

two_sound : AreSound form.Two (codes "perf 2" ∷ codes "machine cpus=2" ∷ []) two_processors
two_sound =
    sound_more form.Two (codes "perf 2" ∷ []) (form.Perf form.Two ∷ []) (codes "machine cpus=2") (form.MachineOfPmus 2)
    (sound_more form.Two [] [] (codes "perf 2") (form.Perf form.Two) (empty_sound form.Two)
    (sound form.Two [] (codes "perf 2") (form.Perf form.Two) (All-none IsNoEnd) refl second_is (perf_taken form.Two).asks))
    (sound form.Two (form.Perf form.Two ∷ []) (codes "machine cpus=2") (form.MachineOfPmus 2) second_no_end refl bare_is
    (bare_asks (form.Perf form.Two ∷ []) 2 refl (omega arith, omega arith)))

pmu_asks : (cpus : ℕ) → 0 < cpus → cpus < 4 → (q : SReason) → AsksOf two_processors (form.Pmu 0 1 cpus) q
pmu_asks cpus a b reason.Place = record {
  behind_machine = omega arith;
  sections = All-cons (λ g. section g ≤ 2) (form.Perf form.Two) (form.MachineOfPmus 2 ∷ []) (omega arith) (All-cons (λ g. section g ≤ 2) (form.MachineOfPmus 2) [] (omega arith) (All-none (λ g. section g ≤ 2)));
}
pmu_asks cpus a b reason.Range = record {
  next = refl;
  few = omega arith;
  line = record { counters = (omega arith, omega arith); cpus = (a, b) };
  apart = All-none (λ p. AreApart p (record { counters = 1; cpus = record { 0 = cpus } }));
}
pmu_asks cpus a b other = tt

pmu_sound : (line : List ℕ) (cpus : ℕ) → 0 < cpus → cpus < 4 → is_plain line ≡ true → IsOfForm form.Two (words_of line) (form.Pmu 0 1 cpus)
    → AreSound form.Two (codes "perf 2" ∷ codes "machine cpus=2" ∷ line ∷ []) (form.Perf form.Two ∷ form.MachineOfPmus 2 ∷ form.Pmu 0 1 cpus ∷ [])
pmu_sound line cpus a b p is =
    sound_more form.Two (codes "perf 2" ∷ codes "machine cpus=2" ∷ []) two_processors line (form.Pmu 0 1 cpus) two_sound
    (sound form.Two two_processors line (form.Pmu 0 1 cpus) two_no_end p is (pmu_asks cpus a b))

abbrev with_pmu_on : ℕ → List Form
with_pmu_on cpus = form.Perf form.Two ∷ form.MachineOfPmus 2 ∷ form.Pmu 0 1 cpus ∷ []

overlap_placed : IsInOrder (with_pmu_on 3) (form.Pmu 1 1 2)
overlap_placed = record {
  behind_machine = omega arith;
  sections = All-cons (λ g. section g ≤ 2) (form.Perf form.Two) (form.MachineOfPmus 2 ∷ form.Pmu 0 1 3 ∷ []) (omega arith)
      (All-cons (λ g. section g ≤ 2) (form.MachineOfPmus 2) (form.Pmu 0 1 3 ∷ []) (omega arith) (All-cons (λ g. section g ≤ 2) (form.Pmu 0 1 3) [] (omega arith) (All-none (λ g. section g ≤ 2))));
}

masks_overlap : IsRefused (codes "perf 2\nmachine cpus=2\npmu 0 counters=1 cpus=3\npmu 1 counters=1 cpus=2\n") 4 reason.Range
unfolding pieces
masks_overlap = (
  with_pmu_on 3,
  inl (record {
    within = omega arith;
    sound = pmu_sound (codes "pmu 0 counters=1 cpus=3") 3 (omega arith) (omega arith) refl both_is;
    faulty = faulty form.Two (with_pmu_on 3) (codes "pmu 1 counters=1 cpus=2") (form.Pmu 1 1 2) reason.Range (three_no_end 3) refl other_is
        (range_first (with_pmu_on 3) (form.Pmu 1 1 2) overlap_placed (λ h. let z : bit_and 3 2 ≡ 0 = h.apart 0 (record { counters = 0; cpus = record { 0 = 0 } }) (omega arith) in omega (arith, z)));
    number = refl;
  }),
)

-- processor 1 is in no mask
uncovered : AreCovered (with_pmu_on 1) → ⊥
uncovered h = let a = h (record { 0 = 1 }) (omega arith) in no_bit a.0 a.1 a.2 a.3 a.4
  where
    no_bit : (k : ℕ) (p : PmuLine) → k < 1 → get_or (pmus_in (with_pmu_on 1)) k p ≡ p → bit_at p.cpus.0 1 ≡ 1 → ⊥
    no_bit zero p l e b = let z : bit_at 1 1 ≡ 1 = subst (λ (x : PmuLine). bit_at x.cpus.0 1 ≡ 1) (sym e) b in omega (arith, z)
    no_bit (suc k) p l e b = omega (arith, l)

processor_without_pmu : IsRefused (codes "perf 2\nmachine cpus=2\npmu 0 counters=1 cpus=1\nend\n") 4 reason.Place
unfolding pieces
processor_without_pmu = (
  with_pmu_on 1,
  inl (record {
    within = omega arith;
    sound = pmu_sound (codes "pmu 0 counters=1 cpus=1") 1 (omega arith) (omega arith) refl one_is;
    faulty = faulty form.Two (with_pmu_on 1) (codes "end") form.End reason.Place (three_no_end 1) refl last_is
        (record { earlier = before_place (with_pmu_on 1) form.End; broken = λ h. uncovered h.covered });
    number = refl;
  }),
)
