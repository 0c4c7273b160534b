-- Each line is sound or at fault, and so each text stands for a script or is refused.
use Rattle.std.proofs.Common.{◌≡◌, ◌≢◌, ℕ, zero, suc, ◌+◌, ◌<◌, ◌≤◌, ◌⊎◌, All, List, [], ◌∷◌, ◌++◌, length, length-take-le, get_or, take, Option, Some, None, inl, inr, refl, sym, ap, subst, ◌∙◌, arith}
use Rattle.std.{proofs.lemmas.{Bool.{cases_lt}, List.{take_all, take_more, Elements.{All-cons}}}, specs.Prelude.{Any}}
use Rattle.perf_base.specs.{declared.reasons.SReason.{SReason}, Scripts.{Scripted}}
use Rattle.perf_base.specs.declared.reasons.SReason.TheVariants as reason
use Rattle.script_spec.specs.{Lines.{words_of, lines_of, rest_of}, Forms.{Version, Form}, Meaning.{script_of}}
use Rattle.script_spec.specs.{Faults.{IsNoEnd, IsPrintable, IsSound, IsFaulty, rank}, Texts.{version_of, AreSound, StandsFor, IsRefused}}
use Rattle.script_spec.specs.Forms as form
use Rattle.line_forms.{specs.Reading.{form_at}, proofs.Laws.{form-takes, form-again, one_form}}
use Rattle.script_read.{specs.Progress.{AsksOf, IsFirstOf}, proofs.Beginning.{sound_line, faulty_line, form_faulty, ascii_faulty, end_faulty}}
use Rattle.script_read.proofs.{Whole.{sound_more}, OneAnswer.{ranked, ranked_back}, Known.{Yes, No, any_first, any_later}}
use Rattle.script_read.proofs.Asked.{known_printable, known_no_end, asked}

-- ---- a form

rank_low : (q : SReason) → rank q < 10
rank_low reason.End = omega arith
rank_low reason.Ascii = omega arith
rank_low reason.Form = omega arith
rank_low reason.Place = omega arith
rank_low reason.Range = omega arith
rank_low reason.Attr = omega arith
rank_low reason.Name = omega arith
rank_low reason.Limit = omega arith
rank_low reason.Weight = omega arith
rank_low reason.Order = omega arith

-- the first reason from a rank on that is not kept
first_from : (before : List Form) (f : Form) (m n : ℕ) → n + m ≡ 10 → ((q : SReason) → rank q < n → AsksOf before f q)
    → ((q : SReason) → AsksOf before f q) ⊎ ((r : SReason) × IsFirstOf before f r)
first_from before f zero n e kept = inl (λ q. let low = rank_low q in kept q (omega (arith, low, e)))
first_from before f (suc m) n e kept = elim (asked before f (ranked n)) [
  | Yes here ↦
      first_from before f m (suc n) (omega (arith, e)) (λ q l. elim (cases_lt (rank q) n) [
        | inl less ↦ kept q less
        | inr past ↦ grind (arith, past, ranked, ranked_back)
      ])
  | No not ↦ grind (arith, ranked, not)
]

form_decided : (before : List Form) (f : Form) → ((q : SReason) → AsksOf before f q) ⊎ ((r : SReason) × IsFirstOf before f r)
form_decided before f = first_from before f 10 0 refl (λ q l. absurd (omega (arith, l)))

-- ---- a line

line_decided : (v : Version) (before : List Form) (line : List ℕ) → ((f : Form) × IsSound v before line f) ⊎ ((r : SReason) × IsFaulty v before line r)
line_decided v before line = elim (known_no_end before) [
  | No ended ↦ inr (reason.End, end_faulty v before line ended)
  | Yes no_end ↦ elim (known_printable line) [
    | No odd ↦ inr (reason.Ascii, ascii_faulty v before line no_end odd)
    | Yes plain ↦ by_form no_end plain (form_at v (words_of line)) refl
  ]
]
  where
    by_form : All IsNoEnd before → All IsPrintable line → (o : Option Form) → form_at v (words_of line) ≡ o → ((f : Form) × IsSound v before line f) ⊎ ((r : SReason) × IsFaulty v before line r)
    by_form no_end plain None e = inr (reason.Form, form_faulty v before line no_end plain (λ f h. let z = sym (form-again v (words_of line) f h) ∙ e in absurd cc))
    by_form no_end plain (Some f) e =
        let is = form-takes v (words_of line) f e in
        elim (form_decided before f) [
          | inl asks ↦ inl (f, sound_line v before line f no_end plain is (λ g h. one_form v (words_of line) g f h is) asks)
          | inr first ↦ inr (first.0, faulty_line v before line f no_end plain is (λ g h. one_form v (words_of line) g f h is) first.0 first.1)
        ]

-- ---- the lines of a text

-- the first faulty line among some, behind the forms of those before it
record FirstFaulty (v : Version) (lines : List (List ℕ)) (n : ℕ) : Type 0 where
  before : List Form
  within : length before < n
  sound : AreSound v (take (length before) lines) before
  why : SReason
  faulty : IsFaulty v before (get_or lines (length before) []) why

lines_decided : (v : Version) (lines : List (List ℕ)) (n : ℕ) → n ≤ length lines → ((forms : List Form) × AreSound v (take n lines) forms) ⊎ FirstFaulty v lines n
lines_decided v lines zero l = inl ([], record { as_many = refl; each = λ k w. absurd (omega (arith, w)) })
lines_decided v lines (suc n) l = elim (lines_decided v lines n (omega (arith, l))) [
  | inr fault ↦ inr (record { before = fault.before; within = omega (arith, fault.within); sound = fault.sound; why = fault.why; faulty = fault.faulty })
  | inl so_far ↦
      let many : length so_far.0 ≡ n = so_far.1.as_many ∙ length-take-le n lines (omega (arith, l)) in
      elim (line_decided v so_far.0 (get_or lines n [])) [
        | inl s ↦ inl (so_far.0 ++ s.0 ∷ [], longer so_far.0 s.0 so_far.1 s.1)
        | inr r ↦ inr (record {
          before = so_far.0;
          within = omega (arith, many);
          sound = subst (λ k. AreSound v (take k lines) so_far.0) (sym many) so_far.1;
          why = r.0;
          faulty = subst (λ k. IsFaulty v so_far.0 (get_or lines k []) r.0) (sym many) r.1;
        })
      ]
]
  where
    longer : (forms : List Form) (f : Form) → AreSound v (take n lines) forms → IsSound v forms (get_or lines n []) f → AreSound v (take (suc n) lines) (forms ++ f ∷ [])
    longer forms f a s =
        let more : suc n ≡ n + 1 = omega arith in
        let next : take (suc n) lines ≡ take n lines ++ get_or lines n [] ∷ [] = ap (λ k. take k lines) more ∙ take_more lines n [] (omega (arith, l)) in
        subst (λ ls. AreSound v ls (forms ++ f ∷ [])) (sym next) (sound_more v (take n lines) forms (get_or lines n []) f a s)

-- ---- the end

one_more : (f : Form) (forms : List Form) → All IsNoEnd forms ⊎ Any (λ g. g ≡ form.End) forms → All IsNoEnd (f ∷ forms) ⊎ Any (λ g. g ≡ form.End) (f ∷ forms)
one_more form.End forms others = inr (any_first (λ g. g ≡ form.End) form.End forms refl)
one_more other forms (inl none) = inl (All-cons IsNoEnd other forms tt none)
one_more other forms (inr some) = inr (any_later (λ g. g ≡ form.End) other forms some)

no_end_or_end : (forms : List Form) → All IsNoEnd forms ⊎ Any (λ f. f ≡ form.End) forms
no_end_or_end [] = inl (λ k d l. absurd (omega (arith, l)))
no_end_or_end (f ∷ forms) = one_more f forms (no_end_or_end forms)

empty_or_more : (xs : List ℕ) → (xs ≡ []) ⊎ (xs ≢ [])
empty_or_more [] = inl refl
empty_or_more (x ∷ xs) = inr (λ e. absurd cc)

-- ---- the text

sound_decided : (text : List ℕ) (forms : List Form) → AreSound (version_of (lines_of text)) (lines_of text) forms
    → ((s : Scripted) × StandsFor text s) ⊎ ((line : ℕ) × (r : SReason) × IsRefused text line r)
sound_decided text forms sound = elim (empty_or_more (rest_of text)) [
  | inr more ↦ inr (length (lines_of text) + 1, reason.End, (forms, inr (inl (record { sound = sound; more = more; number = refl; is_end = refl }))))
  | inl ended ↦ elim (no_end_or_end forms) [
    | inr has_end ↦ inl (script_of forms, (forms, record { sound = sound; ended = ended; has_end = has_end }, refl))
    | inl no_end ↦ inr (length (lines_of text), reason.End, (forms, inr (inr (record { sound = sound; ended = ended; no_end = no_end; number = refl; is_end = refl }))))
  ]
]

pub text_decided : (text : List ℕ) → ((s : Scripted) × StandsFor text s) ⊎ ((line : ℕ) × (r : SReason) × IsRefused text line r)
text_decided text =
    let v = version_of (lines_of text) in
    let all : take (length (lines_of text)) (lines_of text) ≡ lines_of text = take_all (length (lines_of text)) (lines_of text) (omega arith) in
    elim (lines_decided v (lines_of text) (length (lines_of text)) (omega arith)) [
      | inl sound ↦ sound_decided text sound.0 (subst (λ ls. AreSound v ls sound.0) all sound.1)
      | inr fault ↦ inr (length fault.before + 1, fault.why, (fault.before, inl (record { within = fault.within; sound = fault.sound; faulty = fault.faulty; number = refl })))
    ]
