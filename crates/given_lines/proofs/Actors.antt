-- A line is of at most one actor and form.
use Rattle.std.proofs.Common.{◌≡◌, ℕ, List, [], ◌∷◌, get_or, drop, Option, Some, None, sym, ap, subst, ◌∙◌}
use Rattle.std.proofs.lemmas.Option.{same_Some, none-some}
use Rattle.perf_base.specs.declared.acts.Act.{Act}
use Rattle.script_spec.specs.{Acts.{act_text}, Lines.{words_of, pieces}, Forms.{Version, Form, IsActSpelling, IsOfForm}}
use Rattle.line_forms.specs.{Words.{cut, pieces_behind}, Acts.{act_in}, Reading.{form_at}}
use Rattle.line_forms.proofs.{Cuts.{pieces_cut}, Laws.{one_form, form-again}, Sequences.{act-again}}
use Rattle.given_lines.specs.{Given.{IsOfActor}, Giving.{IsWorkerWord, IsForActor, IsOfNone}}

heads : (x y : List ℕ) (xs ys : List (List ℕ)) → x ∷ xs ≡ y ∷ ys → (x ≡ y) × (xs ≡ ys)
heads x y xs ys e = (ap (λ (ws : List (List ℕ)). get_or ws 0 []) e, ap (λ (ws : List (List ℕ)). drop 1 ws) e)

one_act : (a b : Act) → IsActSpelling a → IsActSpelling b → act_text a ≡ act_text b → a ≡ b
one_act a b h i e = same_Some a b (sym (act-again a h) ∙ (ap act_in e ∙ act-again b i))

pub one_actor : (v : Version) (line : List ℕ) (a b : Act) (f g : Form) → IsOfActor v line a f → IsOfActor v line b g → (a ≡ b) × (f ≡ g)
one_actor v line a b f g h i =
    let e = heads (act_text a) (act_text b) h.words i.words (sym h.parts ∙ i.parts) in
    (one_act a b h.spelling i.spelling e.0, one_form v h.words f g h.form (subst (λ ws. IsOfForm v ws g) (sym e.1) i.form))

-- ---- a line by its first word

no_words : (v : Version) (f : Form) → IsOfForm v [] f → ⊥
unfolding form_at
no_words v f h = none-some f (form-again v [] f h)

parts_of : (line word : List ℕ) (behind : Option (List ℕ)) → (word, behind) ≡ cut 32 line → words_of line ≡ word ∷ pieces_behind 32 behind
parts_of line word behind e = pieces_cut 32 line ∙ ap (λ (x : List ℕ × Option (List ℕ)). x.0 ∷ pieces_behind 32 x.1) (sym e)

pub alone_none : (line word : List ℕ) → (word, None) ≡ cut 32 line → IsOfNone line
alone_none line word e v a f h =
    let p = heads word (act_text a) [] h.words (sym (parts_of line word None e) ∙ h.parts) in
    no_words v f (subst (λ ws. IsOfForm v ws f) (sym p.1) h.form)

pub nobody_none : (line word behind : List ℕ) → (word, Some behind) ≡ cut 32 line → ((a : Act) → IsWorkerWord word a → ⊥) → IsOfNone line
nobody_none line word behind e none v a f h =
    let p = heads word (act_text a) (pieces 32 behind) h.words (sym (parts_of line word (Some behind) e) ∙ h.parts) in
    none a (record { worker = h.worker; spelling = h.spelling; is = p.0 })

pub for_actor : (line word behind : List ℕ) (a : Act) → (word, Some behind) ≡ cut 32 line → IsWorkerWord word a → IsForActor line a behind
for_actor line word behind a e h = record {
  worker = h.worker;
  spelling = h.spelling;
  parts = parts_of line word (Some behind) e ∙ ap (λ w. w ∷ pieces 32 behind) h.is;
}

-- what stands behind the actor is the line's form
pub with_form : (v : Version) (line behind : List ℕ) (a : Act) (f : Form) → IsForActor line a behind → IsOfForm v (words_of behind) f → IsOfActor v line a f
with_form v line behind a f h is = record { worker = h.worker; spelling = h.spelling; words = words_of behind; parts = h.parts; form = is }

-- where that has no form, the line is of none
pub formless : (v : Version) (line behind : List ℕ) (a : Act) → IsForActor line a behind → ((f : Form) → IsOfForm v (words_of behind) f → ⊥) → (b : Act) (f : Form) → IsOfActor v line b f → ⊥
formless v line behind a h none b f is =
    let p = heads (act_text a) (act_text b) (words_of behind) is.words (sym h.parts ∙ is.parts) in
    none f (subst (λ ws. IsOfForm v ws f) (sym p.1) is.form)
