-- A line by what is asked of its form; and that it stands for one line, or is refused for one reason, and never both.
use Rattle.std.proofs.Common.{◌≡◌, ℕ, ◌<◌, ◌≤◌, All, List, Result, Ok, Err, inl, inr, sym, ap, subst, ◌∙◌, arith}
use Rattle.std.{proofs.lemmas.{Bool.{cases_order}, Option.{same_Some}}, specs.Prelude.{IfOk, IfErr}}
use Rattle.perf_base.specs.declared.{acts.Act.{Act}, reasons.SReason.{SReason}}
use Rattle.perf_base.specs.Scripts.{Scripted}
use Rattle.perf_base.specs.declared.acts.Act.TheVariants as act
use Rattle.perf_base.specs.declared.reasons.SReason.TheVariants as reason
use Rattle.script_spec.specs.{Forms.{Version, Form}, Faults.{IsPrintable, rank}}
use Rattle.script_spec.specs.Forms as form
use Rattle.script_read.proofs.OneAnswer.{rank_one}
use Rattle.given_lines.specs.declared.given.Given.{Given}
use Rattle.given_lines.specs.declared.given.Given.TheVariants as given
use Rattle.given_lines.specs.Given.{IsOfActor, IsOwnLine, IsInRangeFor, IsNamedFor, Each, Keeps, IsBadLine, Says, IsGivenLine}
use Rattle.given_lines.{specs.Giving.{AsksActor, SaysOfActor, RefusesActor}, proofs.Actors.{one_actor}}

module _ (s : Scripted) (v : Version) (line : List ℕ) (a : Act) (f : Form) (plain : All IsPrintable line) (is : IsOfActor v line a f) where
  each : (P : Act → Form → Type 0) → P a f → Each v line P
  each P h b g i = let e = one_actor v line a b f g is i in subst (λ x. P x g) e.0 (subst (P a) e.1 h)

  keeps : (q : SReason) → AsksActor s a f q → Keeps s v line q
  keeps reason.Ascii h = plain
  keeps reason.Form h = (a, f, is)
  keeps reason.Place h = each IsOwnLine h
  keeps reason.Range h = each (IsInRangeFor s) h
  keeps reason.Attr h = λ b g i. let e = one_actor v line a b f g is i in subst (λ x. AsksActor s a x reason.Attr) e.1 h
  keeps reason.Name h = λ b g i. let e = one_actor v line a b f g is i in subst (IsNamedFor s) e.1 h
  keeps other h = tt

  breaks : (q : SReason) → (AsksActor s a f q → ⊥) → Keeps s v line q → ⊥
  breaks reason.Place b k = b (k a f is)
  breaks reason.Range b k = b (k a f is)
  breaks reason.Attr b k = b (k a f is)
  breaks reason.Name b k = b (k a f is)
  breaks other b k = b tt

  pub given_line : (g : Given) → SaysOfActor s a f g → IsGivenLine s v line g
  given_line g h = record { actor = a; form = f; is = is; keeps = λ q. keeps q (h.asks q); says = h.says }

  pub bad_line : (r : SReason) → RefusesActor s a f r → IsBadLine s v line r
  bad_line r h = record { earlier = λ q l. keeps q (h.earlier q l); broken = breaks r h.broken }

  pub line_says : (r : Result Given SReason) → IfOk r (SaysOfActor s a f) → IfOk r (IsGivenLine s v line)
  line_says (Ok g) h = given_line g h
  line_says (Err r) h = tt

  pub line_refuses : (r : Result Given SReason) → IfErr r (RefusesActor s a f) → IfErr r (IsBadLine s v line)
  line_refuses (Ok g) h = tt
  line_refuses (Err r) h = bad_line r h

-- ---- a line of no form

early : (s : Scripted) (v : Version) (line : List ℕ) (n : ℕ) → n ≤ 2 → (1 < n → All IsPrintable line) → (q : SReason) → rank q < n → Keeps s v line q
early s v line n few plain reason.Ascii l = plain l
early s v line n few plain reason.Form l = absurd (omega (arith, few, l))
early s v line n few plain reason.Place l = absurd (omega (arith, few, l))
early s v line n few plain reason.Range l = absurd (omega (arith, few, l))
early s v line n few plain reason.Attr l = absurd (omega (arith, few, l))
early s v line n few plain reason.Name l = absurd (omega (arith, few, l))
early s v line n few plain other l = tt

pub form_bad : (s : Scripted) (v : Version) (line : List ℕ) → All IsPrintable line → ((a : Act) (f : Form) → IsOfActor v line a f → ⊥) → IsBadLine s v line reason.Form
form_bad s v line plain none = record { earlier = early s v line 2 (omega arith) (λ _. plain); broken = λ k. none k.0 k.1 k.2 }

-- ---- one answer

bad_one : (s : Scripted) (v : Version) (line : List ℕ) (r q : SReason) → IsBadLine s v line r → IsBadLine s v line q → r ≡ q
bad_one s v line r q a b = elim (cases_order (rank r) (rank q)) [
  | inl same ↦ rank_one r q same
  | inr (inl less) ↦ absurd (a.broken (b.earlier r less))
  | inr (inr more) ↦ absurd (b.broken (a.earlier q more))
]

given_or_bad : (s : Scripted) (v : Version) (line : List ℕ) (g : Given) (r : SReason) → IsGivenLine s v line g → IsBadLine s v line r → ⊥
given_or_bad s v line g r a b = b.broken (a.keeps r)

says_one : (s : Scripted) (a : Act) (f : Form) (g h : Given) → Says s a f g → Says s a f h → g ≡ h
says_one s (act.Processor cpu) (form.OnProcessor line) g h x y = x ∙ sym y
says_one s (act.Tool tool) (form.OnTool line) g h x y = x.2 ∙ (ap (given.Tool tool) (same_Some x.0 y.0 (sym x.1 ∙ y.1)) ∙ sym y.2)
says_one s a f g h x y = absurd x

given_one : (s : Scripted) (v : Version) (line : List ℕ) (g h : Given) → IsGivenLine s v line g → IsGivenLine s v line h → g ≡ h
given_one s v line g h x y =
    let e = one_actor v line x.actor y.actor x.form y.form x.is y.is in
    says_one s y.actor y.form g h (subst (λ a. Says s a y.form g) e.0 (subst (λ f. Says s x.actor f g) e.1 x.says)) y.says

pub only_line : (s : Scripted) (v : Version) (line : List ℕ) (r : Result Given SReason) → IfOk r (IsGivenLine s v line) → IfErr r (IsBadLine s v line) → (g : Given) → IsGivenLine s v line g → r ≡ Ok g
only_line s v line (Ok h) ok bad g x = ap Ok (given_one s v line h g ok x)
only_line s v line (Err q) ok bad g x = absurd (given_or_bad s v line g q x bad)

pub only_reason : (s : Scripted) (v : Version) (line : List ℕ) (r : Result Given SReason) → IfOk r (IsGivenLine s v line) → IfErr r (IsBadLine s v line) → (q : SReason) → IsBadLine s v line q → r ≡ Err q
only_reason s v line (Ok h) ok bad q x = absurd (given_or_bad s v line h q ok x)
only_reason s v line (Err p) ok bad q x = ap Err (bad_one s v line p q bad x)
