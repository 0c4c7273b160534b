-- A text is one head, or is refused as one at one line for one reason, and never both.
use Rattle.std.proofs.Common.{◌≡◌, ℕ, ◌+◌, ◌⊎◌, ltb, List, Result, Ok, Err, inl, inr, refl, sym, ap, ◌∙◌, arith}
use Rattle.std.{proofs.lemmas.{Bool.{cases_Bool, cases_order, ltb-true, ltb-false}}, specs.Prelude.{IfOk, IfErr, MatchResult}}
use Rattle.perf_base.specs.{declared.reasons.SReason.{SReason}, Scripts.{Scripted}}
use Rattle.script_spec.specs.{Lines.{lines_of}, Texts.{version_of, StandsFor}}
use Rattle.script_read.specs.{declared.fault.ScriptFault.{ScriptFault}, Reading.{IsBlamed}}
use Rattle.script_read.specs.declared.fault.ScriptFault.TheVariants as fault
use Rattle.script_read.proofs.OneAnswer.{stands_one, stands_or_refused, refused_one}
use Rattle.given_lines.specs.{Heads.{AreDeclared, IsFirstUndeclared, IsHead, IsHeadRefused, BlamesHead, IsBare}, Passing.{fault_with}}
use Rattle.given_lines.proofs.Bare.{bare_head}

none_first : (text : List ℕ) (n : ℕ) → AreDeclared (version_of (lines_of text)) (lines_of text) → IsFirstUndeclared text n → ⊥
none_first text n h x = h x.before _ x.within x.is

one_first : (text : List ℕ) (n m : ℕ) → IsFirstUndeclared text n → IsFirstUndeclared text m → n ≡ m
one_first text n m x y = elim (cases_order x.before y.before) [
  | inl same ↦ x.number ∙ (ap (λ k. k + 1) same ∙ sym y.number)
  | inr (inl less) ↦ absurd (y.first x.before less x.is)
  | inr (inr more) ↦ absurd (x.first y.before more y.is)
]

-- ---- what is read

pub blamed_alone : (text : List ℕ) (r : Result Scripted ScriptFault) → AreDeclared (version_of (lines_of text)) (lines_of text) → IfErr r (IsBlamed text) → IfErr r (BlamesHead text)
blamed_alone text (Ok s) h bad = tt
blamed_alone text (Err (fault.Bad n r)) h bad = inl (bad, λ m x. absurd (none_first text m h x))
blamed_alone text (Err fault.NoMemory) h bad = tt

pub blamed_first : (text : List ℕ) (r : Result Scripted ScriptFault) (n : ℕ) → IfOk r (StandsFor text) → IfErr r (IsBlamed text) → IsFirstUndeclared text n → BlamesHead text (fault_with r n)
blamed_first text (Ok s) n ok bad x = inr (x, refl, λ m q b. absurd (stands_or_refused text s m q ok b))
blamed_first text (Err (fault.Bad m q)) n ok bad x = elim (cases_Bool (ltb m n)) [
  | inl t ↦ rw t (inl (bad, λ k y. let e = one_first text n k x y in let l = ltb-true _ _ t in omega (arith, e, l)))
  | inr f ↦ rw f (inr (x, refl, λ k p b. let e = refused_one text m k q p bad b in let l = ltb-false _ _ f in omega (arith, e.0, l)))
]
blamed_first text (Err fault.NoMemory) n ok bad x = tt

-- ---- one answer

-- what is read stands for a script of declarations alone
pub bare_result : {H : Type 0} (script : H → Scripted) (Is : H → Type 0) (text : List ℕ) (r : Result H ScriptFault) → IfOk r (λ h. IsHead text (script h) × Is h) → IfOk r (λ h. IsHead text (script h)) × IfOk r (λ h. IsBare (script h))
bare_result script Is text (Ok h) ok = (ok.0, bare_head text (script h) ok.0)
bare_result script Is text (Err e) ok = (tt, tt)

head_one : (text : List ℕ) (s t : Scripted) → IsHead text s → IsHead text t → s ≡ t
head_one text s t a b = stands_one text s t a.stands b.stands

head_or_refused : (text : List ℕ) (s : Scripted) (n : ℕ) (r : SReason) → IsHead text s → IsHeadRefused text n r → ⊥
head_or_refused text s n r a (inl b) = stands_or_refused text s n r a.stands b.0
head_or_refused text s n r a (inr b) = none_first text n a.declares b.0

refusal_one : (text : List ℕ) (n m : ℕ) (r q : SReason) → IsHeadRefused text n r → IsHeadRefused text m q → (n ≡ m) × (r ≡ q)
refusal_one text n m r q (inl a) (inl b) = refused_one text n m r q a.0 b.0
refusal_one text n m r q (inl a) (inr b) = let less = a.1 m b.0 in let more = b.2 n r a.0 in absurd (omega (arith, less, more))
refusal_one text n m r q (inr a) (inl b) = let less = b.1 n a.0 in let more = a.2 m q b.0 in absurd (omega (arith, less, more))
refusal_one text n m r q (inr a) (inr b) = (one_first text n m a.0 b.0, a.1 ∙ sym b.1)

pub only_head : {H : Type 0} (script : H → Scripted) (text : List ℕ) (r : Result H ScriptFault) → IfOk r (λ h. IsHead text (script h)) → IfErr r (BlamesHead text) → (s : Scripted) → IsHead text s → MatchResult r (λ h. script h ≡ s) (λ e. e ≡ fault.NoMemory)
only_head script text (Ok h) ok bad s x = head_one text (script h) s ok x
only_head script text (Err (fault.Bad n q)) ok bad s x = absurd (head_or_refused text s n q x bad)
only_head script text (Err fault.NoMemory) ok bad s x = refl

pub only_refusal : {H : Type 0} (script : H → Scripted) (text : List ℕ) (r : Result H ScriptFault) → IfOk r (λ h. IsHead text (script h)) → IfErr r (BlamesHead text) → (n : ℕ) (q : SReason) → IsHeadRefused text n q
    → MatchResult r (λ h. ⊥) (λ e. (e ≡ fault.Bad n q) ⊎ (e ≡ fault.NoMemory))
only_refusal script text (Ok h) ok bad n q x = head_or_refused text (script h) n q ok x
only_refusal script text (Err (fault.Bad m p)) ok bad n q x = let one = refusal_one text m n p q bad x in inl (ap (λ k. fault.Bad k p) one.0 ∙ ap (fault.Bad n) one.1)
only_refusal script text (Err fault.NoMemory) ok bad n q x = inr refl
