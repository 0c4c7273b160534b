-- A form that is taken, as a line.
use Rattle.std.{proofs.Common.{◌≡◌, ℕ, false, All, List, [], ◌∷◌, Result, Ok, Err, refl, sym, subst}, specs.Prelude.{IfOk, IfErr, OnOk}}
use Rattle.script_spec.specs.{Lines.{words_of}, Forms.{Version, Form, IsOfForm}, Faults.{IsPrintable, IsFaulty}}
use Rattle.script_spec.specs.Forms as form
use Rattle.script_read.specs.{declared.{progress.Progress.{Progress}, fault.LineFault.{LineFault}}, Fault.{Blames}}
use Rattle.script_read.specs.Progress.{Behind, IsTaken, IsFirstOf, ended_of, IsTakenLine}
use Rattle.script_read.proofs.Beginning.{ended_false, sound_line, faulty_line}
use Rattle.script_read.specs.declared.progress.Progress.TheVariants as progress
use Rattle.script_read.specs.declared.fault.LineFault.TheVariants as fault

version_taken : (forms : List Form) (f : Form) (q : Progress) → ((v : Version) → IsTaken (form.Perf v ∷ []) f q) → (v : Version) × (forms ≡ form.Perf v ∷ []) → IsTaken forms f q
version_taken forms f q h x = subst (λ fs. IsTaken fs f q) (sym x.1) (h x.0)

pub version_ok : (f : Form) (p q : Progress) → p ≡ progress.Version → ((v : Version) → IsTaken (form.Perf v ∷ []) f q) → (forms : List Form) → Behind forms p → IsTaken forms f q
version_ok f p q e h forms b = version_taken forms f q h (subst (Behind forms) e b)

pub version_bad : (f : Form) (p : Progress) (x : LineFault) → p ≡ progress.Version → ((v : Version) → Blames x (λ q. IsFirstOf (form.Perf v ∷ []) f q)) → (forms : List Form) → Behind forms p → Blames x (λ q. IsFirstOf forms f q)
version_bad f p x e h forms b =
    let version : (v : Version) × (forms ≡ form.Perf v ∷ []) = subst (Behind forms) e b in
    subst (λ fs. Blames x (λ q. IsFirstOf fs f q)) (sym version.1) (h version.0)

-- ---- what holds where a call went well, or failed

pub ok_then : {A E : Type 0} (r : Result A E) (P Q : Type 0) → (P → Q) → OnOk r P → OnOk r Q
ok_then (Ok x) P Q f p = f p
ok_then (Err e) P Q f p = tt

pub both_then : {A E : Type 0} (r : Result A E) (P Q R : Type 0) → (P → Q → R) → OnOk r P → OnOk r Q → OnOk r R
both_then (Ok x) P Q R f p q = f p q
both_then (Err e) P Q R f p q = tt

pub err_then : {A E : Type 0} (r : Result A E) (P Q : E → Type 0) → ((e : E) → P e → Q e) → IfErr r P → IfErr r Q
err_then (Ok x) P Q f p = tt
err_then (Err e) P Q f p = f e p

-- ---- a line by its form

module _ (v : Version) (line : List ℕ) (f : Form) (p : Progress) (e : ended_of p ≡ false) (plain : All IsPrintable line) (is : IsOfForm v (words_of line) f) (one : (g : Form) → IsOfForm v (words_of line) g → g ≡ f) where
  pub line_ok : (q : Progress) → ((forms : List Form) → Behind forms p → IsTaken forms f q) → (forms : List Form) → Behind forms p → IsTakenLine v forms line q
  line_ok q h forms b =
      let t = h forms b in
      record { form = f; sound = sound_line v forms line f (ended_false forms p b e) plain is one t.asks; behind = t.behind }

  pub line_bad : (x : LineFault) → ((forms : List Form) → Behind forms p → Blames x (λ q. IsFirstOf forms f q)) → (forms : List Form) → Behind forms p → Blames x (λ q. IsFaulty v forms line q)
  line_bad (fault.Bad q) h forms b = faulty_line v forms line f (ended_false forms p b e) plain is one q (h forms b)
  line_bad fault.NoMemory h forms b = tt
