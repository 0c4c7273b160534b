-- Line after line, and the whole text.
use Rattle.std.proofs.Common.{◌≡◌, ℕ, ◌+◌, true, List, [], ◌∷◌, ◌++◌, length, length-append, get_or, take, Result, Ok, Err, inl, refl, sym, ap, subst, ◌∙◌, arith, append_assoc}
use Rattle.std.proofs.lemmas.{List.{append-nil, length_push, take_at}}
use Rattle.std.{proofs.Math.Seq.{get_or-append_seam}, specs.Prelude.{Any, IfOk}}
use Rattle.perf_base.specs.{declared.reasons.SReason.{SReason}, Scripts.{Scripted}}
use Rattle.script_spec.specs.{Lines.{lines_of, rest_of}, Forms.{Version, Form}, Meaning.{script_of}, Faults.{section, IsSound, IsFaulty}}
use Rattle.script_spec.specs.Texts.{version_of, AreSound, StandsFor, IsRefused}
use Rattle.script_spec.specs.Forms as form
pub use Rattle.script_spec.proofs.Sound.{sound_more}
use Rattle.script_read.specs.{declared.{progress.Progress.{Progress}, fault.{ScriptFault.{ScriptFault}, LineFault.{LineFault}}}, Fault.{Blames}}
use Rattle.script_read.specs.Progress.{Behind, ended_of, IsTakenLine}
use Rattle.script_read.specs.Reading.{IsNextLine, HasNoLine, IsReading, Says, IsFinished, IsBlamed, blamed_of}
use Rattle.script_read.proofs.Beginning.{end_rank}
use Rattle.script_read.specs.declared.progress.Progress.TheVariants as progress
use Rattle.script_read.specs.declared.fault.ScriptFault.TheVariants as fault
use Rattle.script_read.specs.declared.fault.LineFault.TheVariants as line_fault

-- the lines that were read, and one more
split_more : (all front : List (List ℕ)) (line : List ℕ) (more : List (List ℕ)) (n : ℕ) → all ≡ front ++ (line ∷ more) → length front ≡ n → take (n + 1) all ≡ front ++ line ∷ []
split_more all front line more n e l =
    let w : all ≡ (front ++ line ∷ []) ++ more = e ∙ sym (append_assoc front (line ∷ []) more) in
    ap (take (n + 1)) w ∙ take_at (front ++ line ∷ []) more (n + 1) (length_push front line ∙ ap (λ k. k + 1) l)

front_length : (text : List ℕ) (p : Progress) (n : ℕ) (left : List ℕ) (r : IsReading text p n left) → length (take n (lines_of text)) ≡ n
front_length text p n left r = sym r.sound.as_many ∙ r.many

pub reading_more : (text : List ℕ) (v : Version) (p q : Progress) (n : ℕ) (left line more : List ℕ) → v ≡ version_of (lines_of text) → IsReading text p n left → IsNextLine left line more
    → ((forms : List Form) → Behind forms p → IsTakenLine v forms line q) → IsReading text q (n + 1) more
reading_more text v p q n left line more e r x h =
    let t = h r.forms r.behind in
    let split : lines_of text ≡ take n (lines_of text) ++ (line ∷ lines_of more) = r.lines ∙ ap (λ (ls : List (List ℕ)). take n (lines_of text) ++ ls) x.lines in
    let front : take (n + 1) (lines_of text) ≡ take n (lines_of text) ++ line ∷ [] = split_more (lines_of text) (take n (lines_of text)) line (lines_of more) n split (front_length text p n left r) in
    record {
      forms = r.forms ++ t.form ∷ [];
      behind = t.behind;
      many = length_push r.forms t.form ∙ ap (λ k. k + 1) r.many;
      sound = rw front (sound_more (version_of (lines_of text)) (take n (lines_of text)) r.forms line t.form r.sound (subst (λ u. IsSound u r.forms line t.form) e t.sound));
      lines = rw front (split ∙ sym (append_assoc (take n (lines_of text)) (line ∷ []) (lines_of more)));
      rest = r.rest ∙ x.rest;
      few = omega (arith, r.few, x.shorter);
    }

-- ---- a faulty line

pub refused_at : (text : List ℕ) (v : Version) (p : Progress) (n : ℕ) (left line more : List ℕ) (r : SReason) → v ≡ version_of (lines_of text) → IsReading text p n left → IsNextLine left line more
    → ((forms : List Form) → Behind forms p → IsFaulty v forms line r) → IsRefused text (n + 1) r
refused_at text v p n left line more q e r x h =
    let split : lines_of text ≡ take n (lines_of text) ++ (line ∷ lines_of more) = r.lines ∙ ap (λ (ls : List (List ℕ)). take n (lines_of text) ++ ls) x.lines in
    let len : length (take n (lines_of text)) ≡ n = front_length text p n left r in
    let whole : length (lines_of text) ≡ length (take n (lines_of text)) + length (line ∷ lines_of more) = ap length split ∙ length-append (take n (lines_of text)) (line ∷ lines_of more) in
    let at : get_or (lines_of text) (length r.forms) [] ≡ line = ap (λ (ls : List (List ℕ)). get_or ls (length r.forms) []) split ∙ (ap (λ k. get_or (take n (lines_of text) ++ (line ∷ lines_of more)) k []) (r.many ∙ sym len) ∙ get_or-append_seam (take n (lines_of text)) line (lines_of more) []) in (
      r.forms,
      inl (record {
        within = omega (arith, whole, len, r.many);
        sound = subst (λ k. AreSound (version_of (lines_of text)) (take k (lines_of text)) r.forms) (sym r.many) r.sound;
        faulty = rw at (subst (λ u. IsFaulty u r.forms line q) e (h r.forms r.behind));
        number = ap (λ k. k + 1) (sym r.many);
      }),
    )

-- ---- the end

all_read : (text : List ℕ) (p : Progress) (n : ℕ) (left : List ℕ) → (r : IsReading text p n left) → HasNoLine left → (take n (lines_of text) ≡ lines_of text) × (rest_of text ≡ left)
all_read text p n left r x = (sym (r.lines ∙ (ap (λ (ls : List (List ℕ)). take n (lines_of text) ++ ls) x.lines ∙ append-nil (take n (lines_of text)))), r.rest ∙ x.rest)

sound_all : (text : List ℕ) (p : Progress) (n : ℕ) (left : List ℕ) → (r : IsReading text p n left) → HasNoLine left → AreSound (version_of (lines_of text)) (lines_of text) r.forms
sound_all text p n left r x = subst (λ ls. AreSound (version_of (lines_of text)) ls r.forms) (all_read text p n left r x).0 r.sound

end_form : (f : Form) → section f ≡ 10 → f ≡ form.End
end_form (form.Perf v) e = absurd (omega (arith, e))
end_form form.End e = refl
end_form other e = absurd (omega (arith, e))

has_end : (forms : List Form) (p : Progress) → Behind forms p → ended_of p ≡ true → Any (λ f. f ≡ form.End) forms
has_end forms progress.Nothing b e = absurd cc
has_end forms progress.Version b e = absurd cc
has_end forms (progress.Machine s) h e =
    let a = h.reached in
    (a.0, a.1, a.2, a.3, end_form a.1 (a.4 ∙ end_rank s.section e))

says_script : (forms : List Form) (p : Progress) (s : Scripted) → Behind forms p → Says p s → s ≡ script_of forms
says_script forms progress.Nothing s b h = absurd h
says_script forms progress.Version s b h = absurd h
says_script forms (progress.Machine t) s b h = h ∙ b.script

stands : (text : List ℕ) (p : Progress) (n : ℕ) (left : List ℕ) (s : Scripted) → IsReading text p n left → HasNoLine left → IsFinished left p s → StandsFor text s
stands text p n left s r x f =
    (r.forms, record { sound = sound_all text p n left r x; ended = (all_read text p n left r x).1 ∙ f.nothing; has_end = has_end r.forms p r.behind f.ended }, says_script r.forms p s r.behind f.says)

pub finished : {X : Type 0} (script : X → Scripted) (lines : X → ℕ) (text : List ℕ) (p : Progress) (n : ℕ) (left : List ℕ) (r : Result X ScriptFault) → IsReading text p n left → HasNoLine left
    → IfOk r (λ x. IsFinished left p (script x) × (lines x ≡ n)) → IfOk r (λ x. StandsFor text (script x) × (lines x ≡ length (lines_of text)))
finished script lines text p n left (Ok x) reading none h =
    (stands text p n left (script x) reading none h.0, h.1 ∙ (sym (front_length text p n left reading) ∙ ap length (all_read text p n left reading none).0))
finished script lines text p n left (Err e) reading none h = tt

blamed : (text : List ℕ) (e : ScriptFault) (n : ℕ) (r : SReason) → e ≡ fault.Bad n r → IsRefused text n r → IsBlamed text e
blamed text e n r is h = subst (IsBlamed text) (sym is) h

pub line_blamed : (text : List ℕ) (v : Version) (p : Progress) (n : ℕ) (left line more : List ℕ) (x : LineFault) → v ≡ version_of (lines_of text) → IsReading text p n left → IsNextLine left line more
    → ((forms : List Form) → Behind forms p → Blames x (λ r. IsFaulty v forms line r)) → IsBlamed text (blamed_of (n + 1) x)
line_blamed text v p n left line more (line_fault.Bad r) e reading next h = refused_at text v p n left line more r e reading next h
line_blamed text v p n left line more line_fault.NoMemory e reading next h = tt
