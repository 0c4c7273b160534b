-- The first two lines, and a line as its form.
use Rattle.std.proofs.Common.{◌≡◌, ℕ, ◌-◌, ◌^◌, ◌<◌, ◌≤◌, true, false, All, List, [], ◌∷◌, get_or, Option, None, refl, sym, ap, subst, ◌∙◌, arith}
use Rattle.std.proofs.lemmas.{Nat.Bits.{bit_at_or, bit_at-zero, same_from_bits}, List.Elements.{All-cons}}
use Rattle.std.{proofs.Math.Nat.{pow-le-pow_right}, specs.Prelude.{bit_or}}
use Rattle.perf_base.specs.{declared.reasons.SReason.{SReason}, Scripts.{empty_script, with_pmu}}
use Rattle.perf_base.specs.declared.reasons.SReason.TheVariants as reason
use Rattle.script_spec.specs.{Lines.{words_of}, Forms.{Version, Form, IsOfForm}, Meaning.{script_of}}
use Rattle.script_spec.specs.Faults.{section, IsPlaced, IsNoEnd, IsPrintable, Keeps, IsFaulty, IsSound, rank, IsInRange}
use Rattle.script_spec.specs.Forms as form
use Rattle.script_read.specs.declared.{state.{Section.{Section}, State.{State}}, progress.Progress.{Progress}}
use Rattle.script_read.specs.{State.{cpu_number, tool_number, is_end, rank_of, Follows}, Adding.{IsSoundState}}
use Rattle.script_read.{specs.Progress.{Behind, AsksOf, IsFirstOf, IsTaken, ended_of}, proofs.Following.{script_cpus}}
use Rattle.script_read.specs.declared.state.Section.TheVariants as part
use Rattle.script_read.specs.declared.progress.Progress.TheVariants as progress

-- ---- the first line

pub perf_taken : (v : Version) → IsTaken [] (form.Perf v) progress.Version
perf_taken v = record { asks = asks; behind = (v, refl) }
  where
    asks : (q : SReason) → AsksOf [] (form.Perf v) q
    asks reason.Place = refl
    asks other = tt

-- what the reasons before the n-th ask
pub early : (before : List Form) (f : Form) (n : ℕ) → n ≤ 4 → (4 ≤ n → IsPlaced before f) → (q : SReason) → rank q < n → AsksOf before f q
early before f n few placed reason.End l = tt
early before f n few placed reason.Ascii l = tt
early before f n few placed reason.Form l = tt
early before f n few placed reason.Order l = tt
early before f n few placed reason.Place l = placed (omega (arith, l))
early before f n few placed reason.Range l = absurd (omega (arith, few, l))
early before f n few placed reason.Attr l = absurd (omega (arith, few, l))
early before f n few placed reason.Name l = absurd (omega (arith, few, l))
early before f n few placed reason.Limit l = absurd (omega (arith, few, l))
early before f n few placed reason.Weight l = absurd (omega (arith, few, l))

pub before_place : (before : List Form) (f : Form) (q : SReason) → rank q < 3 → AsksOf before f q
before_place before f = early before f 3 (omega arith) (λ l. absurd (omega (arith, l)))

-- ---- the second line

pub range_first : (before : List Form) (f : Form) → IsPlaced before f → (IsInRange before f → ⊥) → IsFirstOf before f reason.Range
range_first before f p b = record { earlier = early before f 4 (omega arith) (λ _. p); broken = b }

pub machine_asks : (before : List Form) (cpus counters : ℕ) → IsPlaced before (form.Machine cpus counters) → IsInRange before (form.Machine cpus counters) → (q : SReason) → AsksOf before (form.Machine cpus counters) q
machine_asks before cpus counters p r reason.Place = p
machine_asks before cpus counters p r reason.Range = r
machine_asks before cpus counters p r other = tt

pub bare_asks : (before : List Form) (cpus : ℕ) → IsPlaced before (form.MachineOfPmus cpus) → IsInRange before (form.MachineOfPmus cpus) → (q : SReason) → AsksOf before (form.MachineOfPmus cpus) q
bare_asks before cpus p r reason.Place = p
bare_asks before cpus p r reason.Range = r
bare_asks before cpus p r other = tt

pub machine_taken : (v : Version) (cpus counters : ℕ) (s : State) → IsInRange (form.Perf v ∷ []) (form.Machine cpus counters) → Follows (form.Perf v ∷ form.Machine cpus counters ∷ []) s → IsTaken (form.Perf v ∷ []) (form.Machine cpus counters) (progress.Machine s)
machine_taken v cpus counters s r h = record { asks = machine_asks (form.Perf v ∷ []) cpus counters refl r; behind = h }

pub bare_taken : (v : Version) (cpus : ℕ) (s : State) → IsInRange (form.Perf v ∷ []) (form.MachineOfPmus cpus) → Follows (form.Perf v ∷ form.MachineOfPmus cpus ∷ []) s → IsTaken (form.Perf v ∷ []) (form.MachineOfPmus cpus) (progress.Machine s)
bare_taken v cpus s r h = record { asks = bare_asks (form.Perf v ∷ []) cpus refl r; behind = h }

or_none : (n : ℕ) → n ≡ bit_or n 0
or_none n = same_from_bits n (bit_or n 0) (λ i. let z = bit_at-zero i in let o = bit_at_or n 0 i in omega (arith, z, o))

pub follows_machine : (v : Version) (cpus counters : ℕ) (s : State) → s.script ≡ with_pmu (empty_script cpus) (record { counters = counters; cpus = record { 0 = 2 ^ cpus - 1 } }) → s.section ≡ part.Machine → s.cpu ≡ None → s.tool ≡ None → s.named.0 ≡ 2 ^ cpus - 1
    → Follows (form.Perf v ∷ form.Machine cpus counters ∷ []) s
unfolding script_of
follows_machine v cpus counters s e sect c t n = record {
  two = omega arith;
  script = e;
  highest = rw sect (All-cons (λ g. section g ≤ 1) (form.Perf v) (form.Machine cpus counters ∷ []) (omega arith) (All-cons (λ g. section g ≤ 1) (form.Machine cpus counters) [] (omega arith) (λ k d l. absurd (omega (arith, l)))));
  reached = rw sect (1, form.Machine cpus counters, omega arith, refl, refl);
  cpu = ap cpu_number c;
  cpus_rise = tt;
  cpu_within = tt;
  tool = ap tool_number t;
  tools_rise = tt;
  tool_within = tt;
  named = n ∙ or_none (2 ^ cpus - 1);
}

pub follows_bare : (v : Version) (cpus : ℕ) (s : State) → s.script ≡ empty_script cpus → s.section ≡ part.Machine → s.cpu ≡ None → s.tool ≡ None → s.named.0 ≡ 0 → Follows (form.Perf v ∷ form.MachineOfPmus cpus ∷ []) s
unfolding script_of
follows_bare v cpus s e sect c t n = record {
  two = omega arith;
  script = e;
  highest = rw sect (All-cons (λ g. section g ≤ 1) (form.Perf v) (form.MachineOfPmus cpus ∷ []) (omega arith) (All-cons (λ g. section g ≤ 1) (form.MachineOfPmus cpus) [] (omega arith) (λ k d l. absurd (omega (arith, l)))));
  reached = rw sect (1, form.MachineOfPmus cpus, omega arith, refl, refl);
  cpu = ap cpu_number c;
  cpus_rise = tt;
  cpu_within = tt;
  tool = ap tool_number t;
  tools_rise = tt;
  tool_within = tt;
  named = n;
}

pub all_of : (n : ℕ) → 1 ≤ n → (0 < 2 ^ n - 1) × (2 ^ n - 1 < 2 ^ n)
all_of n l = let p : 2 ^ 1 ≤ 2 ^ n = pow-le-pow_right {n = 2} (omega arith) l in (omega (arith, p), omega (arith, p))

-- ---- later lines

pub sound_state : (forms : List Form) (s : State) → Follows forms s → IsSoundState s
unfolding script_of
sound_state forms s h = grind (arith, Option, ℕ, script_cpus)

-- ---- the end

low_section : (f : Form) → section f < 10 → IsNoEnd f
low_section form.End l = omega (arith, l)
low_section other l = tt

low_all : (forms : List Form) (n : ℕ) → n < 10 → All (λ g. section g ≤ n) forms → All IsNoEnd forms
low_all forms n l h = λ k d w. low_section (get_or forms k d) (omega (arith, l, h k d w))

no_end_rank : (p : Section) → is_end p ≡ false → rank_of p < 10
no_end_rank part.Perf e = omega arith
no_end_rank part.Machine e = omega arith
no_end_rank part.Pmus e = omega arith
no_end_rank part.Kinds e = omega arith
no_end_rank part.Tasks e = omega arith
no_end_rank part.Rings e = omega arith
no_end_rank part.Processors e = omega arith
no_end_rank part.Tools e = omega arith
no_end_rank part.Readers e = omega arith
no_end_rank part.Order e = omega arith
no_end_rank part.End e = absurd cc

pub end_rank : (p : Section) → is_end p ≡ true → rank_of p ≡ 10
end_rank part.End e = refl
end_rank other e = absurd cc

pub ended_false : (forms : List Form) (p : Progress) → Behind forms p → ended_of p ≡ false → All IsNoEnd forms
ended_false forms progress.Nothing b e = rw b (λ k d l. absurd (omega (arith, l)))
ended_false forms progress.Version b e = rw b.1 (All-cons IsNoEnd (form.Perf b.0) [] tt (λ k d l. absurd (omega (arith, l))))
ended_false forms (progress.Machine s) h e = low_all forms (rank_of s.section) (no_end_rank s.section e) h.highest

-- ---- a line as its form

module _ (v : Version) (before : List Form) (line : List ℕ) (f : Form) (no_end : All IsNoEnd before) (plain : All IsPrintable line) (is : IsOfForm v (words_of line) f)
    (one : (g : Form) → IsOfForm v (words_of line) g → g ≡ f) where
  keeps : (q : SReason) → AsksOf before f q → Keeps v before line q
  keeps reason.End a = no_end
  keeps reason.Ascii a = plain
  keeps reason.Form a = (f, is)
  keeps reason.Place a = λ g h. subst (λ x. AsksOf before x reason.Place) (sym (one g h)) a
  keeps reason.Range a = λ g h. subst (λ x. AsksOf before x reason.Range) (sym (one g h)) a
  keeps reason.Attr a = λ g h. subst (λ x. AsksOf before x reason.Attr) (sym (one g h)) a
  keeps reason.Name a = λ g h. subst (λ x. AsksOf before x reason.Name) (sym (one g h)) a
  keeps reason.Limit a = λ g h. subst (λ x. AsksOf before x reason.Limit) (sym (one g h)) a
  keeps reason.Weight a = λ g h. subst (λ x. AsksOf before x reason.Weight) (sym (one g h)) a
  keeps reason.Order a = tt

  breaks : (q : SReason) → (AsksOf before f q → ⊥) → Keeps v before line q → ⊥
  breaks reason.End b k = b tt
  breaks reason.Ascii b k = b tt
  breaks reason.Form b k = b tt
  breaks reason.Place b k = b (k f is)
  breaks reason.Range b k = b (k f is)
  breaks reason.Attr b k = b (k f is)
  breaks reason.Name b k = b (k f is)
  breaks reason.Limit b k = b (k f is)
  breaks reason.Weight b k = b (k f is)
  breaks reason.Order b k = b tt

  pub sound_line : ((q : SReason) → AsksOf before f q) → IsSound v before line f
  sound_line asks = record { is = is; keeps = λ q. keeps q (asks q) }

  pub faulty_line : (r : SReason) → IsFirstOf before f r → IsFaulty v before line r
  faulty_line r first = record { earlier = λ q l. keeps q (first.earlier q l); broken = breaks r first.broken }

pub end_faulty : (v : Version) (before : List Form) (line : List ℕ) → (All IsNoEnd before → ⊥) → IsFaulty v before line reason.End
end_faulty v before line b = record { earlier = λ q l. absurd (omega (arith, l)); broken = b }

-- what the reasons before the n-th ask of a line
early_keeps : (v : Version) (before : List Form) (line : List ℕ) → All IsNoEnd before → (n : ℕ) → n ≤ 2 → (2 ≤ n → All IsPrintable line) → (q : SReason) → rank q < n → Keeps v before line q
early_keeps v before line no_end n few plain reason.End l = no_end
early_keeps v before line no_end n few plain reason.Ascii l = plain (omega (arith, l))
early_keeps v before line no_end n few plain reason.Form l = absurd (omega (arith, few, l))
early_keeps v before line no_end n few plain reason.Place l = absurd (omega (arith, few, l))
early_keeps v before line no_end n few plain reason.Range l = absurd (omega (arith, few, l))
early_keeps v before line no_end n few plain reason.Attr l = absurd (omega (arith, few, l))
early_keeps v before line no_end n few plain reason.Name l = absurd (omega (arith, few, l))
early_keeps v before line no_end n few plain reason.Limit l = absurd (omega (arith, few, l))
early_keeps v before line no_end n few plain reason.Weight l = absurd (omega (arith, few, l))
early_keeps v before line no_end n few plain reason.Order l = absurd (omega (arith, few, l))

pub ascii_faulty : (v : Version) (before : List Form) (line : List ℕ) → All IsNoEnd before → (All IsPrintable line → ⊥) → IsFaulty v before line reason.Ascii
ascii_faulty v before line no_end b = record { earlier = early_keeps v before line no_end 1 (omega arith) (λ l. absurd (omega (arith, l))); broken = b }

pub form_faulty : (v : Version) (before : List Form) (line : List ℕ) → All IsNoEnd before → All IsPrintable line → ((f : Form) → IsOfForm v (words_of line) f → ⊥) → IsFaulty v before line reason.Form
form_faulty v before line no_end plain b = record { earlier = early_keeps v before line no_end 2 (omega arith) (λ _. plain); broken = λ k. b k.0 k.1 }
