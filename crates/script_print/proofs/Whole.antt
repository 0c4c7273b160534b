-- The texts of the parts of a printed script.
use Rattle.std.proofs.Common.{◌≡◌, ◌≢◌, ℕ, zero, suc, ◌+◌, ◌<◌, List, [], ◌∷◌, ◌++◌, length, get_or, take, drop, refl, sym, ap, ◌∙◌, arith, append_assoc}
use Rattle.std.{proofs.lemmas.{Grind.{flat_map-append}, List.{append-nil}}, specs.Prelude.{flat_map, map, codes, decimal, IfSome}}
use Rattle.std.specs.List.{slice_get, join_with_byte}
use Rattle.perf_base.specs.declared.{acts.Act.{Act}, lines.{PmuLine.{PmuLine}, KindLine.{KindLine}, CpuLine.{CpuLine}, ToolLine.{ToolLine}}}
use Rattle.perf_base.specs.Scripts.{Scripted}
use Rattle.script_spec.specs.{Acts.{act_text, acts_text}, Forms.{Form}}
use Rattle.script_spec.specs.Printing.{head_forms, pmu_forms, cpu_form, processor_forms, tool_form, tool_forms, order_forms, line_text, printed_forms, printed}
use Rattle.script_spec.specs.Forms as form
use Rattle.script_print.specs.Words.{spaced, text, section_text, declared_text, lines_text, last_text}
use Rattle.script_print.proofs.Loops.{join_spaced, IsText, IsTextFrom, behind}

-- ---- the first lines

pub head_one : (n counters : ℕ) (pmus : List PmuLine) → length pmus ≡ 1 → IfSome (slice_get pmus 0) (λ p. counters ≡ p.counters)
    → flat_map line_text (head_forms n pmus) ≡ line_text (form.Perf form.One) ++ line_text (form.Machine n counters)
head_one n counters [] l h = absurd (omega (arith, l))
head_one n counters (p ∷ []) l h = ap (λ c. line_text (form.Perf form.One) ++ (line_text (form.Machine n c) ++ [])) (sym h) ∙ ap (λ t. line_text (form.Perf form.One) ++ t) (append-nil (line_text (form.Machine n counters)))
head_one n counters (p ∷ q ∷ pmus) l h = absurd (omega (arith, l))

pub head_several : (n : ℕ) (pmus : List PmuLine) → length pmus ≢ 1
    → flat_map line_text (head_forms n pmus) ≡ line_text (form.Perf form.Two) ++ (line_text (form.MachineOfPmus n) ++ flat_map line_text (pmu_forms 0 pmus))
head_several n [] l = refl
head_several n (p ∷ []) l = let one : length (p ∷ []) ≡ 1 = refl in absurd (l one)
head_several n (p ∷ q ∷ pmus) l = refl

-- the number of the next PMU
abbrev pub next_pmu : ℕ → PmuLine → ℕ
next_pmu n p = n + 1

pub pmus_each : IsTextFrom next_pmu (λ n pmus. flat_map line_text (pmu_forms n pmus)) (λ n p. line_text (form.Pmu n p.counters p.cpus.0))
pmus_each = record { nil = λ n. refl; cons = λ n p pmus. refl }

pub pmu_at : (pmus : List PmuLine) (i : ℕ) (p : PmuLine) → i < length pmus → p ≡ get_or pmus i p
    → line_text (form.Pmu i p.counters p.cpus.0) ≡ line_text (form.Pmu (behind next_pmu 0 (take i pmus)) (get_or pmus i p).counters (get_or pmus i p).cpus.0)
pmu_at pmus i p l e =
    let number : behind next_pmu 0 (take i pmus) ≡ i = front pmus 0 i l ∙ omega arith in
    rw (sym e, number) refl
  where
    front : (pmus : List PmuLine) (n i : ℕ) → i < length pmus → behind next_pmu n (take i pmus) ≡ n + i
    front [] n i l = absurd (omega (arith, l))
    front (p ∷ pmus) n zero l = omega arith
    front (p ∷ pmus) n (suc i) l = let others = front pmus (n + 1) i (omega (arith, l)) in omega (arith, others)

-- a line for each entry
pub each_text : {X : Type 0} (f : X → Form) → IsText (λ xs. flat_map line_text (map f xs)) (λ x. line_text (f x))
each_text f = record { nil = refl; cons = λ x xs. refl }

pub head_one_front : (n : ℕ) (pmus : List PmuLine) → length pmus ≡ 1 → flat_map line_text (head_forms n pmus) ≡ line_text (form.Perf form.One) ++ flat_map line_text (drop 1 (head_forms n pmus))
head_one_front n [] l = absurd (omega (arith, l))
head_one_front n (p ∷ []) l = refl
head_one_front n (p ∷ q ∷ pmus) l = absurd (omega (arith, l))

-- ---- processors and tools

-- forms for each entry
pub all_text : {X : Type 0} (f : X → List Form) → IsText (λ xs. flat_map line_text (flat_map f xs)) (λ x. flat_map line_text (f x))
all_text f = record { nil = refl; cons = λ x xs. flat_map-append line_text (f x) (flat_map f xs) }

-- a header and its lines, of which there are some
pub section_some : (header : List ℕ) (n : ℕ) (forms : List Form) → 0 < length forms → section_text header n forms ≡ (join_with_byte 32 (header ∷ decimal n ∷ []) ++ 10 ∷ []) ++ text forms
section_some header n [] l = absurd (omega (arith, l))
section_some header n (f ∷ forms) l = refl

pub processor_text : (kinds : List KindLine) (n : ℕ) (lines : List CpuLine) → section_text (codes "processor") n (map (cpu_form kinds) lines) ≡ text (processor_forms kinds n lines)
processor_text kinds n [] = refl
processor_text kinds n (line ∷ lines) = refl

pub tool_text : (kinds : List KindLine) (n : ℕ) (lines : List ToolLine) → section_text (codes "tool") n (map (tool_form kinds) lines) ≡ text (tool_forms kinds n lines)
tool_text kinds n [] = refl
tool_text kinds n (line ∷ lines) = refl

-- the numbers of all processors, and of all tools
abbrev pub all_cpus : List ℕ
all_cpus = 0 ∷ 1 ∷ 2 ∷ 3 ∷ 4 ∷ 5 ∷ 6 ∷ 7 ∷ []

abbrev pub all_tools : List ℕ
all_tools = 0 ∷ 1 ∷ 2 ∷ 3 ∷ []

-- ---- the order and the whole

spaced_acts : (acts : List Act) → spaced (map act_text acts) ≡ acts_text acts
spaced_acts [] = refl
spaced_acts (a ∷ acts) = ap (λ t. (32 ∷ act_text a) ++ t) (spaced_acts acts)

-- the order line
pub order_text : (acts : List Act) → 0 < length acts → text (order_forms acts) ≡ codes "order" ++ (acts_text acts ++ 10 ∷ [])
order_text [] l = absurd (omega (arith, l))
order_text (a ∷ acts) l = grind (arith, append-nil, join_spaced, spaced_acts, append_assoc)

pub acts_each : IsText acts_text (λ a. 32 ∷ act_text a)
acts_each = record { nil = refl; cons = λ a acts. refl }

pub whole_text : (s : Scripted) → printed s ≡ declared_text s ++ (lines_text s ++ last_text s.order)
unfolding printed printed_forms declared_text lines_text last_text
whole_text s = simp (flat_map-append, append_assoc)
