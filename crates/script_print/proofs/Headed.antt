-- The processors and the tools of a printed script, each with a header and its lines.
use Rattle.std.proofs.Common.{◌≡◌, ℕ, zero, suc, ◌+◌, ◌-◌, ◌<◌, All, List, [], ◌∷◌, ◌++◌, map, length, get_or, replicate, drop, inl, inr, refl, sym, ap, subst, ◌∙◌, arith, append_assoc}
use Rattle.std.proofs.lemmas.{Bool.{cases_lt}, List.{append-nil, length-drop, get_or-drop, Elements.{All-nil, All-push, All-weaker}}}
use Rattle.std.specs.Prelude.{flat_map, IsSome}
use Rattle.perf_base.specs.declared.lines.{CpuLine.{CpuLine}, ToolLine.{ToolLine}}
use Rattle.perf_base.specs.Scripts.{Scripted, IsScript, IsCovered, IsCpuLine, IsToolLine, line_count, IsStoredWork, IsStoredToolLine}
use Rattle.script_spec.specs.{Forms.{Version, Form}, Meaning.{last_of, processors_in, tools_in, script_of, cpu_line_of, tool_line_of}}
use Rattle.script_spec.specs.Printing.{cpu_form, processor_forms, tool_form, tool_forms, all_processor_forms, all_tool_forms}
use Rattle.script_spec.{specs.Saying.{on_cpu, on_tool}, proofs.Snoc.{from, last_push}}
use Rattle.script_spec.specs.Forms as form
use Rattle.script_print.proofs.Lists.{all_in, fewer, partly, partly_none, partly_all, partly_next, partly_more, partly_fewer}
use Rattle.script_print.proofs.{Run.{Run, push, entry, higher, says, behind_pmus, section_run}, Sections.{with_rings}}
use Rattle.script_print.proofs.LineForms.{cpu_form_of, tool_form_of}

-- ---- lines under headers

-- Lists of lines, one for each number. P and U give the headers of processors and of tools by those of this section.
module _ {X : Type 0} (v : Version) (k : ℕ) (P U : List ℕ → List ℕ) (lists : List (List X)) (T : List (List X) → Scripted) (H : ℕ → Form) (F : X → Form) (forms : ℕ → List X → List Form)
    (idle : (n : ℕ) → forms n [] ≡ []) (busy : (n : ℕ) (x : X) (xs : List X) → forms n (x ∷ xs) ≡ H n ∷ map F (x ∷ xs))
    (header : (before : List Form) (n : ℕ) (qs : List ℕ) → n < length lists → 0 < length (get_or lists n []) → All (λ m. m < n) qs → Run v before (T (partly n [] lists)) (P qs) (U qs) k
    → Run v (before ++ H n ∷ []) (T (partly n [] lists)) (P (qs ++ n ∷ [])) (U (qs ++ n ∷ [])) k)
    (line : (n : ℕ) (qs : List ℕ) → n < length lists → (before : List Form) (done : List X) (x : X) (rest : List X) → done ++ x ∷ rest ≡ get_or lists n []
    → Run v before (T (partly n done lists)) (P (qs ++ n ∷ [])) (U (qs ++ n ∷ [])) k → Run v (before ++ F x ∷ []) (T (partly n (done ++ x ∷ []) lists)) (P (qs ++ n ∷ [])) (U (qs ++ n ∷ [])) k) where
  -- the lists of the numbers below n were printed
  pub record Reached (before : List Form) (n : ℕ) : Type 0 where
    pub qs : List ℕ
    pub run : Run v before (T (partly n [] lists)) (P qs) (U qs) k
    pub rise : All (λ m. m < n) qs

  one : (n : ℕ) (before : List Form) → n < length lists → Reached before n → Reached (before ++ forms n (get_or lists n [])) (suc n)
  one n before l h = by_lines (get_or lists n []) refl
    where
      next : (fs : List Form) (qs : List ℕ) → Run v fs (T (partly n (get_or lists n []) lists)) (P qs) (U qs) k → Run v fs (T (partly (suc n) [] lists)) (P qs) (U qs) k
      next fs qs b = subst (λ ls. Run v fs (T ls) (P qs) (U qs) k) (partly_next n lists l) b

      rise : All (λ m. m < suc n) h.qs
      rise = All-weaker (λ m. m < n) (λ m. m < suc n) (λ m e. omega (arith, e)) h.qs h.rise

      by_lines : (lines : List X) → get_or lists n [] ≡ lines → Reached (before ++ forms n lines) (suc n)
      by_lines [] e = record {
        qs = h.qs;
        run = rw (idle n, append-nil before) (next before h.qs (rw e h.run));
        rise = rise;
      }
      by_lines (x ∷ xs) e =
          let qs = h.qs ++ n ∷ [] in
          let own = section_run F (λ done. T (partly n done lists)) (get_or lists n []) (line n h.qs l) (omega arith) (header before n h.qs l (rw e (omega arith)) h.rise h.run) in
          let ended = next (before ++ H n ∷ map F (get_or lists n [])) qs (rw (append_assoc before (H n ∷ []) (map F (get_or lists n []))) at own) in
          record {
            qs = qs;
            run = rw (busy n x xs) (subst (λ ls. Run v (before ++ H n ∷ map F ls) (T (partly (suc n) [] lists)) (P qs) (U qs) k) e ended);
            rise = All-push (λ m. m < suc n) h.qs n rise (omega arith);
          }

  -- the numbers from n on
  pub chain : (m n : ℕ) (before : List Form) → n + m ≡ length lists → Reached before n → Reached (before ++ flat_map (λ p. forms p (get_or lists p [])) (from n m)) (length lists)
  chain zero n before e h = let all : n ≡ length lists = omega arith in rw (append-nil before) (subst (Reached before) all h)
  chain (suc m) n before e h =
      let own = forms n (get_or lists n []) in
      subst (λ fs. Reached fs (length lists)) (append_assoc before own (flat_map (λ p. forms p (get_or lists p [])) (from (suc n) m))) (chain m (suc n) (before ++ own) (omega (arith, e)) (one n before (omega (arith, e)) h))

-- ---- the script so far

abbrev pub with_cpus : Scripted → List (List CpuLine) → Scripted
with_cpus s lists = record (with_rings s s.rings) { cpu_lines = lists }

abbrev pub with_tools : Scripted → List (List ToolLine) → Scripted
with_tools s lists = record (with_cpus s s.cpu_lines) { tool_lines = lists }

-- ---- processors

busy_machine : (s : Scripted) → IsScript s → (n : ℕ) → n < length s.cpu_lines → 0 < length (get_or s.cpu_lines n []) → n < s.cpus
busy_machine s h n l some = elim (cases_lt n s.cpus) [
  | inl low ↦ low
  | inr high ↦
      let gone : get_or (drop s.cpus s.cpu_lines) (n - s.cpus) [] ≡ [] = h.idle (n - s.cpus) [] (omega (arith, length-drop s.cpus s.cpu_lines, high, l)) in
      let same : s.cpus + (n - s.cpus) ≡ n = omega (arith, high) in
      let none : length (get_or s.cpu_lines n []) ≡ 0 = ap length (ap (λ k. get_or s.cpu_lines k []) (sym same) ∙ (sym (get_or-drop s.cpus s.cpu_lines (n - s.cpus) []) ∙ gone)) in
      absurd (omega (arith, none, some))
]

module _ {v : Version} (s : Scripted) (h : IsScript s) (covered : IsCovered s) where
  cpu_header : (before : List Form) (n : ℕ) (qs : List ℕ) → n < length s.cpu_lines → 0 < length (get_or s.cpu_lines n []) → All (λ m. m < n) qs → Run v before (with_cpus s (partly n [] s.cpu_lines)) qs [] 6
      → Run v (before ++ form.Processor n ∷ []) (with_cpus s (partly n [] s.cpu_lines)) (qs ++ n ∷ []) [] 6
  cpu_header before n qs l some rise b =
      let low : n < 8 = omega (arith, l, h.processors) in
      push (form.Processor n) (omega arith, omega arith) b (record { later = tt; in_section = refl; script = refl; processors = refl; tools = refl; low = (rw (last_push qs n) low, tt) }) (behind_pmus b covered tt)
      (record { form = (tt, omega (arith, low)); range = (rw (says b).cpus (busy_machine s h n l some), rw b.processors rise); others = (tt, tt, tt, tt) })

  cpu_step : (n : ℕ) (qs : List ℕ) → n < length s.cpu_lines → (before : List Form) (done : List CpuLine) (x : CpuLine) (rest : List CpuLine) → done ++ x ∷ rest ≡ get_or s.cpu_lines n []
      → Run v before (with_cpus s (partly n done s.cpu_lines)) (qs ++ n ∷ []) [] 6 → Run v (before ++ cpu_form s.kinds x ∷ []) (with_cpus s (partly n (done ++ x ∷ []) s.cpu_lines)) (qs ++ n ∷ []) [] 6
  cpu_step n qs l before done x rest e b =
      let t = with_cpus s (partly n done s.cpu_lines) in
      let own = all_in (IsCpuLine (length s.kinds)) done x rest (get_or s.cpu_lines n []) e (h.cpu_lines n [] l) in
      let stored = all_in IsStoredWork done x rest (get_or s.cpu_lines n []) e (h.stored.cpu_lines n [] l) in
      let f = cpu_form_of s.kinds s.pmus h.kinds h.kinds_once h.kinds_few x own stored in
      let under : IsSome (last_of (processors_in before)) = rw b.processors (rw (last_push qs n) refl) in
      let less = partly_fewer n done s.cpu_lines l (fewer done x rest (get_or s.cpu_lines n []) e) in
      let count : line_count (script_of before) ≡ line_count t = ap line_count b.script in
      let next_is : on_cpu t (last_of (qs ++ n ∷ [])) (cpu_line_of s.kinds f.0) ≡ with_cpus s (partly n (done ++ x ∷ []) s.cpu_lines) = rw (last_push qs n, f.1.says) (ap (with_cpus s) (partly_more n done x s.cpu_lines l)) in
      subst (λ g. Run v (before ++ g ∷ []) (with_cpus s (partly n (done ++ x ∷ []) s.cpu_lines)) (qs ++ n ∷ []) [] 6) (sym f.1.is)
      (push (form.OnProcessor f.0) (omega arith, omega arith) b (entry tt refl refl refl b.low next_is) (behind_pmus b covered under) (record {
        form = (tt, f.1.spelling);
        range = f.1.range;
        others = (tt, f.1.named before (says b).kinds, omega (arith, less, count, h.lines_few), tt);
      }))

  pub processors_run : {before : List Form} → Run v before (with_rings s s.rings) [] [] 5 → (ps : List ℕ) × Run v (before ++ all_processor_forms s) (with_cpus s s.cpu_lines) ps [] 6
  processors_run {before = before} b =
      let begin = subst (λ ls. Run v before (with_cpus s ls) [] [] 6) (ap (λ n. replicate n []) (sym h.processors) ∙ sym (partly_none s.cpu_lines)) (higher (omega arith) b) in
      let all = chain v 6 (λ qs. qs) (λ qs. []) s.cpu_lines (with_cpus s) form.Processor (cpu_form s.kinds) (processor_forms s.kinds) (λ n. refl) (λ n x xs. refl) cpu_header cpu_step 8 0 before (omega (arith, h.processors)) (record { qs = []; run = begin; rise = All-nil (λ m. m < 0) }) in
      (all.qs, rw (partly_all s.cpu_lines) at all.run)

-- ---- tools

module _ {v : Version} (s : Scripted) (h : IsScript s) (covered : IsCovered s) {ps : List ℕ} where
  tool_header : (before : List Form) (n : ℕ) (qs : List ℕ) → n < length s.tool_lines → 0 < length (get_or s.tool_lines n []) → All (λ m. m < n) qs → Run v before (with_tools s (partly n [] s.tool_lines)) ps qs 7
      → Run v (before ++ form.Tool n ∷ []) (with_tools s (partly n [] s.tool_lines)) ps (qs ++ n ∷ []) 7
  tool_header before n qs l some rise b =
      let low : n < 4 = omega (arith, l, h.tools) in
      push (form.Tool n) (omega arith, omega arith) b (record { later = tt; in_section = refl; script = refl; processors = append-nil ps; tools = refl; low = (b.low.0, rw (last_push qs n) low) }) (behind_pmus b covered tt)
      (record { form = (tt, omega (arith, low)); range = (low, rw b.tools rise); others = (tt, tt, tt, tt) })

  tool_step : (n : ℕ) (qs : List ℕ) → n < length s.tool_lines → (before : List Form) (done : List ToolLine) (x : ToolLine) (rest : List ToolLine) → done ++ x ∷ rest ≡ get_or s.tool_lines n []
      → Run v before (with_tools s (partly n done s.tool_lines)) ps (qs ++ n ∷ []) 7 → Run v (before ++ tool_form s.kinds x ∷ []) (with_tools s (partly n (done ++ x ∷ []) s.tool_lines)) ps (qs ++ n ∷ []) 7
  tool_step n qs l before done x rest e b =
      let t = with_tools s (partly n done s.tool_lines) in
      let own = all_in (IsToolLine s.cpus (length s.kinds) s.rings) done x rest (get_or s.tool_lines n []) e (h.tool_lines n [] l) in
      let stored = all_in IsStoredToolLine done x rest (get_or s.tool_lines n []) e (h.stored.tool_lines n [] l) in
      let f = tool_form_of s.kinds s.pmus s.cpus s.rings h.kinds h.kinds_once h.cpus.1 h.rings x own stored in
      let under : IsSome (last_of (tools_in before)) = rw b.tools (rw (last_push qs n) refl) in
      let less = partly_fewer n done s.tool_lines l (fewer done x rest (get_or s.tool_lines n []) e) in
      let count : line_count (script_of before) ≡ line_count t = ap line_count b.script in
      let next_is : on_tool t (last_of (qs ++ n ∷ [])) (tool_line_of s.kinds f.0) ≡ with_tools s (partly n (done ++ x ∷ []) s.tool_lines) = rw (last_push qs n, f.1.says) (ap (with_tools s) (partly_more n done x s.tool_lines l)) in
      subst (λ g. Run v (before ++ g ∷ []) (with_tools s (partly n (done ++ x ∷ []) s.tool_lines)) ps (qs ++ n ∷ []) 7) (sym f.1.is)
      (push (form.OnTool f.0) (omega arith, omega arith) b (entry tt refl refl refl b.low next_is) (behind_pmus b covered under) (record {
        form = (tt, f.1.spelling);
        range = rw (says b).cpus f.1.range;
        others = (f.1.attr, f.1.named before (says b).kinds (says b).rings, omega (arith, less, count, h.lines_few), tt);
      }))

  pub tools_run : {before : List Form} → Run v before (with_cpus s s.cpu_lines) ps [] 6 → (ts : List ℕ) × Run v (before ++ all_tool_forms s) (with_tools s s.tool_lines) ps ts 7
  tools_run {before = before} b =
      let begin = subst (λ ls. Run v before (with_tools s ls) ps [] 7) (ap (λ n. replicate n []) (sym h.tools) ∙ sym (partly_none s.tool_lines)) (higher (omega arith) b) in
      let all = chain v 7 (λ qs. ps) (λ qs. qs) s.tool_lines (with_tools s) form.Tool (tool_form s.kinds) (tool_forms s.kinds) (λ n. refl) (λ n x xs. refl) tool_header tool_step 4 0 before (omega (arith, h.tools)) (record { qs = []; run = begin; rise = All-nil (λ m. m < 0) }) in
      (all.qs, rw (partly_all s.tool_lines) at all.run)
