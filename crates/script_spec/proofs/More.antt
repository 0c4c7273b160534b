-- The script with one form more, form by form.
use Rattle.std.proofs.Common.{◌≡◌, ◌≢◌, ℕ, ◌+◌, ◌<◌, Bool, true, false, cond, eqb, List, [], ◌∷◌, ◌++◌, map, get_or, set, Option, Some, None, refl, sym, ap, ◌∙◌, arith}
use Rattle.std.{proofs.lemmas.{Bool.{eq-eqb, ne_eqb}, List.{append-nil}}, specs.{Prelude.{slice_index, filter_map, IfSome}, List.{cons_option}}}
use Rattle.perf_base.specs.declared.lines.ToolLine.{ToolLine}
use Rattle.script_spec.specs.Forms.{Form, CpuForm, ToolForm}
use Rattle.script_spec.specs.Meaning.{machine_cpus, pmu_said, kind_said, task_said, ring_said, reader_said, acts_said, cpus_in, pmus_in, kinds_in, tasks_in, rings_in, processors_in, tools_in, readers_in, acts_in, cpu_line_of, tool_line_of, last_of, cpu_line_at, tool_line_at, cpu_lines_in, tool_lines_in, script_of}
use Rattle.script_spec.{specs.Saying.{said_by, GrowingLaw}, proofs.Snoc.{pushed, cpu_lines_more, tool_lines_more, acts_more, one_longer, map_same}}
use Rattle.script_spec.specs.Forms as form

abbrev cpus_list : List ℕ
cpus_list = 0 ∷ 1 ∷ 2 ∷ 3 ∷ 4 ∷ 5 ∷ 6 ∷ 7 ∷ []

abbrev tools_list : List ℕ
tools_list = 0 ∷ 1 ∷ 2 ∷ 3 ∷ []

-- all parts of the script with one form more that is no machine
parts : (forms : List Form) (f : Form) → machine_cpus f ≡ None → script_of (forms ++ f ∷ []) ≡ record {
  cpus = cpus_in forms;
  pmus = pmus_in forms ++ cons_option (pmu_said f) [];
  kinds = kinds_in forms ++ cons_option (kind_said f) [];
  tasks = tasks_in forms ++ cons_option (task_said f) [];
  rings = rings_in forms ++ cons_option (ring_said f) [];
  cpu_lines = map (λ p. cpu_lines_in forms p ++ cons_option (cpu_line_at p (forms, f)) []) cpus_list;
  tool_lines = map (λ t. tool_lines_in forms t ++ cons_option (tool_line_at t (forms, f)) []) tools_list;
  readers = readers_in forms ++ cons_option (reader_said f) [];
  order = acts_in forms ++ acts_said f;
}
unfolding script_of
parts forms f none =
    let same : filter_map machine_cpus forms ++ cons_option (machine_cpus f) [] ≡ filter_map machine_cpus forms = rw none (append-nil _) in
    let cpus : cpus_in (forms ++ f ∷ []) ≡ cpus_in forms = ap (λ (ns : List ℕ). slice_index ns 0) (pushed machine_cpus forms f ∙ same) in
    let cl : map (cpu_lines_in (forms ++ f ∷ [])) cpus_list ≡ map (λ p. cpu_lines_in forms p ++ cons_option (cpu_line_at p (forms, f)) []) cpus_list = map_same _ _ (cpu_lines_more forms f) cpus_list in
    let tl : map (tool_lines_in (forms ++ f ∷ [])) tools_list ≡ map (λ t. tool_lines_in forms t ++ cons_option (tool_line_at t (forms, f)) []) tools_list = map_same _ _ (tool_lines_more forms f) tools_list in
    rw (cpus, pushed pmu_said forms f, pushed kind_said forms f, pushed task_said forms f, pushed ring_said forms f, cl, tl, pushed reader_said forms f, acts_more forms f) refl

-- a line more under the processor, or the tool, whose header came last
cpu_more : (forms : List Form) (line : CpuForm) (tool : Option ℕ) (last : Option ℕ) → last_of (processors_in forms) ≡ last → IfSome last (λ c. c < 8)
    → script_of (forms ++ form.OnProcessor line ∷ []) ≡ said_by (script_of forms) last tool (form.OnProcessor line)
unfolding script_of
cpu_more forms line tool None e l =
    let g = λ (p : ℕ). cpu_lines_in forms p ++ cons_option (cpu_line_at p (forms, form.OnProcessor line)) [] in
    let kept : map g cpus_list ≡ map (cpu_lines_in forms) cpus_list = map_same g (cpu_lines_in forms) (λ p. rw e (append-nil (cpu_lines_in forms p))) cpus_list in
    parts forms (form.OnProcessor line) refl ∙ rw kept (simp append-nil)
cpu_more forms line tool (Some c) e l =
    let x = cpu_line_of (kinds_in forms) line in
    let g = λ (p : ℕ). cpu_lines_in forms p ++ cons_option (cpu_line_at p (forms, form.OnProcessor line)) [] in
    let z : 0 + c ≡ c = omega arith in
    let t : eqb c (0 + c) ≡ true = eq-eqb c (0 + c) (sym z) in
    let at : g (0 + c) ≡ cpu_lines_in forms (0 + c) ++ x ∷ [] = rw (e, t) refl in
    let other : (p : ℕ) → p ≢ 0 + c → g p ≡ cpu_lines_in forms p = λ p ne. let f : eqb c p ≡ false = ne_eqb c p (λ h. ne (sym (z ∙ h))) in rw (e, f) (append-nil (cpu_lines_in forms p)) in
    let longer : map g cpus_list ≡ set (map (cpu_lines_in forms) cpus_list) c (get_or (map (cpu_lines_in forms) cpus_list) c [] ++ x ∷ []) = one_longer (cpu_lines_in forms) g x 0 c 8 l at other in
    parts forms (form.OnProcessor line) refl ∙ rw longer (simp append-nil)

tool_more : (forms : List Form) (line : ToolForm) (cpu : Option ℕ) (last : Option ℕ) (said : Option ToolLine) → last_of (tools_in forms) ≡ last → tool_line_of (kinds_in forms) line ≡ said → IfSome last (λ t. t < 4)
    → script_of (forms ++ form.OnTool line ∷ []) ≡ said_by (script_of forms) cpu last (form.OnTool line)
unfolding script_of
tool_more forms line cpu None said e k l =
    let g = λ (t : ℕ). tool_lines_in forms t ++ cons_option (tool_line_at t (forms, form.OnTool line)) [] in
    let kept : map g tools_list ≡ map (tool_lines_in forms) tools_list = map_same g (tool_lines_in forms) (λ t. rw e (append-nil (tool_lines_in forms t))) tools_list in
    parts forms (form.OnTool line) refl ∙ rw kept (simp append-nil)
tool_more forms line cpu (Some c) None e k l =
    let g = λ (t : ℕ). tool_lines_in forms t ++ cons_option (tool_line_at t (forms, form.OnTool line)) [] in
    let none : (b : Bool) → cond b (tool_line_of (kinds_in forms) line) None ≡ None = elim [ true ↦ k | false ↦ refl ] in
    let kept : map g tools_list ≡ map (tool_lines_in forms) tools_list = map_same g (tool_lines_in forms) (λ t. rw none (append-nil (tool_lines_in forms t))) tools_list in
    parts forms (form.OnTool line) refl ∙ rw (kept, k) (simp append-nil)
tool_more forms line cpu (Some c) (Some x) e k l =
    let g = λ (t : ℕ). tool_lines_in forms t ++ cons_option (tool_line_at t (forms, form.OnTool line)) [] in
    let z : 0 + c ≡ c = omega arith in
    let t : eqb c (0 + c) ≡ true = eq-eqb c (0 + c) (sym z) in
    let at : g (0 + c) ≡ tool_lines_in forms (0 + c) ++ x ∷ [] = rw (e, t, k) refl in
    let other : (p : ℕ) → p ≢ 0 + c → g p ≡ tool_lines_in forms p = λ p ne. let f : eqb c p ≡ false = ne_eqb c p (λ h. ne (sym (z ∙ h))) in rw (e, f) (append-nil (tool_lines_in forms p)) in
    let longer : map g tools_list ≡ set (map (tool_lines_in forms) tools_list) c (get_or (map (tool_lines_in forms) tools_list) c [] ++ x ∷ []) = one_longer (tool_lines_in forms) g x 0 c 4 l at other in
    parts forms (form.OnTool line) refl ∙ rw (longer, k) (simp append-nil)

-- an `end` line says nothing of the script
pub end_adds_nothing : (forms : List Form) → script_of (forms ++ form.End ∷ []) ≡ script_of forms
unfolding script_of
end_adds_nothing forms = parts forms form.End refl ∙ simp append-nil

pub script_more : GrowingLaw
unfolding script_of
script_more forms (form.Perf version) later c t = absurd later
script_more forms (form.Machine cpus counters) later c t = absurd later
script_more forms (form.MachineOfPmus cpus) later c t = absurd later
script_more forms (form.Pmu number counters cpus) later c t = parts forms (form.Pmu number counters cpus) refl ∙ simp append-nil
script_more forms (form.Kind name mask) later c t = parts forms (form.Kind name mask) refl ∙ simp append-nil
script_more forms (form.KindOfPmu name pmu mask) later c t = parts forms (form.KindOfPmu name pmu mask) refl ∙ simp append-nil
script_more forms (form.Task number) later c t = parts forms (form.Task number) refl ∙ simp append-nil
script_more forms (form.Ring number bytes) later c t = parts forms (form.Ring number bytes) refl ∙ simp append-nil
script_more forms (form.Processor number) later c t = parts forms (form.Processor number) refl ∙ simp append-nil
script_more forms (form.OnProcessor line) later c t = cpu_more forms line (last_of (tools_in forms)) (last_of (processors_in forms)) refl c
script_more forms (form.Tool number) later c t = parts forms (form.Tool number) refl ∙ simp append-nil
script_more forms (form.OnTool line) later c t = tool_more forms line (last_of (processors_in forms)) (last_of (tools_in forms)) (tool_line_of (kinds_in forms) line) refl refl t
script_more forms (form.Reader ring tries batch) later c t = parts forms (form.Reader ring tries batch) refl ∙ simp append-nil
script_more forms (form.Order acts) later c t = parts forms (form.Order acts) refl ∙ simp append-nil
script_more forms form.End later c t = parts forms form.End refl ∙ simp append-nil
