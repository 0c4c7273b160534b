-- The state with one form more is that behind the forms with one more.
use Rattle.std.proofs.Common.{◌≡◌, ℕ, zero, suc, ◌-◌, ◌<◌, ◌≤◌, All, List, [], ◌∷◌, ◌++◌, length, Option, Some, None, refl, sym, ap, subst, ◌∙◌, arith}
use Rattle.std.proofs.lemmas.List.{append-nil, length_push, Elements.{All-push, All-weaker}, Quantifiers.{Any-push}}
use Rattle.std.specs.{Prelude.{slice_get, slice_index, filter_map, IfSome}, List.{cons_option}}
use Rattle.perf_base.specs.{declared.lines.PmuLine.{PmuLine}, Scripts.{Scripted, IsScript}}
use Rattle.script_spec.specs.Forms.{Form}
use Rattle.script_spec.specs.Meaning.{machine_cpus, pmu_said, processor_said, tool_said, cpus_in, pmus_in, processors_in, tools_in, last_of, script_of}
use Rattle.script_spec.{specs.{Faults.{section}, Saying.{said_by, IsLater}}, proofs.{Snoc.{pushed, last_push}, More.{script_more}}}
use Rattle.script_spec.specs.Forms as form
use Rattle.script_read.specs.{declared.state.State.{State}, State.{rank_of, part_of, cpu_number, tool_number, union_of, IsGreatest, Follows}}
use Rattle.script_read.specs.{Place.{IsPlacedOf}, Numbers.{IsInRangeOf}, Adding.{next_cpu, next_tool, next_named, IsAdded}}
use Rattle.script_read.proofs.Unions.{union_push}

abbrev or_else : Option ℕ → Option ℕ → Option ℕ
or_else (Some n) o = Some n
or_else None o = o

next_cpu_is : (o : Option ℕ) (f : Form) → next_cpu o f ≡ or_else (processor_said f) o
next_cpu_is o (form.Processor n) = refl
next_cpu_is o other = refl

next_tool_is : (o : Option ℕ) (f : Form) → next_tool o f ≡ or_else (tool_said f) o
next_tool_is o (form.Tool n) = refl
next_tool_is o other = refl

-- ---- numbers that rise

pub none_empty : (ns : List ℕ) → last_of ns ≡ None → ns ≡ []
none_empty [] e = refl
none_empty (n ∷ ns) e = absurd (within ns n (length (n ∷ ns) - 1) (omega arith) e)
  where
    within : (ns : List ℕ) (n k : ℕ) → k < length (n ∷ ns) → slice_get (n ∷ ns) k ≡ None → ⊥
    within ns n zero l e = absurd cc
    within [] n (suc k) l e = absurd (omega (arith, l))
    within (m ∷ ns) n (suc k) l e = within ns m k (omega (arith, l)) e

last_more : (ns : List ℕ) (o : Option ℕ) → last_of (ns ++ cons_option o []) ≡ or_else o (last_of ns)
last_more ns (Some n) = last_push ns n
last_more ns None = ap last_of (append-nil ns)

-- all are at most the number behind them
pub below : (ns : List ℕ) (last : Option ℕ) (n : ℕ) → last_of ns ≡ last → IsGreatest ns last → IfSome last (λ m. m < n) → All (λ m. m ≤ n) ns
below ns (Some m) n e h l = All-weaker (λ k. k ≤ m) (λ k. k ≤ n) (λ k le. omega (arith, le, l)) ns h
below ns None n e h l = rw (none_empty ns e) (λ k d w. absurd (omega (arith, w)))

rise_more : (ns : List ℕ) (o : Option ℕ) → IsGreatest ns (last_of ns) → IfSome o (λ n. IfSome (last_of ns) (λ m. m < n)) → IsGreatest (ns ++ cons_option o []) (last_of (ns ++ cons_option o []))
rise_more ns (Some n) h l = subst (IsGreatest (ns ++ n ∷ [])) (sym (last_push ns n)) (All-push (λ m. m ≤ n) ns n (below ns (last_of ns) n refl h l) (omega arith))
rise_more ns None h l = rw (append-nil ns) h

within_more : (ns : List ℕ) (o : Option ℕ) (limit : ℕ) → IfSome (last_of ns) (λ n. n < limit) → IfSome o (λ n. n < limit) → IfSome (last_of (ns ++ cons_option o [])) (λ n. n < limit)
within_more ns (Some n) limit h l = subst (λ q. IfSome q (λ m. m < limit)) (sym (last_push ns n)) l
within_more ns None limit h l = rw (append-nil ns) h

-- ---- the form's own numbers

placed_later : (s : State) (f : Form) → IsPlacedOf s f → IsLater f
placed_later s (form.Perf version) h = h
placed_later s (form.Machine cpus counters) h = h
placed_later s (form.MachineOfPmus cpus) h = h
placed_later s other h = tt

placed_order : (s : State) (f : Form) → IsPlacedOf s f → rank_of s.section ≤ rank_of (part_of f)
placed_order s (form.Perf version) h = absurd h
placed_order s (form.Machine cpus counters) h = absurd h
placed_order s (form.MachineOfPmus cpus) h = absurd h
placed_order s (form.Pmu number counters cpus) h = h
placed_order s other h = h.0

pub rank_part : (f : Form) → rank_of (part_of f) ≡ section f
rank_part (form.Perf version) = refl
rank_part other = refl

no_machine : (f : Form) → IsLater f → machine_cpus f ≡ None
no_machine (form.Perf version) h = absurd h
no_machine (form.Machine cpus counters) h = absurd h
no_machine (form.MachineOfPmus cpus) h = absurd h
no_machine other h = refl

processor_rises : (s : State) (f : Form) → IsInRangeOf s f → IfSome (processor_said f) (λ n. IfSome (cpu_number s.cpu) (λ m. m < n))
processor_rises s (form.Processor n) h = h.1
processor_rises s other h = tt

processor_within : (s : State) (f : Form) → IsInRangeOf s f → IfSome (processor_said f) (λ n. n < s.script.cpus)
processor_within s (form.Processor n) h = h.0
processor_within s other h = tt

tool_rises : (s : State) (f : Form) → IsInRangeOf s f → IfSome (tool_said f) (λ n. IfSome (tool_number s.tool) (λ m. m < n))
tool_rises s (form.Tool n) h = h.1
tool_rises s other h = tt

tool_within : (s : State) (f : Form) → IsInRangeOf s f → IfSome (tool_said f) (λ n. n < 4)
tool_within s (form.Tool n) h = h.0
tool_within s other h = tt

named_more : (pmus : List PmuLine) (f : Form) → IsLater f → next_named (union_of pmus) f ≡ union_of (pmus ++ cons_option (pmu_said f) [])
named_more pmus (form.Perf version) h = absurd h
named_more pmus (form.Machine cpus counters) h = absurd h
named_more pmus (form.MachineOfPmus cpus) h = absurd h
named_more pmus (form.Pmu number counters cpus) h = sym (union_push pmus (record { counters = counters; cpus = record { 0 = cpus } }))
named_more pmus other h = ap union_of (sym (append-nil pmus))

-- ---- the state

cpus_same : (forms : List Form) (f : Form) → machine_cpus f ≡ None → cpus_in (forms ++ f ∷ []) ≡ cpus_in forms
cpus_same forms f none =
    let same : filter_map machine_cpus forms ++ cons_option (machine_cpus f) [] ≡ filter_map machine_cpus forms = rw none (append-nil _) in
    ap (λ (ns : List ℕ). slice_index ns 0) (pushed machine_cpus forms f ∙ same)

pub script_cpus : (forms : List Form) (s : Scripted) → s ≡ script_of forms → s.cpus ≡ cpus_in forms
unfolding script_of
script_cpus forms s e = ap (λ (t : Scripted). t.cpus) e

weaker_limit : (o : Option ℕ) (a b : ℕ) → a ≤ b → IfSome o (λ n. n < a) → IfSome o (λ n. n < b)
weaker_limit (Some n) a b l h = omega (arith, l, h)
weaker_limit None a b l h = tt

pub follows_more : (forms : List Form) (f : Form) (s t : State) → Follows forms s → IsScript s.script → IsPlacedOf s f → IsInRangeOf s f → IsAdded s t f → t.section ≡ part_of f → Follows (forms ++ f ∷ []) t
follows_more forms f s t h sound placed range added sect =
    let later = placed_later s f placed in
    let none = no_machine f later in
    let rank : rank_of t.section ≡ section f = ap rank_of sect ∙ rank_part f in
    let order : rank_of s.section ≤ section f = omega (arith, placed_order s f placed, rank_part f) in
    let cpus : s.script.cpus ≡ cpus_in forms = script_cpus forms s.script h.script in
    let few : cpus_in forms ≤ 8 = omega (arith, cpus, sound.cpus) in
    let ps : processors_in (forms ++ f ∷ []) ≡ processors_in forms ++ cons_option (processor_said f) [] = pushed processor_said forms f in
    let ts : tools_in (forms ++ f ∷ []) ≡ tools_in forms ++ cons_option (tool_said f) [] = pushed tool_said forms f in
    let us : pmus_in (forms ++ f ∷ []) ≡ pmus_in forms ++ cons_option (pmu_said f) [] = pushed pmu_said forms f in
    let prise : IfSome (processor_said f) (λ n. IfSome (last_of (processors_in forms)) (λ m. m < n)) = subst (λ (o : Option ℕ). IfSome (processor_said f) (λ n. IfSome o (λ m. m < n))) h.cpu (processor_rises s f range) in
    let trise : IfSome (tool_said f) (λ n. IfSome (last_of (tools_in forms)) (λ m. m < n)) = subst (λ (o : Option ℕ). IfSome (tool_said f) (λ n. IfSome o (λ m. m < n))) h.tool (tool_rises s f range) in
    let pin : IfSome (processor_said f) (λ n. n < cpus_in forms) = subst (λ k. IfSome (processor_said f) (λ n. n < k)) cpus (processor_within s f range) in
    record {
      two = omega (arith, h.two, length_push forms f);
      script = added.script ∙ (ap (λ (x : Scripted). said_by x (cpu_number s.cpu) (tool_number s.tool) f) h.script
          ∙ (ap (λ (o : Option ℕ). said_by (script_of forms) o (tool_number s.tool) f) h.cpu
          ∙ (ap (λ (o : Option ℕ). said_by (script_of forms) (last_of (processors_in forms)) o f) h.tool
          ∙ sym (script_more forms f later (weaker_limit _ _ _ few h.cpu_within) h.tool_within))));
      highest = All-push (λ g. section g ≤ rank_of t.section) forms f (All-weaker (λ g. section g ≤ rank_of s.section) (λ g. section g ≤ rank_of t.section) (λ g l. omega (arith, l, order, rank)) forms h.highest) (omega (arith, rank));
      reached = Any-push (λ g. section g ≡ rank_of t.section) forms f (sym rank);
      cpu = added.cpu ∙ (next_cpu_is (cpu_number s.cpu) f ∙ (ap (or_else (processor_said f)) h.cpu ∙ (sym (last_more (processors_in forms) (processor_said f)) ∙ ap last_of (sym ps))));
      cpus_rise = subst (λ (ns : List ℕ). IsGreatest ns (last_of ns)) (sym ps) (rise_more (processors_in forms) (processor_said f) h.cpus_rise prise);
      cpu_within = subst (λ (ns : List ℕ). IfSome (last_of ns) (λ n. n < cpus_in (forms ++ f ∷ []))) (sym ps) (subst (λ k. IfSome (last_of (processors_in forms ++ cons_option (processor_said f) [])) (λ n. n < k)) (sym (cpus_same forms f none)) (within_more (processors_in forms) (processor_said f) (cpus_in forms) h.cpu_within pin));
      tool = added.tool ∙ (next_tool_is (tool_number s.tool) f ∙ (ap (or_else (tool_said f)) h.tool ∙ (sym (last_more (tools_in forms) (tool_said f)) ∙ ap last_of (sym ts))));
      tools_rise = subst (λ (ns : List ℕ). IsGreatest ns (last_of ns)) (sym ts) (rise_more (tools_in forms) (tool_said f) h.tools_rise trise);
      tool_within = subst (λ (ns : List ℕ). IfSome (last_of ns) (λ n. n < 4)) (sym ts) (within_more (tools_in forms) (tool_said f) 4 h.tool_within (tool_within s f range));
      named = added.named ∙ (ap (λ n. next_named n f) h.named ∙ (named_more (pmus_in forms) f later ∙ ap union_of (sym us)));
    }
