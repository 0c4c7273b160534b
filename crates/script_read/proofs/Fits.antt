-- What a form says, where it keeps what is asked of it, the script can hold.
use Rattle.std.proofs.Common.{◌≡◌, ℕ, ◌-◌, ◌<◌, ◌≤◌, ◌&&◌, ◌||◌, eqb, ltb, All, List, [], ◌∷◌, map, length, Option, Some, None, option_map, inl, inr, refl, sym, ap, subst, ◌∙◌, arith}
use Rattle.std.proofs.lemmas.{Option.{same_Some}, Bool.{cases_Bool, ltb-true, and_parts}, List.{length-map, drop_at}}
use Rattle.std.proofs.lemmas.List.{Elements.{All-cons, All-head, All-tail, All-append, All-replicate}, Quantifiers.{position-Some}}
use Rattle.std.{specs.{Prelude.{replicate, IfSome}, Str.{bytes_eq}}}
use Rattle.perf_base.specs.declared.{attr.Kind.{Kind}, lines.{KindLine.{KindLine}, ToolLine.{ToolLine}}}
use Rattle.perf_base.specs.Scripts.{Scripted, IsCpuLine, IsToolLine, IsKind, IsTaskSel, IsCpuSel, IsSlot}
use Rattle.perf_base.specs.Kinds.{software_kind}
pub use Rattle.perf_base.proofs.Limits.{mask_small}
use Rattle.perf_base.specs.declared.attr.Kind.TheVariants as kind
use Rattle.attr_bytes.{proofs.Bits.{flags_of_word-few}, specs.{Kinds.{kind_numbered}, Layout.{type_in, config_in, flag_word_in}}}
use Rattle.script_spec.specs.{Forms.{Hit, CpuForm, ToolForm}, Faults.{IsAmount, IsCpuFormInRange, IsToolFormInRange}}
use Rattle.script_spec.specs.Meaning.{number_of, kind_named, kind_of_bytes, times_of, or_zero, cpu_line_of, tool_line_of, task_sel, cpu_sel, slot, open_line, asked_attr, bytes_attr}
use Rattle.script_spec.specs.Forms as form
use Rattle.script_read.specs.Names.{IsToolFormNamedOf}

-- ---- lines of processors

times_few : (hits : List Hit) (name : List ℕ) → All (λ h. IsAmount h.times) hits → times_of hits name ≤ 1000000000
times_few [] name all = omega arith
times_few (h ∷ hits) name all = grind (arith, All-head, All-tail, times_few hits name (All-tail (λ (g : Hit). IsAmount g.times) h hits all))

all_times : (kinds : List KindLine) (hits : List Hit) → All (λ h. IsAmount h.times) hits → All (λ n. n ≤ 1000000000) (map (λ k. times_of hits k.name) kinds)
all_times [] hits all = λ k d l. absurd (omega arith)
all_times (k ∷ kinds) hits all = All-cons (λ n. n ≤ 1000000000) (times_of hits k.name) (map (λ x. times_of hits x.name) kinds) (times_few hits k.name all) (all_times kinds hits all)

pub cpu_line_fits : (kinds : List KindLine) (f : CpuForm) → IsCpuFormInRange f → IsCpuLine (length kinds) (cpu_line_of kinds f)
cpu_line_fits kinds (form.Switch None) h = tt
cpu_line_fits kinds (form.Switch (Some task)) h = h
cpu_line_fits kinds (form.Work w) h =
    let ts = map (λ (k : KindLine). times_of w.hits k.name) kinds in
    let n : length ts ≡ length kinds = length-map kinds (λ (k : KindLine). times_of w.hits k.name) in
    record {
      length = h.0;
      hits = All-append (λ m. m ≤ 1000000000) ts (replicate (16 - length kinds) 0) (all_times kinds w.hits h.1) (All-replicate (λ m. m ≤ 1000000000) (16 - length kinds) 0 (omega arith));
      declared = rw (drop_at ts (replicate (16 - length kinds) 0) (length kinds) n) (All-replicate (λ m. m ≡ 0) (16 - length kinds) 0 refl);
    }
cpu_line_fits kinds form.Tick h = tt
cpu_line_fits kinds (form.Fork task) h = h
cpu_line_fits kinds form.Exit h = tt

-- ---- lines of tools

position_within : (kinds : List KindLine) (name : List ℕ) (i : ℕ) → number_of kinds name ≡ Some i → i < length kinds
position_within [] name i e = absurd cc
position_within (k ∷ kinds) name i e = (position-Some (λ x. bytes_eq x.name name) (k ∷ kinds) i k e).0

-- the four software kinds are kinds of every script
abbrev IsAnyKind : Option Kind → Type 0
IsAnyKind o = (n : ℕ) → IfSome o (IsKind n)

software_fits : (name : List ℕ) → IsAnyKind (software_kind name)
software_fits name n = grind arith

named_fits : (kinds : List KindLine) (name : List ℕ) (k : Kind) → kind_named kinds name ≡ Some k → IsKind (length kinds) k
named_fits kinds name k e = go (number_of kinds name) refl
  where
    go : (o : Option ℕ) → number_of kinds name ≡ o → IsKind (length kinds) k
    go (Some i) at = subst (IsKind (length kinds)) (same_Some (kind.Hard i) k (rw at at e)) (position_within kinds name i at)
    go None at = let soft : software_kind name ≡ Some k = (rw at at e) in subst (λ (o : Option Kind). IfSome o (IsKind (length kinds))) soft (software_fits name (length kinds))

numbered_fits : (kinds class config : ℕ) → IfSome (kind_numbered kinds class config) (IsKind kinds)
numbered_fits kinds class config = elim (cases_Bool (eqb class 1)) [
  | inl one ↦ elim (cases_Bool (eqb config 1)) [
    | inl t ↦ rw (one, t) tt
    | inr f ↦ elim (cases_Bool (eqb config 3)) [
      | inl t ↦ rw (one, f, t) tt
      | inr g ↦ elim (cases_Bool (eqb config 4)) [
        | inl t ↦ rw (one, f, g, t) tt
        | inr h ↦ elim (cases_Bool (eqb config 9)) [
          | inl t ↦ rw (one, f, g, h, t) tt
          | inr i ↦ rw (one, f, g, h, i) tt
        ]
      ]
    ]
  ]
  | inr other ↦ elim (cases_Bool ((eqb class 0 || eqb class 4) && ltb config kinds)) [
    | inl t ↦ rw (other, t) (ltb-true _ _ (and_parts _ _ t).1)
    | inr f ↦ rw (other, f) tt
  ]
]

task_fits : (task : Option ℕ) → IfSome task (λ n. n < 64) → IsTaskSel (task_sel task)
task_fits None h = tt
task_fits (Some n) h = h

cpu_fits : (cpus : ℕ) (cpu : Option ℕ) → IfSome cpu (λ n. n < cpus) → IsCpuSel cpus (cpu_sel cpu)
cpu_fits cpus None h = tt
cpu_fits cpus (Some n) h = h

leader_fits : (leader : Option ℕ) → IfSome leader (λ n. n < 256) → IfSome (option_map slot leader) IsSlot
leader_fits None h = tt
leader_fits (Some n) h = h

flags_fit : (flags : Option ℕ) → IfSome flags form.AreFlags → or_zero flags < 128
flags_fit None h = omega arith
flags_fit (Some n) h = omega (arith, h.1)

pub tool_line_fits : (s : Scripted) (f : ToolForm) (line : ToolLine) → form.IsToolSpelling f → IsToolFormInRange s.cpus f → IsToolFormNamedOf s f → Some line ≡ tool_line_of s.kinds f → IsToolLine s.cpus (length s.kinds) s.rings line
tool_line_fits s (form.OpenKind p name a) line spelled range named e = go (kind_named s.kinds name) refl
  where
    go : (o : Option Kind) → kind_named s.kinds name ≡ o → IsToolLine s.cpus (length s.kinds) s.rings line
    go None at = absurd cc
    go (Some k) at =
        let is : open_line p (asked_attr p a) k ≡ line = same_Some _ line (ap (option_map (open_line p (asked_attr p a))) (sym at) ∙ sym e) in
        subst (IsToolLine s.cpus (length s.kinds) s.rings) is (
          range.0.slot,
          record { kind = named_fits s.kinds name k at; task = task_fits p.task range.0.task; cpu = cpu_fits s.cpus p.cpu range.0.cpu; flags = flags_fit a.flags spelled.2.flags },
          leader_fits p.leader range.0.leader,
        )
tool_line_fits s (form.OpenAttr p bytes) line spelled range named e = go (kind_of_bytes s.kinds bytes) refl
  where
    go : (o : Option Kind) → kind_of_bytes s.kinds bytes ≡ o → IsToolLine s.cpus (length s.kinds) s.rings line
    go None at = absurd cc
    go (Some k) at =
        let is : open_line p (bytes_attr p bytes) k ≡ line = same_Some _ line (ap (option_map (open_line p (bytes_attr p bytes))) (sym at) ∙ sym e) in
        let fits : IsKind (length s.kinds) k = subst (λ (o : Option Kind). IfSome o (IsKind (length s.kinds))) at (numbered_fits (length s.kinds) (type_in bytes) (config_in bytes)) in
        subst (IsToolLine s.cpus (length s.kinds) s.rings) is (
          range.slot,
          record { kind = fits; task = task_fits p.task range.task; cpu = cpu_fits s.cpus p.cpu range.cpu; flags = flags_of_word-few (flag_word_in bytes) },
          leader_fits p.leader range.leader,
        )
tool_line_fits s (form.Enable n group) line spelled range named e = subst (IsToolLine s.cpus (length s.kinds) s.rings) (same_Some _ line (sym e)) range
tool_line_fits s (form.Disable n group) line spelled range named e = subst (IsToolLine s.cpus (length s.kinds) s.rings) (same_Some _ line (sym e)) range
tool_line_fits s (form.Reset n group) line spelled range named e = subst (IsToolLine s.cpus (length s.kinds) s.rings) (same_Some _ line (sym e)) range
tool_line_fits s (form.Period n period) line spelled range named e = subst (IsToolLine s.cpus (length s.kinds) s.rings) (same_Some _ line (sym e)) range.0
tool_line_fits s (form.Read n size) line spelled range named e = subst (IsToolLine s.cpus (length s.kinds) s.rings) (same_Some _ line (sym e)) range.0
tool_line_fits s (form.Map n ring) line spelled range named e = subst (IsToolLine s.cpus (length s.kinds) s.rings) (same_Some _ line (sym e)) (range.0, named)
tool_line_fits s (form.Output n target) line spelled range named e = subst (IsToolLine s.cpus (length s.kinds) s.rings) (same_Some _ line (sym e)) range
tool_line_fits s (form.Close n) line spelled range named e = subst (IsToolLine s.cpus (length s.kinds) s.rings) (same_Some _ line (sym e)) range
tool_line_fits s (form.Why n) line spelled range named e = subst (IsToolLine s.cpus (length s.kinds) s.rings) (same_Some _ line (sym e)) range
tool_line_fits s (form.Seats cpu) line spelled range named e = subst (IsToolLine s.cpus (length s.kinds) s.rings) (same_Some _ line (sym e)) range
