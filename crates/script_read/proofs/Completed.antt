-- An order that does each line.
use Rattle.std.proofs.Common.{◌≡◌, ℕ, ◌+◌, ◌<◌, ◌≤◌, ◌↔◌, Bool, false, eqb, All, List, [], ◌∷◌, length, get_or, map, set, take, inl, inr, refl, sym, ap, ◌∙◌, arith}
use Rattle.std.proofs.lemmas.{Bool.{cases_lt, cases_order, eq-eqb, ne_eqb}, List.{ext_get_or, get_or-map, get_or_past, get_or-set_other, length-map}}
use Rattle.std.proofs.lemmas.{List.{Sums.{count_by_more_yes, count_by_more_no}, Elements.{All-head, All-tail}}, Grind.{get_or-set_at}}
use Rattle.std.specs.Prelude.{count_by}
use Rattle.perf_base.specs.{declared.{numbers.{CpuNo.{CpuNo}, ToolNo.{ToolNo}}, acts.Act.{Act}}, Scripts.{Scripted, IsScript, IsAct}}
use Rattle.perf_base.specs.declared.acts.Act.TheVariants as act
use Rattle.stage_spec.specs.Order.{is_of_cpu, is_of_tool, done_by_cpu, done_by_tool}

-- a processor or tool that there is not has no line, and so no act
past_none : {X : Type 0} (lists : List (List X)) (n : ℕ) → length lists ≤ n → length (get_or lists n []) ≡ 0
past_none lists n l = ap length (get_or_past lists n [] l)

other_cpu : (s : Scripted) (cpu : CpuNo) (a : Act) → length s.cpu_lines ≤ cpu.0 → IsAct s a → is_of_cpu cpu a ≡ false
other_cpu s cpu (act.Processor p) l h = grind (arith, cases_lt, length, ne_eqb, past_none)
other_cpu s cpu (act.Tool t) l h = refl
other_cpu s cpu (act.Seen ring place) l h = refl

other_tool : (s : Scripted) (tool : ToolNo) (a : Act) → length s.tool_lines ≤ tool.0 → IsAct s a → is_of_tool tool a ≡ false
other_tool s tool (act.Processor p) l h = refl
other_tool s tool (act.Tool t) l h = grind (arith, cases_lt, length, ne_eqb, past_none)
other_tool s tool (act.Seen ring place) l h = refl

none_counted : (test : Act → Bool) (s : Scripted) (order : List Act) → ((a : Act) → IsAct s a → test a ≡ false) → All (IsAct s) order → count_by test order ≡ 0
none_counted test s [] h all = refl
none_counted test s (a ∷ order) h all = grind (arith, false, All-head, All-tail, none_counted test s order h (All-tail (IsAct s) a order all))

-- Counts are those of the lines of each exactly where each has as many acts as lines.
counts_iff : {X : Type 0} (lists : List (List X)) (counts : List ℕ) (done : ℕ → ℕ) (n : ℕ) → length lists ≡ n → length counts ≡ n → ((m : ℕ) → m < n → get_or counts m 0 ≡ done m) → ((m : ℕ) → n ≤ m → done m ≡ 0)
    → (counts ≡ map length lists) ↔ ((m : ℕ) → done m ≡ length (get_or lists m []))
counts_iff lists counts done n many counted is past = (each, λ all. ext_get_or 0 counts (map length lists) (counted ∙ sym (length-map lists length ∙ many)) (λ m l. is m (omega (arith, l, counted)) ∙ (all m ∙ sym (of_map m (omega (arith, l, counted, many))))))
  where
    of_map : (m : ℕ) → m < length lists → get_or (map length lists) m 0 ≡ length (get_or lists m [])
    of_map m l = get_or-map length lists m [] 0 l

    each : counts ≡ map length lists → (m : ℕ) → done m ≡ length (get_or lists m [])
    each e m = elim (cases_lt m n) [
      | inl less ↦ sym (is m less) ∙ (ap (λ cs. get_or cs m 0) e ∙ of_map m (omega (arith, less, many)))
      | inr beyond ↦ past m beyond ∙ sym (past_none lists m (omega (arith, beyond, many)))
    ]

module _ (s : Scripted) (h : IsScript s) where
  pub cpus_iff : (counts : List ℕ) → length counts ≡ 8 → ((cpu : CpuNo) → cpu.0 < 8 → get_or counts cpu.0 0 ≡ done_by_cpu cpu s.order)
      → (counts ≡ map length s.cpu_lines) ↔ ((m : ℕ) → done_by_cpu (record { 0 = m }) s.order ≡ length (get_or s.cpu_lines m []))
  cpus_iff counts eight is =
      counts_iff s.cpu_lines counts (λ m. done_by_cpu (record { 0 = m }) s.order) 8 h.processors eight (λ m. is (record { 0 = m }))
      (λ m l. none_counted (is_of_cpu (record { 0 = m })) s s.order (λ a i. other_cpu s (record { 0 = m }) a (omega (arith, l, h.processors)) i) h.order)

  pub tools_iff : (counts : List ℕ) → length counts ≡ 4 → ((tool : ToolNo) → tool.0 < 4 → get_or counts tool.0 0 ≡ done_by_tool tool s.order)
      → (counts ≡ map length s.tool_lines) ↔ ((m : ℕ) → done_by_tool (record { 0 = m }) s.order ≡ length (get_or s.tool_lines m []))
  tools_iff counts four is =
      counts_iff s.tool_lines counts (λ m. done_by_tool (record { 0 = m }) s.order) 4 h.tools four (λ m. is (record { 0 = m }))
      (λ m l. none_counted (is_of_tool (record { 0 = m })) s s.order (λ a i. other_tool s (record { 0 = m }) a (omega (arith, l, h.tools)) i) h.order)

-- ---- counting, act by act

-- the act that is passed is of one number
pub one_counted : (is_of : ℕ → Act → Bool) (counts : List ℕ) (acts : List Act) (i p n : ℕ) (d : Act) → i < length acts → p < length counts → ((m : ℕ) → is_of m (get_or acts i d) ≡ eqb p m)
    → ((m : ℕ) → m < n → get_or counts m 0 ≡ count_by (is_of m) (take i acts)) → (m : ℕ) → m < n → get_or (set counts p (get_or counts p 0 + 1)) m 0 ≡ count_by (is_of m) (take (i + 1) acts)
one_counted is_of counts acts i p n d l w is so_far m low = elim (cases_order p m) [
  | inl same ↦
      get_or-set_at counts p m (get_or counts p 0 + 1) 0 (sym same) w
      ∙ (ap (λ k. get_or counts k 0 + 1) same ∙ (ap (λ k. k + 1) (so_far m low) ∙ sym (count_by_more_yes (is_of m) acts i d l (is m ∙ eq-eqb p m same))))
  | inr (inl less) ↦ not_counted (λ e. omega (arith, e, less))
  | inr (inr more) ↦ not_counted (λ e. omega (arith, e, more))
]
  where
    not_counted : (p ≡ m → ⊥) → get_or (set counts p (get_or counts p 0 + 1)) m 0 ≡ count_by (is_of m) (take (i + 1) acts)
    not_counted ne = get_or-set_other counts p m (get_or counts p 0 + 1) 0 (λ e. ne (sym e)) ∙ (so_far m low ∙ sym (count_by_more_no (is_of m) acts i d l (is m ∙ ne_eqb p m ne)))

-- the act that is passed is of none
pub none_counted_more : (is_of : ℕ → Act → Bool) (counts : List ℕ) (acts : List Act) (i n : ℕ) (d : Act) → i < length acts → ((m : ℕ) → is_of m (get_or acts i d) ≡ false)
    → ((m : ℕ) → m < n → get_or counts m 0 ≡ count_by (is_of m) (take i acts)) → (m : ℕ) → m < n → get_or counts m 0 ≡ count_by (is_of m) (take (i + 1) acts)
none_counted_more is_of counts acts i n d l is so_far m low = so_far m low ∙ sym (count_by_more_no (is_of m) acts i d l (is m))

-- a processor or tool with lines is one that there can be
pub cpu_low : (s : Scripted) (p : CpuNo) → length s.cpu_lines ≡ 8 → IsAct s (act.Processor p) → p.0 < 8
cpu_low s p eight h = elim (cases_lt p.0 8) [ inl less ↦ less | inr past ↦ absurd (omega (arith, h, past_none s.cpu_lines p.0 (omega (arith, past, eight)))) ]

pub tool_low : (s : Scripted) (t : ToolNo) → length s.tool_lines ≡ 4 → IsAct s (act.Tool t) → t.0 < 4
tool_low s t four h = elim (cases_lt t.0 4) [ inl less ↦ less | inr past ↦ absurd (omega (arith, h, past_none s.tool_lines t.0 (omega (arith, past, four)))) ]
