-- What is asked by the state is what is asked by the forms.
use Rattle.std.proofs.Common.{◌≡◌, ℕ, zero, suc, ◌-◌, ◌<◌, ◌≤◌, ◌↔◌, All, List, [], ◌∷◌, length, get_or, Option, Some, None, option_map, refl, sym, ap, subst, arith}
use Rattle.std.{proofs.lemmas.List.Elements.{All-weaker, All-head, All-tail}, specs.Prelude.{slice_get, IfSome, IsSome}}
use Rattle.perf_base.specs.{declared.{numbers.CpuNo.{CpuNo}, reasons.SReason.{SReason}}, Scripts.{Scripted}}
use Rattle.perf_base.specs.declared.reasons.SReason.TheVariants as reason
use Rattle.script_spec.specs.{Forms.{Form, CpuForm, ToolForm}, Meaning.{pmus_in, processors_in, tools_in, last_of, script_of}}
use Rattle.script_spec.specs.Faults.{IsInOrder, AreCovered, IsUnder, IsBehindPmus, IsPlaced, IsInRange, IsCpuFormNamed, IsToolFormNamed, IsNamed}
use Rattle.script_spec.specs.Forms as form
use Rattle.script_read.specs.declared.{state.State.{State}, fault.LineFault.{LineFault}}
use Rattle.script_read.specs.State.{union_of, IsGreatest, Follows}
use Rattle.script_read.specs.{Place.{IsCoveredOf, IsUnderOf, IsInOrderOf, IsBehindOf, IsPlacedOf}, Numbers.{IsInRangeOf}}
use Rattle.script_read.specs.{Names.{IsCpuFormNamedOf, IsToolFormNamedOf, IsNamedOf, IsWithinLimitsOf, IsLightOf}, Adding.{Asks, IsFirst}}
use Rattle.script_read.{specs.{Fault.{Blames}, Progress.{AsksOf, IsFirstOf}}, proofs.Following.{rank_part, none_empty}}
use Rattle.script_read.proofs.Unions.{union_apart, apart_union, covered_any, any_covered}
use Rattle.script_read.specs.declared.fault.LineFault.TheVariants as fault

-- the state with the script that the forms say in its place
abbrev with_said : List Form → State → State
with_said forms s = record s { script = script_of forms }

same_state : (forms : List Form) (s : State) → s.script ≡ script_of forms → s ≡ with_said forms s
same_state forms s e = ap (λ (x : Scripted). record s { script = x }) e

-- ---- PLACE

order_iff : (forms : List Form) (s : State) (f : Form) → Follows forms s → IsInOrderOf s f ↔ IsInOrder forms f
order_iff forms s f h = grind (arith, All-weaker, rank_part, get_or)

covered_iff : (forms : List Form) (s : State) → s.named.0 ≡ union_of (pmus_in forms) → IsCoveredOf (with_said forms s) ↔ AreCovered forms
unfolding script_of
covered_iff forms s e = grind (arith, covered_any, any_covered)

some_iff : {A : Type 0} (view : A → ℕ) (o : Option A) (last : Option ℕ) → option_map view o ≡ last → IsSome o ↔ IsSome last
some_iff view (Some x) (Some n) e = (λ t. refl, λ t. refl)
some_iff view (Some x) None e = absurd cc
some_iff view None (Some n) e = absurd cc
some_iff view None None e = (λ t. absurd cc, λ t. absurd cc)

under_iff : (forms : List Form) (s : State) (f : Form) → Follows forms s → IsUnderOf s f ↔ IsUnder forms f
under_iff forms s (form.OnProcessor line) h = some_iff (λ (p : CpuNo). p.0) s.cpu (last_of (processors_in forms)) h.cpu
under_iff forms s (form.OnTool line) h = some_iff (λ (t : _). t.0) s.tool (last_of (tools_in forms)) h.tool
under_iff forms s other h = (λ t. tt, λ t. tt)

behind_iff : (forms : List Form) (s : State) (f : Form) → Follows forms s → IsBehindOf (with_said forms s) f ↔ IsBehindPmus forms f
behind_iff forms s f h = (
  λ b. record { in_order = (order_iff forms s f h).0 b.0; covered = (covered_iff forms s h.named).0 b.1; under = (under_both f).0 b.2 },
  λ b. ((order_iff forms s f h).1 b.in_order, (covered_iff forms s h.named).1 b.covered, (under_both f).1 b.under),
)
  where
    under_both : (g : Form) → IsUnderOf (with_said forms s) g ↔ IsUnder forms g
    under_both (form.OnProcessor line) = under_iff forms s (form.OnProcessor line) h
    under_both (form.OnTool line) = under_iff forms s (form.OnTool line) h
    under_both other = (λ t. tt, λ t. tt)

place_iff : (forms : List Form) (s : State) (f : Form) → Follows forms s → IsPlacedOf (with_said forms s) f ↔ IsPlaced forms f
place_iff forms s (form.Perf version) h = (λ x. absurd x, λ e. let z : length forms ≡ 0 = ap length e in omega (arith, h.two, z))
place_iff forms s (form.Machine cpus counters) h = (λ x. absurd x, λ e. omega (arith, h.two, e))
place_iff forms s (form.MachineOfPmus cpus) h = (λ x. absurd x, λ e. omega (arith, h.two, e))
place_iff forms s (form.Pmu number counters cpus) h = order_iff forms s (form.Pmu number counters cpus) h
place_iff forms s other h = behind_iff forms s other h

-- ---- RANGE

below_strictly : (ns : List ℕ) (n : ℕ) → IsGreatest ns (last_of ns) → IfSome (last_of ns) (λ m. m < n) → All (λ m. m < n) ns
below_strictly ns n h l = go (last_of ns) refl h l
  where
    go : (o : Option ℕ) → last_of ns ≡ o → IsGreatest ns o → IfSome o (λ m. m < n) → All (λ m. m < n) ns
    go (Some m) e g k = All-weaker (λ x. x ≤ m) (λ x. x < n) (λ x le. omega (arith, le, k)) ns g
    go None e g k = rw (none_empty ns e) (λ i d w. absurd (omega (arith, w)))

last_among : (ns : List ℕ) (n : ℕ) → All (λ m. m < n) ns → IfSome (last_of ns) (λ m. m < n)
last_among ns n all = among ns (length ns - 1) all
  where
    among : (ns : List ℕ) (k : ℕ) → All (λ m. m < n) ns → IfSome (slice_get ns k) (λ m. m < n)
    among [] k all = tt
    among (m ∷ ns) zero all = All-head (λ x. x < n) m ns all
    among (m ∷ ns) (suc k) all = among ns k (All-tail (λ x. x < n) m ns all)

next_iff : (ns : List ℕ) (last : Option ℕ) (n : ℕ) → last ≡ last_of ns → IsGreatest ns (last_of ns) → IfSome last (λ m. m < n) ↔ All (λ m. m < n) ns
next_iff ns last n e h = (λ l. below_strictly ns n h (subst (λ (o : Option ℕ). IfSome o (λ m. m < n)) e l), λ all. subst (λ (o : Option ℕ). IfSome o (λ m. m < n)) (sym e) (last_among ns n all))

range_iff : (forms : List Form) (s : State) (f : Form) → Follows forms s → IsInRangeOf (with_said forms s) f ↔ IsInRange forms f
unfolding script_of
range_iff forms s (form.Pmu number counters cpus) h = grind (arith, union_apart, apart_union)
range_iff forms s (form.Processor n) h = grind (arith, next_iff)
range_iff forms s (form.Tool n) h = grind (arith, next_iff)
range_iff forms s other h = (λ r. r, λ r. r)

-- ---- NAME, LIMIT and WEIGHT

cpu_named_iff : (forms : List Form) (s : State) (line : CpuForm) → IsCpuFormNamedOf (with_said forms s).script.kinds line ↔ IsCpuFormNamed forms line
unfolding script_of
cpu_named_iff forms s (form.Work w) = (λ r. record { declared = r.0; once = r.1 }, λ r. (r.declared, r.once))
cpu_named_iff forms s other = (λ t. tt, λ t. tt)

tool_named_iff : (forms : List Form) (s : State) (line : ToolForm) → IsToolFormNamedOf (with_said forms s).script line ↔ IsToolFormNamed forms line
unfolding script_of
tool_named_iff forms s (form.OpenKind p name a) = (λ r. r, λ r. r)
tool_named_iff forms s other = (λ r. r, λ r. r)

named_iff : (forms : List Form) (s : State) (f : Form) → IsNamedOf (with_said forms s) f ↔ IsNamed forms f
unfolding script_of
named_iff forms s (form.Kind name mask) = (λ r. record { free = r.0; once = r.1 }, λ r. (r.free, r.once))
named_iff forms s (form.KindOfPmu name pmu mask) = (λ r. record { free = r.0; once = r.1 }, λ r. (r.free, r.once))
named_iff forms s (form.OnProcessor line) = cpu_named_iff forms s line
named_iff forms s (form.OnTool line) = tool_named_iff forms s line
named_iff forms s other = (λ r. r, λ r. r)

limits_iff : (forms : List Form) (s : State) (f : Form) → IsWithinLimitsOf (with_said forms s) f ↔ AsksOf forms f reason.Limit
unfolding script_of
limits_iff forms s (form.Kind name mask) = (λ r. r, λ r. r)
limits_iff forms s other = (λ r. r, λ r. r)

light_iff : (forms : List Form) (s : State) (f : Form) → IsLightOf (with_said forms s) f ↔ AsksOf forms f reason.Weight
light_iff forms s form.End = (λ r. r, λ r. r)
light_iff forms s other = (λ r. r, λ r. r)

asks_said : (forms : List Form) (s : State) (f : Form) (q : SReason) → Follows forms s → Asks (with_said forms s) f q ↔ AsksOf forms f q
asks_said forms s f reason.Place h = place_iff forms s f h
asks_said forms s f reason.Range h = range_iff forms s f h
asks_said forms s f reason.Attr h = (λ r. r, λ r. r)
asks_said forms s f reason.Name h = named_iff forms s f
asks_said forms s f reason.Limit h = limits_iff forms s f
asks_said forms s f reason.Weight h = light_iff forms s f
asks_said forms s f other h = (λ t. tt, λ t. tt)

pub asks_iff : (forms : List Form) (s : State) (f : Form) (q : SReason) → Follows forms s → Asks s f q ↔ AsksOf forms f q
asks_iff forms s f q h =
    let e = same_state forms s h.script in
    let i = asks_said forms s f q h in
    (λ a. i.0 (subst (λ x. Asks x f q) e a), λ a. subst (λ x. Asks x f q) (sym e) (i.1 a))

first_of_iff : (forms : List Form) (s : State) (f : Form) (r : SReason) → Follows forms s → IsFirst s f r → IsFirstOf forms f r
first_of_iff forms s f r h i = grind (arith, asks_iff)

pub blames_more : (forms : List Form) (s : State) (f : Form) (e : LineFault) → Follows forms s → Blames e (IsFirst s f) → Blames e (IsFirstOf forms f)
blames_more forms s f (fault.Bad r) h first = first_of_iff forms s f r h first
blames_more forms s f fault.NoMemory h first = tt
