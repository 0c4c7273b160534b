-- What is asked of a form behind those before it can be found out.
use Rattle.std.proofs.Common.{◌≡◌, ◌≢◌, ℕ, ◌^◌, ◌<◌, ◌≤◌, All, List, length, Option, Some, None, ap, arith}
use Rattle.std.specs.{Prelude.{Any, IfSome, MatchOption, slice_get, bit_and, codes}, Int.{bit_at}}
use Rattle.perf_base.specs.declared.{numbers.{RingNo.{RingNo}, TaskNo.{TaskNo}}, lines.{ReaderLine.{ReaderLine}, PmuLine.{PmuLine}}}
use Rattle.perf_base.specs.{declared.{lines.KindLine.{KindLine}, acts.Act.{Act}, reasons.SReason.{SReason}}, Cpus.{HasCpu}, Masks.{IsMask}}
use Rattle.perf_base.specs.Scripts.{Scripted, IsPmuLine, AreApart, IsRingSize, IsFreeName, HasRing, IsAct, line_count, lines_of_cpu, lines_of_tool}
use Rattle.perf_base.specs.{Weight.{weight}, Kinds.{software_kind}}
use Rattle.perf_base.specs.declared.acts.Act.TheVariants as act
use Rattle.perf_base.specs.declared.reasons.SReason.TheVariants as reason
use Rattle.attr_bytes.specs.Faults.{fault_of}
use Rattle.script_spec.specs.{Acts.{IsActInRange}, Forms.{Hit, Working, CpuForm, Opening, ToolForm, Form}}
use Rattle.script_spec.specs.Faults.{IsPrintable, IsNoEnd, section, IsInOrder, AreCovered, IsUnder, IsBehindPmus, IsPlaced, IsBetween, IsAmount, IsNextPmu, IsCpuFormInRange, IsOpeningInRange, IsToolFormInRange, IsInRange, HasAttr, IsNewName, AreKinds, IsCpuFormNamed, IsToolFormNamed, IsNamed, IsWithinLimits, IsWithinWeight}
use Rattle.script_spec.specs.Meaning.{cpus_in, pmus_in, kinds_in, tasks_in, rings_in, processors_in, tools_in, readers_in, kind_named, kind_of_bytes, last_of, script_of}
use Rattle.script_spec.specs.Forms as form
use Rattle.script_read.specs.Progress.{AsksOf}
use Rattle.script_read.proofs.Known.{Known, Yes, No, known_as, both, all_three, all_four, known_not, below, at_most, same_number, same_text, known_empty, known_missing, known_some, known_if_some, known_all, known_any, known_pairs, known_below, some_below}

pub known_printable : (line : List ℕ) → Known (All IsPrintable line)
known_printable line = known_all IsPrintable (λ b. both (at_most 32 b) (at_most b 126)) line

no_end : (f : Form) → Known (IsNoEnd f)
no_end form.End = No (λ h. h)
no_end other = Yes tt

pub known_no_end : (forms : List Form) → Known (All IsNoEnd forms)
known_no_end forms = known_all IsNoEnd no_end forms

-- ---- the place

in_order : (before : List Form) (f : Form) → Known (IsInOrder before f)
in_order before f =
    known_as (both (at_most 2 (length before)) (known_all (λ (g : Form). section g ≤ section f) (λ g. at_most (section g) (section f)) before))
    (λ h. record { behind_machine = h.0; sections = h.1 }) (λ h. (h.behind_machine, h.sections))

covered : (before : List Form) → Known (AreCovered before)
covered before =
    let P = λ (n : ℕ). Any (λ (p : PmuLine). HasCpu p.cpus (record { 0 = n })) (pmus_in before) in
    known_as (known_below P (λ n. known_any (λ (p : PmuLine). HasCpu p.cpus (record { 0 = n })) (λ p. same_number (bit_at p.cpus.0 n) 1) (pmus_in before)) (cpus_in before))
    (λ h cpu l. h cpu.0 l) (λ h n l. h (record { 0 = n }) l)

under : (before : List Form) (f : Form) → Known (IsUnder before f)
under before (form.OnProcessor line) = known_some (last_of (processors_in before))
under before (form.OnTool line) = known_some (last_of (tools_in before))
under before other = Yes tt

behind_pmus : (before : List Form) (f : Form) → Known (IsBehindPmus before f)
behind_pmus before f =
    known_as (all_three (in_order before f) (covered before) (under before f))
    (λ h. record { in_order = h.0; covered = h.1; under = h.2 }) (λ h. (h.in_order, h.covered, h.under))

placed : (before : List Form) (f : Form) → Known (IsPlaced before f)
placed before (form.Perf version) = known_empty before
placed before (form.Machine cpus counters) = same_number (length before) 1
placed before (form.MachineOfPmus cpus) = same_number (length before) 1
placed before (form.Pmu number counters cpus) = in_order before (form.Pmu number counters cpus)
placed before other = behind_pmus before other

-- ---- numbers and masks

between : (low high n : ℕ) → Known (IsBetween low high n)
between low high n = both (at_most low n) (at_most n high)

optional_below : (o : Option ℕ) (limit : ℕ) → Known (IfSome o (λ n. n < limit))
optional_below o limit = known_if_some (λ n. n < limit) (λ n. below n limit) o

next_pmu : (before : List Form) (number counters cpus : ℕ) → Known (IsNextPmu before number counters cpus)
next_pmu before number counters cpus =
    let own : PmuLine = record { counters = counters; cpus = record { 0 = cpus } } in
    let line : Known (IsPmuLine (cpus_in before) own) = grind (arith, known_as, both, between, below) in
    known_as (all_four (same_number number (length (pmus_in before))) (at_most number 3) line (known_all (λ (p : PmuLine). AreApart p own) (λ p. same_number (bit_and p.cpus.0 cpus) 0) (pmus_in before)))
    (λ h. record { next = h.0; few = h.1; line = h.2; apart = h.3 }) (λ h. (h.next, h.few, h.line, h.apart))

mask_of : (o : Option PmuLine) (mask : ℕ) → Known (MatchOption o ⊥ (λ p. IsMask p.counters mask))
mask_of None mask = No (λ h. h)
mask_of (Some p) mask = both (below 0 mask) (below mask (2 ^ p.counters))

ring_size : (bytes : ℕ) → Known (IsRingSize bytes)
ring_size bytes =
    known_as (some_below (λ e. (6 ≤ e) × (bytes ≡ 2 ^ e)) (λ e. both (at_most 6 e) (same_number bytes (2 ^ e))) 17)
    (λ h. (h.0, h.2.0, omega (arith, h.1), h.2.1)) (λ h. (h.0, omega (arith, h.2), (h.1, h.3)))

act_in_range : (a : Act) → Known (IsActInRange a)
act_in_range (act.Processor cpu) = below cpu.0 8
act_in_range (act.Tool tool) = below tool.0 4
act_in_range (act.Seen ring place) = both (below ring.0 16) (below place (2 ^ 64))

cpu_form_in_range : (line : CpuForm) → Known (IsCpuFormInRange line)
cpu_form_in_range (form.Switch task) = optional_below task 64
cpu_form_in_range (form.Work w) = both (at_most w.length 1000000000) (known_all (λ (h : Hit). IsAmount h.times) (λ h. at_most h.times 1000000000) w.hits)
cpu_form_in_range form.Tick = Yes tt
cpu_form_in_range (form.Fork task) = below task 64
cpu_form_in_range form.Exit = Yes tt

opening_in_range : (cpus : ℕ) (p : Opening) → Known (IsOpeningInRange cpus p)
opening_in_range cpus p =
    known_as (all_four (below p.slot 256) (optional_below p.task 64) (optional_below p.cpu cpus) (optional_below p.leader 256))
    (λ h. record { slot = h.0; task = h.1; cpu = h.2; leader = h.3 }) (λ h. (h.slot, h.task, h.cpu, h.leader))

tool_form_in_range : (cpus : ℕ) (line : ToolForm) → Known (IsToolFormInRange cpus line)
tool_form_in_range cpus (form.OpenKind p name a) = both (opening_in_range cpus p) (optional_below a.period (2 ^ 64))
tool_form_in_range cpus (form.OpenAttr p bytes) = opening_in_range cpus p
tool_form_in_range cpus (form.Enable slot group) = below slot 256
tool_form_in_range cpus (form.Disable slot group) = below slot 256
tool_form_in_range cpus (form.Reset slot group) = below slot 256
tool_form_in_range cpus (form.Period slot period) = both (below slot 256) (below period (2 ^ 64))
tool_form_in_range cpus (form.Read slot size) = both (below slot 256) (optional_below size (2 ^ 64))
tool_form_in_range cpus (form.Map slot ring) = both (below slot 256) (below ring (2 ^ 64))
tool_form_in_range cpus (form.Output slot target) = both (below slot 256) (below target 256)
tool_form_in_range cpus (form.Close slot) = below slot 256
tool_form_in_range cpus (form.Why slot) = below slot 256
tool_form_in_range cpus (form.Seats cpu) = below cpu cpus

in_range : (before : List Form) (f : Form) → Known (IsInRange before f)
in_range before (form.Perf version) = Yes tt
in_range before (form.Machine cpus counters) = both (between 1 8 cpus) (between 1 16 counters)
in_range before (form.MachineOfPmus cpus) = between 1 8 cpus
in_range before (form.Pmu number counters cpus) = next_pmu before number counters cpus
in_range before (form.Kind name mask) = mask_of (slice_get (pmus_in before) 0) mask
in_range before (form.KindOfPmu name pmu mask) = mask_of (slice_get (pmus_in before) pmu) mask
in_range before (form.Task number) = both (below number 64) (known_all (λ (t : TaskNo). t.0 < number) (λ t. below t.0 number) (tasks_in before))
in_range before (form.Ring number bytes) = both (both (below number 16) (ring_size bytes)) (known_all (λ (r : RingNo × ℕ). r.0.0 < number) (λ r. below r.0.0 number) (rings_in before))
in_range before (form.Processor number) = both (below number (cpus_in before)) (known_all (λ n. n < number) (λ n. below n number) (processors_in before))
in_range before (form.OnProcessor line) = cpu_form_in_range line
in_range before (form.Tool number) = both (below number 4) (known_all (λ n. n < number) (λ n. below n number) (tools_in before))
in_range before (form.OnTool line) = tool_form_in_range (cpus_in before) line
in_range before (form.Reader ring tries batch) =
    all_four (below ring (2 ^ 64)) (between 1 65536 tries) (between 1 1024 batch) (known_all (λ (r : ReaderLine). r.ring.0 < ring) (λ r. below r.ring.0 ring) (readers_in before))
in_range before (form.Order acts) = known_all IsActInRange act_in_range acts
in_range before form.End = Yes tt

-- ---- the bytes of an attribute

has_attr : (f : Form) → Known (HasAttr f)
has_attr (form.OnTool (form.OpenAttr p bytes)) = known_missing (fault_of bytes)
has_attr other = Yes tt

-- ---- names

free_name : (name : List ℕ) → Known (IsFreeName name)
free_name name = known_as (both (known_not (same_text name (codes "ip"))) (known_missing (software_kind name))) (λ h. record { ip = h.0; software = h.1 }) (λ h. (h.ip, h.software))

new_name : (before : List Form) (name : List ℕ) → Known (IsNewName before name)
new_name before name =
    known_as (both (free_name name) (known_all (λ (k : KindLine). k.name ≢ name) (λ k. known_not (same_text k.name name)) (kinds_in before)))
    (λ h. record { free = h.0; once = h.1 }) (λ h. (h.free, h.once))

are_kinds : (before : List Form) (w : Working) → Known (AreKinds before w)
are_kinds before w =
    known_as (both (known_all (λ (h : Hit). Any (λ (k : KindLine). k.name ≡ h.name) (kinds_in before)) (λ h. known_any (λ (k : KindLine). k.name ≡ h.name) (λ k. same_text k.name h.name) (kinds_in before)) w.hits)
    (known_pairs (λ (g h : Hit). g.name ≢ h.name) (λ g h. known_not (same_text g.name h.name)) w.hits))
    (λ h. record { declared = h.0; once = h.1 }) (λ h. (h.declared, h.once))

abbrev ring_of : ℕ → RingNo
ring_of n = record { 0 = n }

has_ring : (rings : List (RingNo × ℕ)) (ring : RingNo) → Known (HasRing rings ring)
has_ring rings ring = known_any (λ (r : RingNo × ℕ). r.0 ≡ ring) (λ r. known_as (same_number r.0.0 ring.0) (λ e. ap ring_of e) (λ e. ap (λ (x : RingNo). x.0) e)) rings

is_act : (s : Scripted) (a : Act) → Known (IsAct s a)
is_act s (act.Processor cpu) = below 0 (length (lines_of_cpu s cpu))
is_act s (act.Tool tool) = below 0 (length (lines_of_tool s tool))
is_act s (act.Seen ring place) = has_ring s.rings ring

cpu_form_named : (before : List Form) (line : CpuForm) → Known (IsCpuFormNamed before line)
cpu_form_named before (form.Work w) = are_kinds before w
cpu_form_named before other = Yes tt

tool_form_named : (before : List Form) (line : ToolForm) → Known (IsToolFormNamed before line)
tool_form_named before (form.OpenKind p name a) = known_some (kind_named (kinds_in before) name)
tool_form_named before (form.OpenAttr p bytes) = known_some (kind_of_bytes (kinds_in before) bytes)
tool_form_named before (form.Map slot ring) = has_ring (rings_in before) (record { 0 = ring })
tool_form_named before other = Yes tt

named : (before : List Form) (f : Form) → Known (IsNamed before f)
named before (form.Kind name mask) = new_name before name
named before (form.KindOfPmu name pmu mask) = new_name before name
named before (form.OnProcessor line) = cpu_form_named before line
named before (form.OnTool line) = tool_form_named before line
named before (form.Reader ring tries batch) = has_ring (rings_in before) (record { 0 = ring })
named before (form.Order acts) = known_all (IsAct (script_of before)) (is_act (script_of before)) acts
named before other = Yes tt

-- ---- limits, and all of it

within_limits : (before : List Form) (f : Form) → Known (IsWithinLimits before f)
within_limits before (form.Kind name mask) = below (length (kinds_in before)) 16
within_limits before (form.KindOfPmu name pmu mask) = below (length (kinds_in before)) 16
within_limits before (form.OnProcessor line) = below (line_count (script_of before)) 16384
within_limits before (form.OnTool line) = below (line_count (script_of before)) 16384
within_limits before other = Yes tt

light : (before : List Form) (f : Form) → Known (IsWithinWeight before f)
light before form.End = at_most (weight (script_of before)) 65536
light before other = Yes tt

pub asked : (before : List Form) (f : Form) (q : SReason) → Known (AsksOf before f q)
asked before f reason.Place = placed before f
asked before f reason.Range = in_range before f
asked before f reason.Attr = has_attr f
asked before f reason.Name = named before f
asked before f reason.Limit = within_limits before f
asked before f reason.Weight = light before f
asked before f reason.Ascii = Yes tt
asked before f reason.Form = Yes tt
asked before f reason.Order = Yes tt
asked before f reason.End = Yes tt
