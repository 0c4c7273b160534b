-- Lines of processors and tools: the form that is printed of each is spelled, in range and named, and says the line.
use Rattle.std.proofs.Common.{◌≡◌, ◌≢◌, ℕ, zero, suc, ◌-◌, ◌<◌, ◌≤◌, true, false, not, eqb, All, List, [], ◌∷◌, map, length, get_or, take, drop, replicate, Option, Some, None, option_map, inl, inr, refl, sym, ap, ◌∙◌, arith, append_assoc, ◌^◌, ltb}
use Rattle.std.proofs.lemmas.Bool.{cases_Bool, eqb-true, ne_eqb, and_from, lt-ltb, le-ltb}
use Rattle.std.proofs.lemmas.List.{take-append-drop, length-drop, length-map, length-take, length-replicate, get_or-map, get_or-take, get_or-replicate, get_or_default, same_lists}
use Rattle.std.proofs.lemmas.List.{Elements.{All-nil, All-cons, All-head, All-tail, All-weaker}, Kept.{AllPairs-cons}}
use Rattle.std.proofs.lemmas.{List.Sums.{list_all-from_AllPass, position_or_len_is}, Option.{IfSome_then, none-some}}
use Rattle.std.specs.{Prelude.{Any, AllPairs, IfSome, codes}, Str.{bytes_eq}, List.{position_or_len}}
use Rattle.perf_base.specs.declared.lines.{KindLine.{KindLine}, PmuLine.{PmuLine}, CpuLine.{CpuLine}, ToolLine.{ToolLine}}
use Rattle.perf_base.specs.declared.{numbers.{EventNo.{EventNo}, RingNo.{RingNo}}, attr.{Attr.{Attr}, Kind.{Kind}, TaskSel.{TaskSel}}}
use Rattle.perf_base.specs.declared.attr.CpuSel.{CpuSel}
use Rattle.perf_base.specs.Scripts.{IsKindLine, IsCpuLine, IsName, IsNameByte, IsStoredWork, IsToolLine, IsKind, IsTaskSel, IsCpuSel, IsSlot, IsRingLine, IsStoredToolLine}
use Rattle.perf_base.specs.Kinds.{software_kind, software_name}
use Rattle.perf_base.specs.declared.lines.CpuLine.TheVariants as cpu_line
use Rattle.perf_base.specs.declared.lines.ToolLine.TheVariants as tool_line
use Rattle.perf_base.specs.declared.attr.Kind.TheVariants as kind
use Rattle.perf_base.specs.declared.attr.TaskSel.TheVariants as tasks
use Rattle.perf_base.specs.declared.attr.CpuSel.TheVariants as cpus
use Rattle.script_spec.specs.{Forms.{Hit, CpuForm, Form, hit_text, ip_text, ToolForm, Opening}}
use Rattle.script_spec.specs.Meaning.{times_of, occurrences, or_zero, cpu_line_of, kinds_in, number_of, kind_named, tool_line_of, task_sel, cpu_sel, slot, rings_in}
use Rattle.script_spec.specs.Faults.{IsCpuFormInRange, IsCpuFormNamed, IsToolFormInRange, IsToolFormNamed, IsWide, HasAttr}
use Rattle.script_spec.specs.Printing.{some_of, hits_of, cpu_form, kind_name, task_number, cpu_number, asked, tool_form}
use Rattle.script_spec.specs.Forms as form
use Rattle.line_forms.proofs.Singles.{bytes_eq-true, bytes_eq_self, name_takes}
use Rattle.line_forms.specs.Leaves as says
use Rattle.perf_base.proofs.Limits.{ring_small}
use Rattle.script_print.proofs.Cutting.{lacks, pieces_at}
use Rattle.line_forms.proofs.Grammar.{first_is}

pub differ : (a b : List ℕ) → a ≢ b → bytes_eq a b ≡ false
differ a b ne = grind (arith, bytes_eq-true)

-- ---- the kinds that occur

abbrev pub AreOnce : List KindLine → Type 0
AreOnce kinds = AllPairs (λ j k. j.name ≢ k.name) kinds

once_rest : (k : KindLine) (kinds : List KindLine) → AreOnce (k ∷ kinds) → AreOnce kinds
once_rest k kinds h = λ i j d l m. h (suc i) (suc j) d (omega (arith, l)) (omega (arith, m))

-- what holds of each kind with each number holds of the kinds that occur
hits_are : (Q : ℕ → Type 0) (P : Hit → Type 0) (kinds : List KindLine) (ns : List ℕ) → All (λ k. (n : ℕ) → Q n → P (record { name = k.name; times = n })) kinds → All Q ns → All P (hits_of kinds ns)
hits_are Q P [] ns h q = All-nil P
hits_are Q P (k ∷ kinds) [] h q = All-nil P
hits_are Q P (k ∷ kinds) (n ∷ ns) h q =
    let others = hits_are Q P kinds ns (All-tail (λ k. (n : ℕ) → Q n → P (record { name = k.name; times = n })) k kinds h) (All-tail Q n ns q) in
    elim (cases_Bool (eqb n 0)) [
      | inl t ↦ rw t others
      | inr f ↦ rw f (All-cons P (record { name = k.name; times = n }) (hits_of kinds ns) (h zero k (omega arith) n (q zero n (omega arith))) others)
    ]

-- what holds of each kind's name
names_are : (P : List ℕ → Type 0) (kinds : List KindLine) (ns : List ℕ) → All (λ k. P k.name) kinds → All (λ h. P h.name) (hits_of kinds ns)
names_are P kinds ns h = hits_are (λ n. Unit {0}) (λ h. P h.name) kinds ns (λ i d l n q. h i d l) (λ i d l. tt)

hits_once : (kinds : List KindLine) (ns : List ℕ) → AreOnce kinds → AllPairs (λ g h. g.name ≢ h.name) (hits_of kinds ns)
hits_once [] ns h = λ i j d l m. absurd (omega (arith, m))
hits_once (k ∷ kinds) [] h = λ i j d l m. absurd (omega (arith, m))
hits_once (k ∷ kinds) (n ∷ ns) h =
    let others = hits_once kinds ns (once_rest k kinds h) in
    let own : All (λ g. k.name ≢ g.name) (hits_of kinds ns) = names_are (λ name. k.name ≢ name) kinds ns (λ i d l. h zero (suc i) d (omega arith) (omega (arith, l))) in
    grind (arith, eqb, AllPairs-cons, own)

none_of : (hits : List Hit) (name : List ℕ) → All (λ h. h.name ≢ name) hits → times_of hits name ≡ 0
none_of [] name h = refl
none_of (g ∷ hits) name h = search (false, differ, All-head, All-tail, none_of hits name (All-tail (λ h. h.name ≢ name) g hits h))

-- a kind occurs as often as its number says
times_at : (kinds : List KindLine) (ns : List ℕ) (i : ℕ) (d : KindLine) → AreOnce kinds → i < length kinds → length kinds ≤ length ns → times_of (hits_of kinds ns) (get_or kinds i d).name ≡ get_or ns i 0
times_at [] ns i d h l few = absurd (omega (arith, l))
times_at (k ∷ kinds) [] i d h l few = absurd (omega (arith, few))
times_at (k ∷ kinds) (n ∷ ns) zero d h l few = elim (cases_Bool (eqb n 0)) [
  | inl t ↦
      let z : n ≡ 0 = eqb-true n 0 t in
      let none = none_of (hits_of kinds ns) k.name (names_are (λ name. name ≢ k.name) kinds ns (λ i d l e. h zero (suc i) d (omega arith) (omega (arith, l)) (sym e))) in
      rw t (none ∙ sym z)
  | inr f ↦ let self : bytes_eq k.name k.name ≡ true = bytes_eq_self k.name in rw (f, self) refl
]
times_at (k ∷ kinds) (n ∷ ns) (suc i) d h l few =
    let others = times_at kinds ns i d (once_rest k kinds h) (omega (arith, l)) (omega (arith, few)) in
    elim (cases_Bool (eqb n 0)) [
      | inl t ↦ rw t others
      | inr f ↦ let g : bytes_eq k.name (get_or kinds i d).name ≡ false = differ k.name (get_or kinds i d).name (h zero (suc i) d (omega arith) (omega (arith, l))) in rw (f, g) others
    ]

occurrences_again : (kinds : List KindLine) (ns : List ℕ) → AreOnce kinds → length kinds ≤ 16 → length ns ≡ 16 → All (λ n. n ≡ 0) (drop (length kinds) ns) → occurrences kinds (hits_of kinds ns) ≡ ns
occurrences_again kinds ns once few sixteen rest =
    let no_kind : KindLine = record { name = []; pmu = 0; mask = 0 } in
    let times = λ (k : KindLine). times_of (hits_of kinds ns) k.name in
    let front : map times kinds ≡ take (length kinds) ns = same_lists (map times kinds) (take (length kinds) ns) (omega (arith, length-map kinds times, length-take (length kinds) ns, sixteen, few)) (λ i d l.
    let within : i < length kinds = omega (arith, l, length-map kinds times) in
    get_or-map times kinds i no_kind d within ∙ (times_at kinds ns i no_kind once within (omega (arith, few, sixteen)) ∙ (get_or_default ns i 0 d (omega (arith, within, few, sixteen)) ∙ sym (get_or-take (length kinds) ns i d within)))) in
    let back : replicate (16 - length kinds) 0 ≡ drop (length kinds) ns = same_lists (replicate (16 - length kinds) 0) (drop (length kinds) ns) (omega (arith, length-replicate {A = ℕ} (16 - length kinds) 0, length-drop (length kinds) ns, sixteen, few)) (λ i d l.
    let less : i < 16 - length kinds = omega (arith, l, length-replicate {A = ℕ} (16 - length kinds) 0) in
    get_or-replicate (16 - length kinds) i 0 d less ∙ sym (rest i d (omega (arith, less, length-drop (length kinds) ns, sixteen)))) in
    rw (front, back) (take-append-drop (length kinds) ns)

-- ---- an ip is no kind

byte_lacks : (b : ℕ) → IsNameByte b → not (eqb b 61) ≡ true
byte_lacks b h = let f : eqb b 61 ≡ false = ne_eqb b 61 (λ e. other h e) in rw f refl
  where
    other : IsNameByte b → b ≡ 61 → ⊥
    other (inl letter) e = omega (arith, letter, e)
    other (inr (inl digit)) e = omega (arith, digit, e)
    other (inr (inr dash)) e = omega (arith, dash, e)

name_lacks : (name : List ℕ) → IsName name → lacks 61 name ≡ true
name_lacks [] h = absurd h
name_lacks (b ∷ bs) h = and_from (not (eqb b 61)) (lacks 61 bs) (byte_lacks b (inl h.0)) (list_all-from_AllPass (λ b. not (eqb b 61)) bs (All-weaker IsNameByte (λ b. not (eqb b 61) ≡ true) byte_lacks bs h.1))

pub no_ip : (h : Hit) → IsName h.name → h.name ≢ codes "ip" → (n : ℕ) → hit_text h ≢ ip_text n
no_ip h is ne n e = grind (arith, append_assoc, pieces_at, name_lacks, first_is)

-- ---- a printed line of a processor

none_or : (n : ℕ) (P : Option ℕ → Type 0) → P None → P (Some n) → P (some_of n)
none_or n P a b = elim (cases_Bool (eqb n 0)) [
  | inl t ↦ rw t a
  | inr f ↦ rw f b
]

pub or_zero_again : (n : ℕ) → or_zero (some_of n) ≡ n
or_zero_again n = grind (arith, eqb, eqb-true)

pub if_some_of : (n : ℕ) (P : ℕ → Type 0) → (0 < n → P n) → IfSome (some_of n) P
if_some_of zero P h = tt
if_some_of (suc n) P h = let f : eqb (suc n) 0 ≡ false = ne_eqb (suc n) 0 (λ e. omega (arith, e)) in rw f (h (omega arith))

-- the line is printed in this form, which keeps what is asked of it and says the line
pub record IsCpuFormOf (kinds : List KindLine) (line : CpuLine) (f : CpuForm) : Type 0 where
  pub is : cpu_form kinds line ≡ form.OnProcessor f
  pub spelling : form.IsCpuSpelling f
  pub range : IsCpuFormInRange f
  pub named : (before : List Form) → kinds_in before ≡ kinds → IsCpuFormNamed before f
  pub says : cpu_line_of kinds f ≡ line

module _ (kinds : List KindLine) (pmus : List PmuLine) (are : All (IsKindLine pmus) kinds) (once : AreOnce kinds) (few : length kinds ≤ 16) where
  hits : (ns : List ℕ) → All (λ n. n ≤ 1000000000) ns → All form.IsHit (hits_of kinds ns)
  hits ns h = hits_are (λ n. n ≤ 1000000000) form.IsHit kinds ns (λ i d l n q. let k = are i d l in ((k.name, k.length), omega (arith, q))) h

  no_ip_first : (ns : List ℕ) → form.IsNoIp (hits_of kinds ns)
  no_ip_first ns = first (hits_of kinds ns) (names_are (λ name. IsName name × (name ≢ codes "ip")) kinds ns (λ i d l. let k = are i d l in (k.name, k.free.ip)))
    where
      first : (hits : List Hit) → All (λ h. IsName h.name × (h.name ≢ codes "ip")) hits → form.IsNoIp hits
      first [] h = tt
      first (g ∷ hits) h = let own = All-head (λ h. IsName h.name × (h.name ≢ codes "ip")) g hits h in λ n is. no_ip g own.0 own.1 n

  pub cpu_form_of : (line : CpuLine) → IsCpuLine (length kinds) line → IsStoredWork line → (f : CpuForm) × IsCpuFormOf kinds line f
  cpu_form_of (cpu_line.Switch None) h w = (form.Switch None, record { is = refl; spelling = tt; range = tt; named = λ b k. tt; says = refl })
  cpu_form_of (cpu_line.Switch (Some task)) h w = (form.Switch (Some task.0), record { is = refl; spelling = omega (arith, h); range = h; named = λ b k. tt; says = refl })
  cpu_form_of (cpu_line.Work x) h w = (
    form.Work (record { length = x.length; mode = x.mode; ip = some_of x.ip; hits = hits_of kinds x.hits }),
    record {
      is = refl;
      spelling = record { length = omega (arith, h.length); ip = none_or x.ip (λ o. form.HasIpFirst o (hits_of kinds x.hits)) (no_ip_first x.hits) (omega (arith, w.0)); hits = hits x.hits h.hits };
      range = (h.length, hits_are (λ n. n ≤ 1000000000) (λ h. h.times ≤ 1000000000) kinds x.hits (λ i d l n q. q) h.hits);
      named = λ before k. record {
        declared = rw k (names_are (λ name. Any (λ k. k.name ≡ name) kinds) kinds x.hits (λ i d l. (i, get_or kinds i d, l, get_or_default kinds i (get_or kinds i d) d l, refl)));
        once = hits_once kinds x.hits once;
      };
      says = rw (or_zero_again x.ip, occurrences_again kinds x.hits once few w.1 h.declared) refl;
    },
  )
  cpu_form_of cpu_line.Tick h w = (form.Tick, record { is = refl; spelling = tt; range = tt; named = λ b k. tt; says = refl })
  cpu_form_of (cpu_line.Fork task) h w = (form.Fork task.0, record { is = refl; spelling = omega (arith, h); range = h; named = λ b k. tt; says = refl })
  cpu_form_of cpu_line.Exit h w = (form.Exit, record { is = refl; spelling = tt; range = tt; named = λ b k. tt; says = refl })

-- ---- the kind that is called so

-- the kinds before a place are called otherwise, and the kind at the place, if there is one, is called so
number_at : (kinds : List KindLine) (name : List ℕ) (n : ℕ) (d : KindLine) → n ≤ length kinds → ((k : ℕ) → k < n → (get_or kinds k d).name ≢ name) → (n < length kinds → (get_or kinds n d).name ≡ name)
    → position_or_len (λ k. bytes_eq k.name name) kinds ≡ n
number_at kinds name n d l before at = position_or_len_is (λ k. bytes_eq k.name name) kinds n d l (λ k m. differ (get_or kinds k d).name name (before k m)) (λ m. rw (at m) (bytes_eq_self name))

no_kind : KindLine
no_kind = record { name = []; pmu = 0; mask = 0 }

name_at : (kinds : List KindLine) (n : ℕ) → n < length kinds → get_or (map (λ k. k.name) kinds) n [] ≡ (get_or kinds n no_kind).name
name_at kinds n l = get_or-map (λ k. k.name) kinds n no_kind [] l

number_again : (kinds : List KindLine) (n : ℕ) → AreOnce kinds → n < length kinds → number_of kinds (get_or (map (λ k. k.name) kinds) n []) ≡ Some n
number_again kinds n once l =
    let at = number_at kinds (get_or kinds n no_kind).name n no_kind (omega arith) (λ k m. once k n no_kind m l) (λ m. refl) in
    let t : ltb n (length kinds) ≡ true = lt-ltb _ _ l in
    rw (name_at kinds n l, at, t) refl

no_number : (kinds : List KindLine) (name : List ℕ) → All (λ k. k.name ≢ name) kinds → number_of kinds name ≡ None
no_number kinds name h =
    let at = number_at kinds name (length kinds) no_kind (omega arith) (λ k m. h k no_kind m) (λ m. absurd (omega (arith, m))) in
    let f : ltb (length kinds) (length kinds) ≡ false = le-ltb _ _ (omega arith) in
    rw (at, f) refl

module _ (kinds : List KindLine) (pmus : List PmuLine) (are : All (IsKindLine pmus) kinds) (once : AreOnce kinds) where
  -- no declared kind is called as a software kind is
  software : (k : Kind) → software_kind (software_name k) ≡ Some k → kind_named kinds (software_name k) ≡ Some k
  software k e = rw (no_number kinds (software_name k) (λ i d l same. none-some k (sym (are i d l).free.software ∙ (ap software_kind same ∙ e)))) e

  word : (text : List ℕ) → says.name text ≡ Some text → form.IsWord text
  word text e = (name_takes text text e).0

  -- a kind's name is spelled, and says the kind
  pub kind_again : (k : Kind) → IsKind (length kinds) k → form.IsWord (kind_name kinds k) × (kind_named kinds (kind_name kinds k) ≡ Some k)
  unfolding says.name
  kind_again (kind.Hard n) h = let k = are n no_kind h in (rw (name_at kinds n h) (k.name, k.length), rw (number_again kinds n once h) refl)
  kind_again kind.ContextSwitches h = (word (software_name kind.ContextSwitches) refl, software kind.ContextSwitches refl)
  kind_again kind.CpuMigrations h = (word (software_name kind.CpuMigrations) refl, software kind.CpuMigrations refl)
  kind_again kind.TaskClock h = (word (software_name kind.TaskClock) refl, software kind.TaskClock refl)
  kind_again kind.Dummy h = (word (software_name kind.Dummy) refl, software kind.Dummy refl)

-- ---- a printed line of a tool

-- where the event is opened
abbrev pub opening_of : EventNo → Attr → Option EventNo → Opening
opening_of e attr leader = record { slot = e.0; task = task_number attr.task; cpu = cpu_number attr.cpu; leader = option_map (λ l. l.0) leader }

task_small : (t : TaskSel) (n : ℕ) → 64 ≤ n → IsTaskSel t → IfSome (task_number t) (λ m. m < n)
task_small tasks.All n l h = tt
task_small (tasks.One task) n l h = omega (arith, h, l)

cpu_small : (c : CpuSel) (n m : ℕ) → n ≤ m → IsCpuSel n c → IfSome (cpu_number c) (λ k. k < m)
cpu_small cpus.Any n m l h = tt
cpu_small (cpus.One cpu) n m l h = omega (arith, h, l)

leader_small : (o : Option EventNo) (n : ℕ) → 256 ≤ n → IfSome o IsSlot → IfSome (option_map (λ e. e.0) o) (λ m. m < n)
leader_small None n l h = tt
leader_small (Some e) n l h = omega (arith, h, l)

task_again : (t : TaskSel) → task_sel (task_number t) ≡ t
task_again tasks.All = refl
task_again (tasks.One task) = refl

cpu_sel_again : (c : CpuSel) → cpu_sel (cpu_number c) ≡ c
cpu_sel_again cpus.Any = refl
cpu_sel_again (cpus.One cpu) = refl

leader_again : (o : Option EventNo) → option_map slot (option_map (λ e. e.0) o) ≡ o
leader_again None = refl
leader_again (Some e) = refl

-- the line is printed in this form, which keeps what is asked of it and says the line
pub record IsToolFormOf (kinds : List KindLine) (n : ℕ) (rings : List (RingNo × ℕ)) (line : ToolLine) (f : ToolForm) : Type 0 where
  pub is : tool_form kinds line ≡ form.OnTool f
  pub spelling : form.IsToolSpelling f
  pub range : IsToolFormInRange n f
  pub attr : HasAttr (form.OnTool f)
  pub named : (before : List Form) → kinds_in before ≡ kinds → rings_in before ≡ rings → IsToolFormNamed before f
  pub says : tool_line_of kinds f ≡ Some line

module _ (kinds : List KindLine) (pmus : List PmuLine) (n : ℕ) (rings : List (RingNo × ℕ)) (are : All (IsKindLine pmus) kinds) (once : AreOnce kinds) (few : n ≤ 8) (sized : All IsRingLine rings) where
  pub tool_form_of : (line : ToolLine) → IsToolLine n (length kinds) rings line → IsStoredToolLine line → (f : ToolForm) × IsToolFormOf kinds n rings line f
  tool_form_of (tool_line.Open e attr leader) h w =
      let again = kind_again kinds pmus are once attr.kind h.1.kind in (
        form.OpenKind (opening_of e attr leader) (kind_name kinds attr.kind) (asked attr),
        record {
          is = refl;
          spelling = (
            record { slot = omega (arith, h.0); task = task_small attr.task (10 ^ 20) (omega arith) h.1.task; cpu = cpu_small attr.cpu n (10 ^ 20) (omega (arith, few)) h.1.cpu; leader = leader_small leader (10 ^ 20) (omega arith) h.2 },
            again.0,
            record {
              period = if_some_of attr.period form.IsNumber (λ some. omega (arith, w.0));
              sample = if_some_of attr.sample form.IsHexadecimal (λ some. omega (arith, w.1));
              format = if_some_of attr.format form.IsHexadecimal (λ some. omega (arith, w.2));
              flags = if_some_of attr.flags.0 form.AreFlags (λ some. (some, h.1.flags));
            },
          );
          range = (record { slot = h.0; task = task_small attr.task 64 (omega arith) h.1.task; cpu = cpu_small attr.cpu n n (omega arith) h.1.cpu; leader = leader_small leader 256 (omega arith) h.2 }, if_some_of attr.period IsWide (λ some. w.0));
          attr = tt;
          named = λ before k r. rw (k, again.1) refl;
          says = rw (again.1, task_again attr.task, cpu_sel_again attr.cpu, or_zero_again attr.period, or_zero_again attr.sample, or_zero_again attr.format, or_zero_again attr.flags.0, leader_again leader) refl;
        },
      )
  tool_form_of (tool_line.Enable event group) h w = (form.Enable event.0 group, record { is = refl; spelling = omega (arith, h); range = h; attr = tt; named = λ b k r. tt; says = refl })
  tool_form_of (tool_line.Disable event group) h w = (form.Disable event.0 group, record { is = refl; spelling = omega (arith, h); range = h; attr = tt; named = λ b k r. tt; says = refl })
  tool_form_of (tool_line.Reset event group) h w = (form.Reset event.0 group, record { is = refl; spelling = omega (arith, h); range = h; attr = tt; named = λ b k r. tt; says = refl })
  tool_form_of (tool_line.Period event period) h w =
      (form.Period event.0 period, record { is = refl; spelling = (omega (arith, h), omega (arith, w)); range = (h, w); attr = tt; named = λ b k r. tt; says = refl })
  tool_form_of (tool_line.Read event size) h w = (form.Read event.0 size, record { is = refl; spelling = (omega (arith, h), IfSome_then size w (λ n wide. omega (arith, wide))); range = (h, w); attr = tt; named = λ b k r. tt; says = refl })
  tool_form_of (tool_line.Map event ring) h w =
      let small = ring_small rings ring sized h.1 in
      (form.Map event.0 ring.0, record { is = refl; spelling = (omega (arith, h.0), omega (arith, small)); range = (h.0, omega (arith, small)); attr = tt; named = λ b k r. rw r h.1; says = refl })
  tool_form_of (tool_line.Output event target) h w =
      (form.Output event.0 target.0, record { is = refl; spelling = (omega (arith, h.0), omega (arith, h.1)); range = h; attr = tt; named = λ b k r. tt; says = refl })
  tool_form_of (tool_line.Close event) h w = (form.Close event.0, record { is = refl; spelling = omega (arith, h); range = h; attr = tt; named = λ b k r. tt; says = refl })
  tool_form_of (tool_line.Why event) h w = (form.Why event.0, record { is = refl; spelling = omega (arith, h); range = h; attr = tt; named = λ b k r. tt; says = refl })
  tool_form_of (tool_line.Seats cpu) h w = (form.Seats cpu.0, record { is = refl; spelling = omega (arith, h, few); range = h; attr = tt; named = λ b k r. tt; says = refl })
