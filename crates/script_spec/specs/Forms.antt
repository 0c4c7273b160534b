-- believed
-- The forms that a line of a script can have, and how each is spelled. This project's own profile.
use Rattle.std.specs.Prelude.{◌≡◌, ◌≢◌, ℕ, ◌/◌, ◌%◌, ◌^◌, ◌<◌, ◌≤◌, ◌==◌, Bool, true, false, List, [], ◌∷◌, ◌++◌, length, map, flat_map, filter, All, Option, Some, None, IfSome, slice_index_or, codes, decimal}
use Rattle.std.specs.{Fmt.{digits, digit_glyph}, List.{join_with_byte}, Int.{bit_at}}
use Rattle.perf_base.specs.{declared.{lines.Mode.{Mode}, acts.Act.{Act}}, Flags.{flag_table}, Scripts.{IsName}}
use Rattle.perf_base.specs.declared.lines.Mode.TheVariants as mode
use Rattle.perf_base.specs.declared.acts.Act.TheVariants as act
use Rattle.script_spec.specs.Acts.{act_text}

-- version one has one PMU on all processors, version two has PMUs of their own
pub data Version : Type 0 where
  One : Version
  Two : Version

-- a kind and how often it occurs, as a work line says it
pub record Hit : Type 0 where
  pub name : List ℕ
  pub times : ℕ

-- a stretch of work
pub record Working : Type 0 where
  pub length : ℕ
  pub mode : Mode
  pub ip : Option ℕ
  pub hits : List Hit

-- The forms under a processor. A switch to no task leaves it idle.
pub data CpuForm : Type 0 where
  Switch : (task : Option ℕ) → CpuForm
  Work : (working : Working) → CpuForm
  Tick : CpuForm
  Fork : (task : ℕ) → CpuForm
  Exit : CpuForm

-- where an event is opened: all tasks, or any processor, where none is named
pub record Opening : Type 0 where
  pub slot : ℕ
  pub task : Option ℕ
  pub cpu : Option ℕ
  pub leader : Option ℕ

-- what is asked of an event. Flags are numbered as perf_base numbers them.
pub record Asked : Type 0 where
  pub period : Option ℕ
  pub sample : Option ℕ
  pub format : Option ℕ
  pub flags : Option ℕ

-- The forms under a tool. An event is opened by a kind's name or by the bytes of a perf_event_attr.
pub data ToolForm : Type 0 where
  OpenKind : (place : Opening) (name : List ℕ) (asked : Asked) → ToolForm
  OpenAttr : (place : Opening) (bytes : List ℕ) → ToolForm
  Enable : (slot : ℕ) (group : Bool) → ToolForm
  Disable : (slot : ℕ) (group : Bool) → ToolForm
  Reset : (slot : ℕ) (group : Bool) → ToolForm
  Period : (slot period : ℕ) → ToolForm
  Read : (slot : ℕ) (size : Option ℕ) → ToolForm
  Map : (slot ring : ℕ) → ToolForm
  Output : (slot target : ℕ) → ToolForm
  Close : (slot : ℕ) → ToolForm
  Why : (slot : ℕ) → ToolForm
  Seats : (cpu : ℕ) → ToolForm

-- The forms of a line. A machine of PMUs, a PMU and a kind of a PMU are forms of version two alone, a machine
-- and a kind without one of version one.
pub data Form : Type 0 where
  Perf : (version : Version) → Form
  Machine : (cpus counters : ℕ) → Form
  MachineOfPmus : (cpus : ℕ) → Form
  Pmu : (number counters cpus : ℕ) → Form
  Kind : (name : List ℕ) (mask : ℕ) → Form
  KindOfPmu : (name : List ℕ) (pmu mask : ℕ) → Form
  Task : (number : ℕ) → Form
  Ring : (number bytes : ℕ) → Form
  Processor : (number : ℕ) → Form
  OnProcessor : (line : CpuForm) → Form
  Tool : (number : ℕ) → Form
  OnTool : (line : ToolForm) → Form
  Reader : (ring tries batch : ℕ) → Form
  Order : (acts : List Act) → Form
  End : Form

-- a hexadecimal number, in small letters
abbrev pub hexadecimal : ℕ → List ℕ
hexadecimal n = digits 16 false n

-- a byte as two hexadecimal digits
abbrev pub byte_text : ℕ → List ℕ
byte_text b = digit_glyph false (b / 16) ∷ digit_glyph false (b % 16) ∷ []

-- no word for what is missing
abbrev pub word_if : Option ℕ → (ℕ → List ℕ) → List (List ℕ)
word_if None word = []
word_if (Some n) word = word n ∷ []

-- the word of each flag, by its number
abbrev pub flag_name : ℕ → List ℕ
flag_name n = (slice_index_or flag_table n ([], 0)).0

-- the words of the flags that are set, in their order, parted by commas
abbrev pub flags_text : ℕ → List ℕ
flags_text flags = join_with_byte 44 (map flag_name (filter (λ n. bit_at flags n == 1) (0 ∷ 1 ∷ 2 ∷ 3 ∷ 4 ∷ 5 ∷ 6 ∷ [])))

abbrev pub mode_text : Mode → List ℕ
mode_text mode.User = codes "user"
mode_text mode.Kernel = codes "kernel"

abbrev pub ip_text : ℕ → List ℕ
ip_text n = codes "ip=" ++ hexadecimal n

abbrev pub hit_text : Hit → List ℕ
hit_text h = h.name ++ codes "=" ++ decimal h.times

-- `all` for the task and `any` for the processor where none is named
abbrev pub number_or : List ℕ → Option ℕ → List ℕ
number_or word None = word
number_or word (Some n) = decimal n

abbrev pub group_words : Bool → List (List ℕ)
group_words true = codes "group" ∷ []
group_words false = []

abbrev pub cpu_words : CpuForm → List (List ℕ)
cpu_words (Switch task) = codes "switch" ∷ number_or (codes "idle") task ∷ []
cpu_words (Work w) = codes "work" ∷ decimal w.length ∷ mode_text w.mode ∷ (word_if w.ip ip_text ++ map hit_text w.hits)
cpu_words Tick = codes "tick" ∷ []
cpu_words (Fork task) = codes "fork" ∷ decimal task ∷ []
cpu_words Exit = codes "exit" ∷ []

-- the words of an opening, from its task on
abbrev pub place_words : Opening → List (List ℕ) → List (List ℕ)
place_words p others = (codes "task=" ++ number_or (codes "all") p.task) ∷ (codes "cpu=" ++ number_or (codes "any") p.cpu) ∷ (word_if p.leader (λ n. codes "leader=" ++ decimal n) ++ others)

abbrev pub asked_words : Asked → List (List ℕ)
asked_words a =
    word_if a.period (λ n. codes "period=" ++ decimal n)
    ++ (word_if a.sample (λ n. codes "sample=" ++ hexadecimal n)
    ++ (word_if a.format (λ n. codes "format=" ++ hexadecimal n)
    ++ word_if a.flags (λ n. codes "flags=" ++ flags_text n)))

abbrev pub tool_words : ToolForm → List (List ℕ)
tool_words (OpenKind p name a) = codes "open" ∷ decimal p.slot ∷ (codes "kind=" ++ name) ∷ place_words p (asked_words a)
tool_words (OpenAttr p bytes) = codes "open" ∷ decimal p.slot ∷ (codes "attr=" ++ flat_map byte_text bytes) ∷ place_words p []
tool_words (Enable slot group) = codes "enable" ∷ decimal slot ∷ group_words group
tool_words (Disable slot group) = codes "disable" ∷ decimal slot ∷ group_words group
tool_words (Reset slot group) = codes "reset" ∷ decimal slot ∷ group_words group
tool_words (Period slot period) = codes "period" ∷ decimal slot ∷ decimal period ∷ []
tool_words (Read slot size) = codes "read" ∷ decimal slot ∷ word_if size (λ n. codes "size=" ++ decimal n)
tool_words (Map slot ring) = codes "map" ∷ decimal slot ∷ decimal ring ∷ []
tool_words (Output slot target) = codes "output" ∷ decimal slot ∷ decimal target ∷ []
tool_words (Close slot) = codes "close" ∷ decimal slot ∷ []
tool_words (Why slot) = codes "why" ∷ decimal slot ∷ []
tool_words (Seats cpu) = codes "seats" ∷ decimal cpu ∷ []

abbrev pub version_text : Version → List ℕ
version_text One = codes "1"
version_text Two = codes "2"

-- the words of a line of this form
abbrev pub form_words : Form → List (List ℕ)
form_words (Perf version) = codes "perf" ∷ version_text version ∷ []
form_words (Machine cpus counters) = codes "machine" ∷ (codes "cpus=" ++ decimal cpus) ∷ (codes "counters=" ++ decimal counters) ∷ []
form_words (MachineOfPmus cpus) = codes "machine" ∷ (codes "cpus=" ++ decimal cpus) ∷ []
form_words (Pmu number counters cpus) = codes "pmu" ∷ decimal number ∷ (codes "counters=" ++ decimal counters) ∷ (codes "cpus=" ++ hexadecimal cpus) ∷ []
form_words (Kind name mask) = codes "kind" ∷ name ∷ (codes "mask=" ++ hexadecimal mask) ∷ []
form_words (KindOfPmu name pmu mask) = codes "kind" ∷ name ∷ (codes "pmu=" ++ decimal pmu) ∷ (codes "mask=" ++ hexadecimal mask) ∷ []
form_words (Task number) = codes "task" ∷ decimal number ∷ []
form_words (Ring number bytes) = codes "ring" ∷ decimal number ∷ (codes "bytes=" ++ decimal bytes) ∷ []
form_words (Processor number) = codes "processor" ∷ decimal number ∷ []
form_words (OnProcessor line) = cpu_words line
form_words (Tool number) = codes "tool" ∷ decimal number ∷ []
form_words (OnTool line) = tool_words line
form_words (Reader ring tries batch) = codes "reader" ∷ decimal ring ∷ (codes "tries=" ++ decimal tries) ∷ (codes "batch=" ++ decimal batch) ∷ []
form_words (Order acts) = codes "order" ∷ map act_text acts
form_words End = codes "end" ∷ []

-- Decimal numbers have at most 20 digits, hexadecimal ones at most 16, and no number has a zero too many in
-- front.
abbrev pub IsNumber : ℕ → Type 0
IsNumber n = n < 10 ^ 20

abbrev pub IsHexadecimal : ℕ → Type 0
IsHexadecimal n = n < 16 ^ 16

-- names have at most 31 characters
abbrev pub IsWord : List ℕ → Type 0
IsWord name = IsName name × (length name ≤ 31)

-- there is some flag, and no flag beside the seven
abbrev pub AreFlags : ℕ → Type 0
AreFlags n = (0 < n) × (n < 2 ^ 7)

abbrev pub IsHit : Hit → Type 0
IsHit h = IsWord h.name × IsNumber h.times

-- a first word `ip=` with a hexadecimal number is the ip, and no kind
abbrev pub IsNoIp : List Hit → Type 0
IsNoIp [] = Unit {0}
IsNoIp (h ∷ hs) = (n : ℕ) → IsHexadecimal n → hit_text h ≢ ip_text n

abbrev pub HasIpFirst : Option ℕ → List Hit → Type 0
HasIpFirst None hits = IsNoIp hits
HasIpFirst (Some n) hits = IsHexadecimal n

pub record IsWorking (w : Working) : Type 0 where
  pub length : IsNumber w.length
  pub ip : HasIpFirst w.ip w.hits
  pub hits : All IsHit w.hits

abbrev pub IsCpuSpelling : CpuForm → Type 0
IsCpuSpelling (Switch task) = IfSome task IsNumber
IsCpuSpelling (Work w) = IsWorking w
IsCpuSpelling Tick = Unit {0}
IsCpuSpelling (Fork task) = IsNumber task
IsCpuSpelling Exit = Unit {0}

pub record IsOpening (p : Opening) : Type 0 where
  pub slot : IsNumber p.slot
  pub task : IfSome p.task IsNumber
  pub cpu : IfSome p.cpu IsNumber
  pub leader : IfSome p.leader IsNumber

pub record IsAsked (a : Asked) : Type 0 where
  pub period : IfSome a.period IsNumber
  pub sample : IfSome a.sample IsHexadecimal
  pub format : IfSome a.format IsHexadecimal
  pub flags : IfSome a.flags AreFlags

-- 2 to 8,192 digits, two for each byte
pub record AreBytes (bytes : List ℕ) : Type 0 where
  pub some : 0 < length bytes
  pub few : length bytes ≤ 4096
  pub each : All (λ b. b < 256) bytes

abbrev pub IsToolSpelling : ToolForm → Type 0
IsToolSpelling (OpenKind p name a) = IsOpening p × IsWord name × IsAsked a
IsToolSpelling (OpenAttr p bytes) = IsOpening p × AreBytes bytes
IsToolSpelling (Enable slot group) = IsNumber slot
IsToolSpelling (Disable slot group) = IsNumber slot
IsToolSpelling (Reset slot group) = IsNumber slot
IsToolSpelling (Period slot period) = IsNumber slot × IsNumber period
IsToolSpelling (Read slot size) = IsNumber slot × IfSome size IsNumber
IsToolSpelling (Map slot ring) = IsNumber slot × IsNumber ring
IsToolSpelling (Output slot target) = IsNumber slot × IsNumber target
IsToolSpelling (Close slot) = IsNumber slot
IsToolSpelling (Why slot) = IsNumber slot
IsToolSpelling (Seats cpu) = IsNumber cpu

abbrev pub IsActSpelling : Act → Type 0
IsActSpelling (act.Processor cpu) = IsNumber cpu.0
IsActSpelling (act.Tool tool) = IsNumber tool.0
IsActSpelling (act.Seen ring place) = IsNumber ring.0 × IsNumber place

-- what the spelling alone allows
abbrev pub IsSpelling : Form → Type 0
IsSpelling (Perf version) = Unit {0}
IsSpelling (Machine cpus counters) = IsNumber cpus × IsNumber counters
IsSpelling (MachineOfPmus cpus) = IsNumber cpus
IsSpelling (Pmu number counters cpus) = IsNumber number × IsNumber counters × IsHexadecimal cpus
IsSpelling (Kind name mask) = IsWord name × IsHexadecimal mask
IsSpelling (KindOfPmu name pmu mask) = IsWord name × IsNumber pmu × IsHexadecimal mask
IsSpelling (Task number) = IsNumber number
IsSpelling (Ring number bytes) = IsNumber number × IsNumber bytes
IsSpelling (Processor number) = IsNumber number
IsSpelling (OnProcessor line) = IsCpuSpelling line
IsSpelling (Tool number) = IsNumber number
IsSpelling (OnTool line) = IsToolSpelling line
IsSpelling (Reader ring tries batch) = IsNumber ring × IsNumber tries × IsNumber batch
IsSpelling (Order acts) = All IsActSpelling acts
IsSpelling End = Unit {0}

-- the forms of each version: a text has its own version's forms alone
abbrev pub IsOfVersion : Version → Form → Type 0
IsOfVersion version (Perf own) = own ≡ version
IsOfVersion version (Machine cpus counters) = version ≡ One
IsOfVersion version (MachineOfPmus cpus) = version ≡ Two
IsOfVersion version (Pmu number counters cpus) = version ≡ Two
IsOfVersion version (Kind name mask) = version ≡ One
IsOfVersion version (KindOfPmu name pmu mask) = version ≡ Two
IsOfVersion version (Task number) = Unit {0}
IsOfVersion version (Ring number bytes) = Unit {0}
IsOfVersion version (Processor number) = Unit {0}
IsOfVersion version (OnProcessor line) = Unit {0}
IsOfVersion version (Tool number) = Unit {0}
IsOfVersion version (OnTool line) = Unit {0}
IsOfVersion version (Reader ring tries batch) = Unit {0}
IsOfVersion version (Order acts) = Unit {0}
IsOfVersion version End = Unit {0}

-- a line with these words is of this form, in a text of this version
pub record IsOfForm (version : Version) (words : List (List ℕ)) (form : Form) : Type 0 where
  pub of_version : IsOfVersion version form
  pub spelling : IsSpelling form
  pub is : words ≡ form_words form
