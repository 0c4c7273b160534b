-- inner
-- What the definitions of the language call the forms that the reader gives. This project's own profile.
use Rattle.perf_base.specs.declared.acts.Act.{Act}
use Rattle.perf_base.specs.declared.acts.Act.TheVariants as act
use Rattle.script_spec.specs.Forms as form
use Rattle.line_forms.specs.declared.forms.{Version.{Version}, Hit.{Hit}, Working.{Working}, CpuForm.{CpuForm}, Opening.{Opening}, Asked.{Asked}}
use Rattle.line_forms.specs.declared.{forms.{ToolForm.{ToolForm}, Form.{Form}}, acts.SpelledAct.{SpelledAct}}
use Rattle.line_forms.specs.declared.forms.Version.TheVariants as version
use Rattle.line_forms.specs.declared.forms.CpuForm.TheVariants as cpu_form
use Rattle.line_forms.specs.declared.forms.ToolForm.TheVariants as tool_form
use Rattle.line_forms.specs.declared.forms.Form.TheVariants as read
use Rattle.line_forms.specs.declared.acts.SpelledAct.TheVariants as spelled

abbrev pub version_of : Version → form.Version
version_of version.One = form.One
version_of version.Two = form.Two

abbrev pub hit_of : Hit → form.Hit
hit_of h = record { name = h.name.now; times = h.times }

abbrev pub working_of : Working → form.Working
working_of w = record { length = w.length; mode = w.mode; ip = w.ip; hits = w.hits }

abbrev pub cpu_form_of : CpuForm → form.CpuForm
cpu_form_of (cpu_form.Switch task) = form.Switch task
cpu_form_of (cpu_form.Work w) = form.Work (working_of w)
cpu_form_of cpu_form.Tick = form.Tick
cpu_form_of (cpu_form.Fork task) = form.Fork task
cpu_form_of cpu_form.Exit = form.Exit

abbrev pub opening_of : Opening → form.Opening
opening_of p = record { slot = p.slot; task = p.task; cpu = p.cpu; leader = p.leader }

abbrev pub asked_of : Asked → form.Asked
asked_of a = record { period = a.period; sample = a.sample; format = a.format; flags = a.flags }

abbrev pub tool_form_of : ToolForm → form.ToolForm
tool_form_of (tool_form.OpenKind place name asked) = form.OpenKind (opening_of place) name (asked_of asked)
tool_form_of (tool_form.OpenAttr place bytes) = form.OpenAttr (opening_of place) bytes
tool_form_of (tool_form.Enable slot group) = form.Enable slot group
tool_form_of (tool_form.Disable slot group) = form.Disable slot group
tool_form_of (tool_form.Reset slot group) = form.Reset slot group
tool_form_of (tool_form.Period slot period) = form.Period slot period
tool_form_of (tool_form.Read slot size) = form.Read slot size
tool_form_of (tool_form.Map slot ring) = form.Map slot ring
tool_form_of (tool_form.Output slot target) = form.Output slot target
tool_form_of (tool_form.Close slot) = form.Close slot
tool_form_of (tool_form.Why slot) = form.Why slot
tool_form_of (tool_form.Seats cpu) = form.Seats cpu

abbrev pub act_of : SpelledAct → Act
act_of (spelled.Processor n) = act.Processor (record { 0 = n })
act_of (spelled.Tool n) = act.Tool (record { 0 = n })
act_of (spelled.Seen ring place) = act.Seen (record { 0 = ring }) place

abbrev pub form_of : Form → form.Form
form_of (read.Perf v) = form.Perf (version_of v)
form_of (read.Machine cpus counters) = form.Machine cpus counters
form_of (read.MachineOfPmus cpus) = form.MachineOfPmus cpus
form_of (read.Pmu number counters cpus) = form.Pmu number counters cpus
form_of (read.Kind name mask) = form.Kind name mask
form_of (read.KindOfPmu name pmu mask) = form.KindOfPmu name pmu mask
form_of (read.Task number) = form.Task number
form_of (read.Ring number bytes) = form.Ring number bytes
form_of (read.Processor number) = form.Processor number
form_of (read.OnProcessor line) = form.OnProcessor (cpu_form_of line)
form_of (read.Tool number) = form.Tool number
form_of (read.OnTool line) = form.OnTool (tool_form_of line)
form_of (read.Reader ring tries batch) = form.Reader ring tries batch
form_of (read.Order acts) = form.Order acts
form_of read.End = form.End
