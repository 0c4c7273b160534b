-- inner
-- What a script says, read off the fields that keep it. This project's own profile.
use Rattle.std.specs.Prelude.{map}
use Rattle.perf_base.specs.{Scripts.{Scripted, IsScript}, declared.script.Script.TheInside.{Inside}}

abbrev pub said : Inside → Scripted
said s = record {
  cpus = s.cpus;
  pmus = s.pmus.items;
  kinds = s.kinds.items;
  tasks = s.tasks.items;
  rings = s.rings.items;
  cpu_lines = map (λ v. v.items) s.cpu_lines;
  tool_lines = map (λ v. v.items) s.tool_lines;
  readers = s.readers.items;
  order = s.order.items;
}

abbrev pub SaysScript : Inside → Type 0
SaysScript s = IsScript (said s)
