-- The lines that forms say.
use Rattle.std.proofs.Common.{◌≡◌, ℕ, suc, ◌+◌, ◌-◌, ◌<◌, ◌≤◌, List, [], ◌∷◌, ◌++◌, map, length, get_or, set, take, Option, Some, option_map, refl, sym, ap, subst, ◌∙◌, arith}
use Rattle.std.proofs.lemmas.{List.{take_more, map_push, length-map, length-take-le}, Option.{slice_get-get_or}}
use Rattle.std.specs.Prelude.{replicate, slice_get, IfSome}
use Rattle.perf_base.specs.declared.{attr.{Attr.{Attr}, Kind.{Kind}}, lines.{KindLine.{KindLine}, ToolLine.{ToolLine}}}
use Rattle.attr_bytes.specs.{declared.raw.RawAttr.{RawAttr}, Standing.{StandsFor}, Kinds.{kind_numbered}}
use Rattle.script_spec.specs.{Forms.{Opening}, Meaning.{open_line, bytes_attr, task_sel, cpu_sel, kind_of_bytes}}

-- an attribute that was read, opened there
abbrev attr_by : Opening → RawAttr → Kind → Attr
attr_by p raw k = record { kind = k; task = task_sel p.task; cpu = cpu_sel p.cpu; period = raw.period; sample = raw.sample; format = raw.format; flags = raw.flags }

attr_is : (p : Opening) (bytes : List ℕ) (raw : RawAttr) (k : Kind) → StandsFor bytes raw → attr_by p raw k ≡ bytes_attr p bytes k
attr_is p bytes raw k h = rw (h.period, h.sample, h.format) (ap (λ n. record (bytes_attr p bytes k) { flags = record { 0 = n } }) h.flags)

pub kind_by_bytes : (kinds : List KindLine) (bytes : List ℕ) (raw : RawAttr) (k : Option Kind) → StandsFor bytes raw → k ≡ kind_numbered (length kinds) raw.class raw.config → k ≡ kind_of_bytes kinds bytes
kind_by_bytes kinds bytes raw k h e = rw (h.class, h.config) at e

pub opened_by_bytes : (p : Opening) (bytes : List ℕ) (raw : RawAttr) (k : Kind) (named : Option Kind) (line : ToolLine) → StandsFor bytes raw → Some k ≡ named → line ≡ open_line p (λ x. attr_by p raw x) k
    → Some line ≡ option_map (open_line p (bytes_attr p bytes)) named
opened_by_bytes p bytes raw k named line h n e = grind (arith, Some, attr_is, option_map)
