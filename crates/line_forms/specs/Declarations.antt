-- inner
-- What the words of a line that declares something give, behind its first. This project's own profile.
use Rattle.std.specs.{Prelude.{ℕ, List, [], codes, Option, Some, None, option_map, if◌then◌else◌}, Str.{bytes_eq}}
use Rattle.script_spec.specs.Forms.{Version, Form, version_text}
use Rattle.script_spec.specs.Forms as form
use Rattle.line_forms.specs.{Words.{◌>>=◌, next_of, end_of}, Leaves.{decimal_at, hexadecimal_at, name_at}, Shapes.{at_end, one_number}}

unfoldable pub perf_at : Version → List (List ℕ) → Option Form
perf_at version words = do
  word ← next_of words
  e ← end_of word.1
  if bytes_eq word.0 (version_text version) then Some (form.Perf version) else None

unfoldable pub machine_at : List (List ℕ) → Option Form
machine_at words = do
  cpus ← decimal_at (codes "cpus=") words
  counters ← decimal_at (codes "counters=") cpus.1
  at_end counters.1 (form.Machine cpus.0 counters.0)

unfoldable pub machine_of_pmus_at : List (List ℕ) → Option Form
machine_of_pmus_at words = do
  cpus ← decimal_at (codes "cpus=") words
  at_end cpus.1 (form.MachineOfPmus cpus.0)

unfoldable pub pmu_at : List (List ℕ) → Option Form
pmu_at words = do
  n ← decimal_at [] words
  counters ← decimal_at (codes "counters=") n.1
  cpus ← hexadecimal_at (codes "cpus=") counters.1
  at_end cpus.1 (form.Pmu n.0 counters.0 cpus.0)

unfoldable pub kind_at : List (List ℕ) → Option Form
kind_at words = do
  n ← name_at [] words
  mask ← hexadecimal_at (codes "mask=") n.1
  at_end mask.1 (form.Kind n.0 mask.0)

unfoldable pub kind_of_pmu_at : List (List ℕ) → Option Form
kind_of_pmu_at words = do
  n ← name_at [] words
  pmu ← decimal_at (codes "pmu=") n.1
  mask ← hexadecimal_at (codes "mask=") pmu.1
  at_end mask.1 (form.KindOfPmu n.0 pmu.0 mask.0)

abbrev pub task_at : List (List ℕ) → Option Form
task_at words = option_map form.Task (one_number words)

unfoldable pub ring_at : List (List ℕ) → Option Form
ring_at words = do
  n ← decimal_at [] words
  bytes ← decimal_at (codes "bytes=") n.1
  at_end bytes.1 (form.Ring n.0 bytes.0)

abbrev pub processor_at : List (List ℕ) → Option Form
processor_at words = option_map form.Processor (one_number words)

abbrev pub tool_at : List (List ℕ) → Option Form
tool_at words = option_map form.Tool (one_number words)

unfoldable pub reader_at : List (List ℕ) → Option Form
reader_at words = do
  ring ← decimal_at [] words
  tries ← decimal_at (codes "tries=") ring.1
  batch ← decimal_at (codes "batch=") tries.1
  at_end batch.1 (form.Reader ring.0 tries.0 batch.0)

abbrev pub end_at : List (List ℕ) → Option Form
end_at words = at_end words form.End
