-- inner
-- What the words of a line under a processor give, behind its first. This project's own profile.
use Rattle.std.specs.{Prelude.{ℕ, List, [], length, codes, Option, Some, None, option_map, if◌then◌else◌}, Str.{bytes_eq}}
use Rattle.perf_base.specs.declared.lines.Mode.{Mode}
use Rattle.perf_base.specs.declared.lines.Mode.TheVariants as mode
use Rattle.script_spec.specs.Forms.{CpuForm}
use Rattle.script_spec.specs.Forms as form
use Rattle.line_forms.specs.{Words.{◌>>=◌, next_of}, Leaves.{decimal_at, decimal_or, number_if}, Shapes.{at_end, one_number}}
use Rattle.line_forms.specs.Lists.{each_word, hit_in}

abbrev pub mode_in : List ℕ → Option Mode
mode_in word = if bytes_eq word (codes "user") then Some mode.User else if bytes_eq word (codes "kernel") then Some mode.Kernel else None

-- the length, the mode and the ip of a work line
unfoldable pub stretch_at : List (List ℕ) → Option ((ℕ × Mode × Option ℕ) × List (List ℕ))
stretch_at words = do
  length ← decimal_at [] words
  word ← next_of length.1
  m ← mode_in word.0
  Some ((length.0, m, (number_if (codes "ip=") 16 16 word.1).0), (number_if (codes "ip=") 16 16 word.1).1)

unfoldable pub work_at : List (List ℕ) → Option CpuForm
work_at words = do
  s ← stretch_at words
  hits ← each_word hit_in s.1
  Some (form.Work (record { length = s.0.0; mode = s.0.1; ip = s.0.2; hits = hits }))

unfoldable pub switch_at : List (List ℕ) → Option CpuForm
switch_at words = do
  task ← decimal_or [] (codes "idle") words
  at_end task.1 (form.Switch task.0)

abbrev pub tick_at : List (List ℕ) → Option CpuForm
tick_at words = at_end words form.Tick

abbrev pub fork_at : List (List ℕ) → Option CpuForm
fork_at words = option_map form.Fork (one_number words)

abbrev pub exit_at : List (List ℕ) → Option CpuForm
exit_at words = at_end words form.Exit
