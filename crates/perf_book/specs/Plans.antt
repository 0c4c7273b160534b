-- inner
-- What the threads of a run know of its script. This project's own profile.
use Rattle.std.specs.Prelude.{◌≡◌, ℕ, ◌-◌, ◌≤◌, List, filter, length, map, take, nat_lt, if◌then◌else◌}
use Rattle.perf_base.specs.{declared.{acts.Actor.{Actor}, lines.ReaderLine.{ReaderLine}}, Scripts.{Scripted, lines_of_cpu, lines_of_tool}}
use Rattle.perf_base.specs.declared.acts.Actor.TheVariants as actor
use Rattle.stage_spec.specs.Numbers.{numbers_below}
use Rattle.perf_book.specs.declared.workers.Worker.{Worker}

-- the processors and tools by number: 8 processors, then 4 tools
abbrev pub actor_at : ℕ → Actor
actor_at place = if nat_lt place 8 then actor.Processor (record { 0 = place }) else actor.Tool (record { 0 = place - 8 })

-- how many lines a script gives an actor
abbrev pub count_of : Scripted → Actor → ℕ
count_of s (actor.Processor cpu) = length (lines_of_cpu s cpu)
count_of s (actor.Tool tool) = length (lines_of_tool s tool)
count_of s (actor.Reader ring) = 0
count_of s actor.Watcher = 0

-- those of some processors and tools that have lines
abbrev pub with_lines : List (Actor × ℕ) → List (Actor × ℕ)
with_lines turns = filter (λ turn. nat_lt 0 turn.1) turns

-- the processors and tools below a number that have lines, by number, each with how many
abbrev pub workers_below : Scripted → ℕ → List (Actor × ℕ)
workers_below s n = with_lines (map (λ place. (actor_at place, count_of s (actor_at place))) (numbers_below n))

-- the workers of a run of a script: at most 8 processors and 4 tools
abbrev pub workers_of : Scripted → List (Actor × ℕ)
workers_of s = workers_below s 12

-- whose lines a worker does, and how many
abbrev pub turn_in : Worker → Actor × ℕ
turn_in w = (w.actor, w.lines)

-- the lines of the readers are the first ones
pub record IsPlanned (of readers : List ReaderLine) (count : ℕ) : Type 0 where
  pub few : count ≤ 16
  pub lines : take count readers ≡ of
