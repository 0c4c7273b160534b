-- inner
-- How the answer to an act is kept. This project's own profile.
use Rattle.std.specs.Prelude.{◌≡◌, ℕ, List, [], ◌∷◌, ◌++◌, Option, Some, None}
use Rattle.perf_base.specs.declared.{acts.{Act.{Act}, Actor.{Actor}}, reply.{Answer.{Answer}, Reply.{Reply}}}
use Rattle.perf_base.specs.declared.acts.Act.TheVariants as act
use Rattle.perf_base.specs.declared.acts.Actor.TheVariants as actor
use Rattle.machine.specs.{Stepped.{StaysIfRefused}, Leading.{Kept, done_by}}

-- whose line an act does next, and its number; a look does none
abbrev pub next_line : Kept → Act → Option (Actor × ℕ)
next_line m (act.Processor cpu) = Some (actor.Processor cpu, done_by (actor.Processor cpu) m)
next_line m (act.Tool tool) = Some (actor.Tool tool, done_by (actor.Tool tool) m)
next_line m (act.Seen ring place) = None

-- the line that an act does, if it does one, and the answer that is kept
abbrev pub line_in : Option (Actor × ℕ) → List (Actor × ℕ)
line_in None = []
line_in (Some line) = line ∷ []

abbrev pub kept : Option (Actor × ℕ) → Reply → List Answer
kept None reply = []
kept (Some line) reply = record { actor = line.0; number = line.1; reply = reply } ∷ []

-- The answer to an act is kept behind the others. Where it is a refusal the machine's world is as it was before the
-- act.
abbrev pub KeepsAnswer : Option (Actor × ℕ) → (m after : Kept) → (before now : List Answer) → Type 0
KeepsAnswer line m after before now = (reply : Reply) × (now ≡ before ++ kept line reply) × StaysIfRefused m.world after.world reply
