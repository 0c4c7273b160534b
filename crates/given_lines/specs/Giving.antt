-- inner
-- What each step of reading a given line gives. This project's own profile.
use Rattle.std.specs.Prelude.{◌≡◌, ℕ, List, ◌∷◌}
use Rattle.perf_base.specs.declared.{acts.Act.{Act}, reasons.SReason.{SReason}}
use Rattle.perf_base.specs.Scripts.{Scripted}
use Rattle.script_spec.specs.{Acts.{act_text}, Lines.{words_of}, Forms.{Version, Form, IsActSpelling}, Faults.{HasAttr}}
use Rattle.script_read.specs.Fault.{AsksThese, IsFirstBroken}
use Rattle.given_lines.specs.declared.given.Given.{Given}
use Rattle.given_lines.specs.Given.{IsWorker, IsOfActor, IsOwnLine, IsInRangeFor, IsNamedFor, Says}

-- a word is that of a processor or tool
pub record IsWorkerWord (word : List ℕ) (a : Act) : Type 0 where
  pub worker : IsWorker a
  pub spelling : IsActSpelling a
  pub is : word ≡ act_text a

-- the line's first word is this actor's, and this stands after the space
pub record IsForActor (line : List ℕ) (a : Act) (behind : List ℕ) : Type 0 where
  pub worker : IsWorker a
  pub spelling : IsActSpelling a
  pub parts : words_of line ≡ act_text a ∷ words_of behind

-- the line is of no actor and form
abbrev pub IsOfNone : List ℕ → Type 0
IsOfNone line = (v : Version) (a : Act) (f : Form) → IsOfActor v line a f → ⊥

-- what each reason asks of a form of an actor
abbrev pub AsksActor : Scripted → Act → Form → SReason → Type 0
AsksActor s a f = AsksThese (IsOwnLine a f) (IsInRangeFor s a f) (HasAttr f) (IsNamedFor s f) (Unit {0}) (Unit {0})

-- the form keeps all of it, and says this line
pub record SaysOfActor (s : Scripted) (a : Act) (f : Form) (g : Given) : Type 0 where
  pub asks : (q : SReason) → AsksActor s a f q
  pub says : Says s a f g

-- the first of it that the form does not keep
abbrev pub RefusesActor : Scripted → Act → Form → SReason → Type 0
RefusesActor s a f = IsFirstBroken (AsksActor s a f)
