-- inner
-- What is written of an answer. This project's own profile.
use Rattle.std.specs.{Prelude.{ℕ, List, [], ◌∷◌, ◌++◌, codes, decimal}, Option.{unwrap_or}}
use Rattle.perf_base.specs.{declared.{acts.Actor.{Actor}, numbers.EventNo.{EventNo}, reply.Reply.{Reply}}, Scripts.{Scripted}}
use Rattle.report_spec.specs.Report.{actor_text, answer_text, line_word}

-- the slot of an event and the counter that it has, a space before them
abbrev pub seat_text : EventNo × ℕ → List ℕ
seat_text s = 32 ∷ decimal s.0.0 ++ codes "=" ++ decimal s.1

-- the words of an answer, a space before each; none of a plain Ok
abbrev pub said : Reply → List ℕ
said r = unwrap_or (answer_text r) []

-- the line of an answer up to its words: the actor, a dot, the number of its line, that line's first word
abbrev pub line_start : Scripted → Actor → ℕ → List ℕ
line_start s who n = actor_text who ++ ((codes "." ++ decimal n) ++ (codes " " ++ line_word s who n))
