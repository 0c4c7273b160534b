-- inner
-- What the script of a text is printed as, and how a text and its printed text went. This project's own profile.
use Rattle.std.specs.Prelude.{◌≡◌, ◌↔◌, ◌<◌, ◌≤◌, ⊤, ℕ, List, length, IsTrue}
use Rattle.perf_base.specs.Scripts.{Scripted}
use Rattle.script_spec.specs.Texts.{StandsFor}
use Rattle.script_spec.specs.Printing as printing
use Rattle.perf_ask.specs.{Notes.{note_of, number_of}, declared.status.Status.{Status}}
use Rattle.perf_ask.specs.declared.asked.Asked.TheVariants as asked
use Rattle.case_verdicts.specs.{Expectations.{Allows, has_script}, Written.{IsOutcome}}
use Rattle.case_verdicts.specs.declared.{case.Expected.{Expected}, again.Again.{Again}, printed.Printed.{Printed}, verdict.Verdict.{Verdict}}
use Rattle.case_verdicts.specs.declared.again.Again.TheVariants as again
use Rattle.case_verdicts.specs.declared.printed.Printed.TheVariants as printed
use Rattle.case_verdicts.specs.declared.verdict.Verdict.TheVariants as verdict

-- what a script is printed as: its printed text, which stands for it
abbrev pub IsPrintOf : Scripted → List ℕ → Type 0
IsPrintOf s bytes = (bytes ≡ printing.printed s) × StandsFor bytes s

-- what the script of a text is printed as, where it has one and is not too long
abbrev pub IsPrintedOf : List ℕ → Printed → Type 0
IsPrintedOf text (printed.Text bytes) = (length text ≤ 4194304) × ((s : Scripted) × StandsFor text s × IsPrintOf s bytes.items)
IsPrintedOf text printed.NoScript = (s : Scripted) → StandsFor text s → 4194304 < length text

-- what became of what was printed: a text was replayed
abbrev pub IsRunOf : Printed → Again → Type 0
IsRunOf (printed.Text bytes) (again.Ran answer) = IsOutcome asked.Replay bytes.items answer.status answer.out.held
IsRunOf printed.NoScript again.NoScript = ⊤
IsRunOf p other = ⊥

-- A text that has a script is printed, and its printed text ends with the same number and writes the same. No other
-- text is printed.
abbrev pub AllowsAgain : Expected → ℕ → List ℕ → Again → Type 0
AllowsAgain e number out (again.Ran answer) = IsTrue (has_script e) × (number ≡ number_of answer.status) × (out ≡ answer.out.held)
AllowsAgain e number out again.NoScript = IsTrue (has_script e) → ⊥

-- How a text and its printed text went: they were replayed and ended so, and they went as expected exactly where the
-- case allows the answer's number, what was written, and the answer's note, and the same number and output again.
pub record IsJudged (v : Verdict) (e : Expected) (report text : List ℕ) : Type 0 where
  pub answer : Status
  pub out : List ℕ
  pub print : Printed
  pub again : Again
  pub outcome : IsOutcome asked.Replay text answer out
  pub printed : IsPrintedOf text print
  pub run : IsRunOf print again
  pub judged : v ≡ verdict.AsExpected ↔ Allows e report (number_of answer) out (note_of answer) × AllowsAgain e (number_of answer) out again
