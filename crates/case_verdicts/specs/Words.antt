-- inner
-- How the words of a worked case went, with the text that was given to them. This project's own profile.
use Rattle.std.specs.Prelude.{◌≡◌, ◌↔◌, ℕ, List}
use Rattle.perf_ask.specs.{Notes.{note_of, number_of}, declared.status.Status.{Status}}
use Rattle.case_verdicts.specs.{Expectations.{Allows}, Written.{HaveOutcome}, declared.{case.Expected.{Expected}, verdict.Verdict.{Verdict}}}
use Rattle.case_verdicts.specs.declared.verdict.Verdict.TheVariants as verdict

-- The words ended so beside a source that had the text, and they went as expected exactly where the case allows the
-- answer's number, what was written, and the answer's note.
pub record AreJudged (v : Verdict) (e : Expected) (report : List ℕ) (words : List (List ℕ)) (text : List ℕ) : Type 0 where
  pub answer : Status
  pub out : List ℕ
  pub outcome : HaveOutcome words text answer out
  pub judged : v ≡ verdict.AsExpected ↔ Allows e report (number_of answer) out (note_of answer)
