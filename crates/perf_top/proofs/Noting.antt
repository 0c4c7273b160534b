-- The note of an answer.
use Rattle.std.{specs.Prelude.{◌≡◌, Result}, proofs.Common.{refl}}
use Rattle.perf_io.specs.{declared.outside.Failed.{Failed}, Outside.{SinkShows}, Wrote.{Wrote}}
use Rattle.perf_ask.specs.{Notes.{note_of}, declared.status.Status.{Status}}
use Rattle.perf_ask.specs.declared.status.Status.TheVariants as status
use Rattle.perf_top.specs.Outcome.{IsNoted}

-- the note of an answer other than Done
pub other-noted : {N : Type 0} (shows : SinkShows N) (answer : Status) (wrote : Result (Unit {0}) Failed) (before after : N)
    → (answer ≡ status.Done → ⊥) → Wrote shows before after wrote (note_of answer) → IsNoted shows answer before after
other-noted shows status.Done wrote before after other h = absurd (other refl)
other-noted shows answer wrote before after other h = (wrote, h)
