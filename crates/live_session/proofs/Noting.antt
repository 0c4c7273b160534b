-- The note of an answer other than Done.
use Rattle.std.specs.Prelude.{◌≡◌, Result}
use Rattle.std.proofs.Common.{refl}
use Rattle.perf_io.specs.{declared.outside.Failed.{Failed}, Outside.{SinkShows}, Wrote.{Wrote}}
use Rattle.live_session.specs.{Outcome.{IsNoted}, Texts.{note_of}, declared.status.Status.{Status}}
use Rattle.live_session.specs.declared.status.Status.TheVariants as status

pub other-noted : {N : Type 0} (shows : SinkShows N) (s : Status) (wrote : Result (Unit {0}) Failed) (before after : N) → (s ≡ status.Done → ⊥) → Wrote shows before after wrote (note_of s) → IsNoted shows s before after
other-noted shows status.Done wrote before after other h = absurd (other refl)
other-noted shows s wrote before after other h = (wrote, h)
