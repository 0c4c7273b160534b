-- inner
-- What is left of a book that was finished. This project's own profile.
use Rattle.std.specs.Prelude.{◌≡◌, ◌≤◌, All, List, length, map}
use Rattle.perf_base.specs.{declared.acts.Act.{Act}, Scripts.{Scripted, IsScript}}
use Rattle.ring_spec.specs.Rings.{account_in, bytes_of}
use Rattle.stage_spec.specs.Order.{last_seen}
use Rattle.sample_ring.specs.RingLists.{InList}
use Rattle.run_end.specs.Ended.{Ran}
use Rattle.machine.specs.Readers.{HaveTaken, IsShown, records_taken, released_in}
use Rattle.report_spec.specs.Answers.{IsAnswered, taken_of}

-- It is of a script, its answers are those to its order, each ring came to what its account over that order says, and
-- the readers have all words that were written.
pub record IsEnd (e : Ran) : Type 0 where
  pub script : IsScript e.script
  pub answered : IsAnswered e.script e.order e.answers
  pub rings : map (λ r. r.ring) e.ends ≡ map (λ r. r.0) e.script.rings
  pub shown : All (λ r. IsShown r.numbers (account_in e.script e.order (r.ring, bytes_of e.script r.ring))) e.ends
  pub taken : HaveTaken e.script e.order e.ins

-- The last look at each ring saw what its reader had released, and no more records stand before it than the reader had
-- taken.
abbrev pub AreParts : Scripted → List Act → InList → Type 0
AreParts s order ins = All (λ r. (last_seen r.0 order ≡ released_in ins r.0) × (length (taken_of (account_in s order r)) ≤ records_taken ins r.0)) s.rings
