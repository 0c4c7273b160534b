-- inner
-- How many records the reader of a ring took, and which rings were never looked at. This project's own profile.
use Rattle.std.specs.Prelude.{◌≡◌, ℕ, ◌*◌, ◌≤◌, All, List, length, take}
use Rattle.perf_base.specs.{declared.{numbers.RingNo.{RingNo}, acts.Act.{Act}}, Scripts.{Scripted}}
use Rattle.stage_spec.specs.Order.{last_seen}
use Rattle.ring_spec.specs.{Records.{Record, words_of}, Rings.{account_in}}
use Rattle.report_spec.specs.Answers.{IsRunShaped, taken_from, taken_of, IsNoLook}

-- Where a tail stands at most behind the first n records, the reader took at most n.
abbrev pub FewTakenLaw : Type 0
FewTakenLaw = (records : List Record) (n tail : ℕ) → tail ≤ 8 * length (words_of (take n records)) → length (taken_from tail 0 records) ≤ n

abbrev pub FewTakenOfLaw : Type 0
FewTakenOfLaw = (s : Scripted) (order : List Act) (ring : RingNo × ℕ) (n : ℕ)
    → (account_in s order ring).tail ≤ 8 * length (words_of (take n (account_in s order ring).written)) → length (taken_of (account_in s order ring)) ≤ n

-- A run-shaped order that saw a ring's tail last at 0 has no look at that ring, since each look is above the last one.
abbrev pub NeverSeenLaw : Type 0
NeverSeenLaw = (order : List Act) (ring : RingNo) → IsRunShaped order → last_seen ring order ≡ 0 → All (IsNoLook ring) order
