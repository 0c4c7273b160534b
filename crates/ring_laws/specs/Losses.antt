-- inner
-- How many records an event loses, and where a ring's head stands. This project's own profile.
use Rattle.std.specs.Prelude.{ℕ, ◌*◌, ◌^◌, ◌<◌, ◌≤◌, ◌≢◌, AllPairs, List, length}
use Rattle.perf_base.specs.{declared.{numbers.{EventNo.{EventNo}, RingNo.{RingNo}}, acts.Act.{Act}}, Scripts.{Scripted, IsScript, IsCovered}}
use Rattle.perf_base.specs.Weight.{weight}
use Rattle.stage_spec.specs.{Hardware.{Hardware, hardware_of}, Stage.{Stage}, History.{Step, history, opening_stage}}
use Rattle.ring_spec.specs.{Sending.{sent_by_steps}, Account.{head_of}, Rings.{account_in, lost_count}}

-- On rings with distinct numbers an event loses no more records, all rings together, than the steps send; and so no
-- more over an order of a script than the script weighs.
abbrev pub FewLostLaw : Type 0
FewLostLaw = (hw : Hardware) (s : Stage) (rings : List (RingNo × ℕ)) (steps : List Step) (e : EventNo) → AllPairs (λ q r. q.0.0 ≢ r.0.0) rings
    → lost_count hw s rings steps e ≤ length (sent_by_steps hw s steps)

abbrev pub FewLostOfScriptLaw : Type 0
FewLostOfScriptLaw = (s : Scripted) (order : List Act) (e : EventNo) → IsScript s → IsCovered s
    → lost_count (hardware_of s) (opening_stage s) s.rings (history s order) e ≤ weight s

-- A ring's head over an order of a script is at most 72 bytes for each unit of the script's weight; so it is below 2 to
-- the 23 where the script is not too heavy.
abbrev pub HeadsLaw : Type 0
HeadsLaw = (s : Scripted) (order : List Act) (ring : RingNo × ℕ) → IsScript s → IsCovered s → head_of (account_in s order ring) ≤ 72 * weight s

abbrev pub SmallHeadsLaw : Type 0
SmallHeadsLaw = (s : Scripted) (order : List Act) (ring : RingNo × ℕ) → IsScript s → IsCovered s → weight s ≤ 65536 → head_of (account_in s order ring) < 2 ^ 23
