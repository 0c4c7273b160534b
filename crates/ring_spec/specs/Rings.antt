-- believed
-- The rings of a script over an order: what was sent to each and seen of it, which orders are lawful, and how many
-- records of a family were lost. This project's own profile, after lost_samples of struct perf_event.
use Rattle.std.specs.Prelude.{◌≡◌, ℕ, ◌*◌, ◌≤◌, ◌==◌, Bool, All, List, [], ◌∷◌, ◌++◌, length, map, take, filter, fold, find, sum_by, Option, Some, None, if◌then◌else◌}
use Rattle.perf_base.specs.FlatMaps.{flat_map_after}
use Rattle.perf_base.specs.{declared.{numbers.{EventNo.{EventNo}, RingNo.{RingNo}}, acts.Act.{Act}}, Scripts.{Scripted}}
use Rattle.stage_spec.specs.{Hardware.{Hardware, hardware_of}, Stage.{Stage}, Order.{IsLawful, IsLawfulAct, IsLawfulSeen}}
use Rattle.stage_spec.specs.History.{Step, CpuStep, ToolStep, SeenStep, history, opening_stage}
use Rattle.ring_spec.specs.{Records.{record_size, words_of, IsRecord}, Whole.{IsWhole}, Sending.{SentSample, sent_after, sent_by_steps}}
use Rattle.ring_spec.specs.Account.{RingEvent, Sends, Looks, Account, account, ring_step, is_sent, lost_of}

-- the records among some that go to a ring
abbrev pub is_to : RingNo → RingNo × SentSample → Bool
is_to ring sent = sent.0.0 == ring.0

abbrev pub sends_to : RingNo → List (RingNo × SentSample) → List RingEvent
sends_to ring sents = map (λ sent. Sends sent.1) (filter (is_to ring) sents)

-- a look at a ring's tail
abbrev pub looks_at : RingNo → Step → List RingEvent
looks_at ring (CpuStep cpu line) = []
looks_at ring (ToolStep line) = []
looks_at ring (SeenStep other place) = if other.0 == ring.0 then Looks place ∷ [] else []

-- what a step that sends these records does to a ring
abbrev pub events_by : Step → List (RingNo × SentSample) → RingNo → List RingEvent
events_by x sents ring = looks_at ring x ++ sends_to ring sents

-- what a step does to a ring after some steps, the first of them at a stage
abbrev pub events_after : Hardware → Stage → RingNo → (before : List Step) → Step → List RingEvent
events_after hw s ring before x = events_by x (sent_after hw s before x) ring

-- what some steps do to a ring, the first of them after some others
unfoldable pub events_from : Hardware → Stage → RingNo → (before steps : List Step) → List RingEvent
events_from hw s ring before steps = flat_map_after (events_after hw s ring) before steps

unfoldable pub events_of : Hardware → Stage → List Step → RingNo → List RingEvent
events_of hw s steps ring = events_from hw s ring [] steps

-- a ring's account over the steps: all that was sent to it and seen of it
unfoldable pub account_of : Hardware → Stage → List Step → RingNo × ℕ → Account
account_of hw s steps ring = account ring.1 (events_of hw s steps ring.0)

-- how many records of an event were lost, on whatever ring
unfoldable pub lost_count : Hardware → Stage → List (RingNo × ℕ) → List Step → EventNo → ℕ
lost_count hw s rings steps e = sum_by (λ ring. lost_of e (account_of hw s steps ring)) rings

-- The records that are sent to a ring over the steps are those among all that the steps send which go to it, in their
-- order.
abbrev pub SendsLaw : Type 0
SendsLaw = (hw : Hardware) (s : Stage) (steps : List Step) (ring : RingNo)
    → filter is_sent (events_of hw s steps ring) ≡ sends_to ring (sent_by_steps hw s steps)

-- what one more step adds to a ring's account
abbrev pub AccountLaw : Type 0
AccountLaw = (hw : Hardware) (s : Stage) (steps : List Step) (x : Step) (ring : RingNo × ℕ)
    → account_of hw s (steps ++ x ∷ []) ring ≡ fold (ring_step ring.1) (account_of hw s steps ring) (events_after hw s ring.0 steps x)

-- What is written on a ring are records of lawful sizes.
abbrev pub SizesLaw : Type 0
SizesLaw = (hw : Hardware) (s : Stage) (steps : List Step) (ring : RingNo × ℕ) → All IsRecord (account_of hw s steps ring).written

-- On no ring are more than 9 words written for each record that is sent: a sample has at most 9, and a LOST record of
-- at most 9 with its trailer comes only where a record was lost.
abbrev pub RingWordsLaw : Type 0
RingWordsLaw = (hw : Hardware) (s : Stage) (steps : List Step) (ring : RingNo × ℕ)
    → length (words_of (account_of hw s steps ring).written) ≤ 9 * length (sent_by_steps hw s steps)

-- A look is lawful where it is not below the last one, and the words before its place are whole.
abbrev pub WholeLookLaw : Type 0
WholeLookLaw = (hw : Hardware) (s : Stage) (steps : List Step) (ring : RingNo × ℕ) (last n : ℕ)
    → let words : List ℕ = take n (words_of (account_of hw s steps ring).written) in
    IsWhole words → last ≤ 8 * length words → IsLawfulSeen (map record_size (account_of hw s steps ring).written) last (8 * length words)

-- the declared size of a ring, and the sizes of the records written on it after some acts of a script
abbrev pub bytes_in : Option (RingNo × ℕ) → ℕ
bytes_in None = 0
bytes_in (Some ring) = ring.1

abbrev pub bytes_of : Scripted → RingNo → ℕ
bytes_of s ring = bytes_in (find (λ r. r.0.0 == ring.0) s.rings)

abbrev pub account_in : Scripted → List Act → RingNo × ℕ → Account
account_in s acts ring = account_of (hardware_of s) (opening_stage s) (history s acts) ring

abbrev pub sizes_in : Scripted → List Act → RingNo → List ℕ
sizes_in s acts ring = map record_size (account_in s acts (ring, bytes_of s ring)).written

-- An order of a script is lawful where each look at a ring's tail is, after the acts before it.
abbrev pub IsLawfulOrder : Scripted → List Act → Type 0
IsLawfulOrder s order = IsLawful (sizes_in s) order

-- what one more act asks of a lawful order: that it is lawful itself
abbrev pub LawfulLaw : Type 0
LawfulLaw = (s : Scripted) (order : List Act) (a : Act) → IsLawfulOrder s order → IsLawfulAct (sizes_in s order) order a → IsLawfulOrder s (order ++ a ∷ [])
