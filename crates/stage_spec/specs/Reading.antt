-- believed
-- The words of a read, after perf_event_open(2), perf_read_one and perf_read_group of kernel/events/core.c: the word
-- of lost records comes last, and an event in error gives no word. That a sibling under a leader in error gives none
-- either is this project's own profile.
use Rattle.std.specs.Prelude.{ℕ, ◌*◌, ◌==◌, nat_lt, Bool, true, false, not, bit_and, List, [], ◌∷◌, ◌++◌, length, flat_map, Option, Some, None, if◌then◌else◌}
use Rattle.perf_base.specs.declared.{numbers.EventNo.{EventNo}, standing.Own.{Own}, reasons.Reason.{Reason}, reply.Sums.{Sums}}
use Rattle.perf_base.specs.declared.standing.Own.TheVariants as own
use Rattle.perf_base.specs.declared.reasons.Reason.TheVariants as reason
use Rattle.stage_spec.specs.{declared.instance.Instance.{Instance}, Stage.{Stage, Group, members_of, group_size, is_open, original_of, group_of}}
use Rattle.stage_spec.specs.{Effective.{state_in}, Refusals.{first_of, holds_of}}

-- the words that a format asks for: PERF_FORMAT_TOTAL_TIME_ENABLED, TOTAL_TIME_RUNNING, ID, GROUP and LOST
abbrev pub has_format : ℕ → ℕ → Bool
has_format bit format = not (bit_and format bit == 0)

abbrev pub asked : ℕ → ℕ → ℕ → List ℕ
asked bit format word = if has_format bit format then word ∷ [] else []

-- the two times, and what stands of one event beside its value
abbrev pub times_of : ℕ → Sums → List ℕ
times_of format sums = asked 1 format sums.enabled ++ asked 2 format sums.running

abbrev pub marks_of : ℕ → (id lost : ℕ) → List ℕ
marks_of format id lost = asked 4 format id ++ asked 16 format lost

-- the words of one event, and those of one member of a group
abbrev pub words_alone : ℕ → Sums → (id lost : ℕ) → List ℕ
words_alone format sums id lost = sums.count ∷ times_of format sums ++ marks_of format id lost

abbrev pub words_of_member : ℕ → Sums → (id lost : ℕ) → List ℕ
words_of_member format sums id lost = sums.count ∷ marks_of format id lost

-- the words of a group: the number of members, the leader's times, then each member in the order in which they joined
abbrev pub words_of_group : ℕ → (EventNo → Sums) → (EventNo → ℕ) → Group → List ℕ
words_of_group format sums lost g = group_size g ∷ times_of format (sums g.leader.event)
    ++ flat_map (λ i. words_of_member format (sums i.event) i.id (lost i.event)) (members_of g)

-- the words of a read of an event in a group, where it is not in error; the format is its own
abbrev pub words_by : Bool → (EventNo → Sums) → (EventNo → ℕ) → Group → Instance → List ℕ
words_by true sums lost g i = words_of_group i.attr.format sums lost g
words_by false sums lost g i = words_alone i.attr.format (sums i.event) i.id (lost i.event)

abbrev pub words_in : (EventNo → Sums) → (EventNo → ℕ) → Group → Instance → List ℕ
words_in sums lost g i = words_by (has_format 8 i.attr.format) sums lost g i

abbrev pub is_error : Own → Bool
is_error own.Off = false
is_error own.Ready = false
is_error (own.Error cause) = true

-- an event in effective error gives no word
abbrev pub words_unless_error : Bool → List ℕ → List ℕ
words_unless_error true words = []
words_unless_error false words = words

abbrev pub read_words_of : (EventNo → Sums) → (EventNo → ℕ) → Option Group → Option Instance → List ℕ
read_words_of sums lost (Some g) (Some i) = words_unless_error (is_error (state_in g i)) (words_in sums lost g i)
read_words_of sums lost (Some g) None = []
read_words_of sums lost None i = []

-- The words of a read, given what each family has counted and how many of its records were lost.
unfoldable pub read_words : (EventNo → Sums) → (EventNo → ℕ) → Stage → EventNo → List ℕ
read_words sums lost s e = read_words_of sums lost (group_of s e) (original_of s e)

-- how many words a read gives
abbrev pub word_count : Stage → EventNo → ℕ
word_count s e = length (read_words (λ f. record { count = 0; enabled = 0; running = 0 }) (λ f. 0) s e)

-- A read is refused where the event is not open, and where the buffer is smaller than eight bytes for each word.
abbrev pub read_refusal : Stage → EventNo → Option ℕ → Option Reason
read_refusal s e size = first_of ((reason.NoEvent, not (is_open s e)) ∷ (reason.NoSpace, holds_of (λ n. nat_lt n (8 * word_count s e)) size) ∷ [])
