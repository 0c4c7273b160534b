-- believed
-- The looks at an event that are published on a page while a script is run, and what `watch` writes of them. This
-- project's own profile, in the place of struct perf_event_mmap_page of perf_event_open(2).
use Rattle.std.specs.Prelude.{◌≡◌, ℕ, Bool, true, false, List, [], ◌∷◌, ◌++◌, length, Contains, codes, decimal, Some}
use Rattle.perf_base.specs.FlatMaps.{flat_map_after}
use Rattle.perf_base.specs.{declared.{numbers.EventNo.{EventNo}, acts.Act.{Act}, reply.Sums.{Sums}}, Scripts.{Scripted}}
use Rattle.perf_base.specs.declared.acts.Act.TheVariants as act
use Rattle.stage_spec.specs.{Stage.{is_open}, Tables.{family_in, stage_in}}
use Rattle.user_page.specs.{declared.look.Look.{Look}, Looks.{zero_look, last_look}}
use Rattle.report_spec.specs.Report.{numbers_text}

-- a look with these sums after so many acts, and the look at an event after some acts of a script, looks at rings among
-- them: what the event has counted by then with its copies
abbrev pub look_of : ℕ → Sums → Look
look_of at sums = record { at = at; count = sums.count; enabled = sums.enabled; running = sums.running }

abbrev pub look_after : Scripted → List Act → EventNo → Look
look_after s acts e = look_of (length acts) (family_in s acts e)

-- Whether an act publishes a look, after the acts before it. A line of a processor or of a tool does where the event is
-- open after it. A look at a ring does not.
abbrev pub publishes : Scripted → (before : List Act) → Act → EventNo → Bool
publishes s before (act.Processor cpu) e = is_open (stage_in s (before ++ act.Processor cpu ∷ [])) e
publishes s before (act.Tool tool) e = is_open (stage_in s (before ++ act.Tool tool ∷ [])) e
publishes s before (act.Seen ring place) e = false

-- what it publishes: the look after it, or none
abbrev pub looks_if : Bool → Look → List Look
looks_if true look = look ∷ []
looks_if false look = []

abbrev pub looks_by : Scripted → (before : List Act) → Act → EventNo → List Look
looks_by s before a e = looks_if (publishes s before a e) (look_after s (before ++ a ∷ []) e)

-- what acts publish, the first of them after some acts
unfoldable pub looks_from : Scripted → (before acts : List Act) → EventNo → List Look
looks_from s before acts e = flat_map_after (λ done a. looks_by s done a e) before acts

-- The looks that an order publishes: one of zeros, and then those of its acts.
unfoldable pub published_looks : Scripted → List Act → EventNo → List Look
published_looks s order e = zero_look ∷ looks_from s [] order e

-- the three sums of a look, a space before each
abbrev pub look_text : Look → List ℕ
look_text look = numbers_text (look.count ∷ look.enabled ∷ look.running ∷ [])

-- the line of the watcher's last look, and that of the last look that was published
abbrev pub watch_line : EventNo → Look → List ℕ
watch_line e look = codes "watch " ++ decimal e.0 ++ codes " at=" ++ decimal look.at ++ look_text look ++ 10 ∷ []

abbrev pub final_line : EventNo → Look → List ℕ
final_line e look = codes "final " ++ decimal e.0 ++ look_text look ++ 10 ∷ []

-- What `watch` writes behind the report of an order: the look that the watcher saw last, which is one of those
-- published, and the last one of these.
pub record IsWatched (s : Scripted) (order : List Act) (e : EventNo) (text : List ℕ) : Type 0 where
  pub seen : Look
  pub final : Look
  pub published : Contains (published_looks s order e) seen
  pub last : last_look (published_looks s order e) ≡ Some final
  pub written : text ≡ watch_line e seen ++ final_line e final
