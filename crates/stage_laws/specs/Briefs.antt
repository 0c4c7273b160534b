-- inner
-- The verdicts of a processor's groups from what they need alone. After ctx_sched_in, merge_sched_in and
-- group_can_go_on of kernel/events/core.c; whom a refusal names is this project's own profile.
use Rattle.std.specs.Prelude.{ℕ, Bool, not, List, [], ◌∷◌, ◌++◌, map, filter, find, flat_map, Option, option_map}
use Rattle.perf_base.specs.{declared.{numbers.EventNo.{EventNo}, standing.Standing.{Standing}}, Standings.{stands_on, stands_refused}}
use Rattle.stage_spec.specs.{Rules.{ruling_of}, Verdict.{by_ruling}}

-- what a verdict needs to know of a group: its leader, by whatever names it, and the leader's slot, whether the group
-- is wholly software and exclusive, and the slots and masks of its ready hardware members
pub record GroupBrief (Leader : Type 0) : Type 0 where
  pub leader : Leader
  pub slot : EventNo
  pub software : Bool
  pub exclusive : Bool
  pub counted : List (EventNo × ℕ)

-- a brief and what was said of it
pub record JudgedBrief (Leader : Type 0) : Type 0 where
  pub brief : GroupBrief Leader
  pub standing : Standing

-- the briefs of the groups that are on, the slot of the first that passes a test, and that of the first that was
-- refused
abbrev pub briefs_on : {Leader : Type 0} → List (JudgedBrief Leader) → List (GroupBrief Leader)
briefs_on judged = map (λ j. j.brief) (filter (λ j. stands_on j.standing) judged)

abbrev pub first_slot : {Leader : Type 0} → (GroupBrief Leader → Bool) → List (GroupBrief Leader) → Option EventNo
first_slot test bs = option_map (λ b. b.slot) (find test bs)

abbrev pub first_brief_refused : {Leader : Type 0} → List (JudgedBrief Leader) → Option EventNo
first_brief_refused judged = option_map (λ j. j.brief.slot) (find (λ j. stands_refused j.standing) judged)

-- the events of the groups that are on, with the counters that can count them
abbrev pub seated_by : {Leader : Type 0} → List (JudgedBrief Leader) → List (EventNo × ℕ)
seated_by judged = flat_map (λ b. b.counted) (briefs_on judged)

-- What is said of a group after those of earlier passes and those within its own pass: the rules decide first, and else
-- the counters do.
unfoldable pub judge_brief : {Leader : Type 0} → (before within : List (JudgedBrief Leader)) → GroupBrief Leader → Standing
judge_brief before within b = by_ruling (ruling_of b.software b.exclusive (first_slot (λ c. c.exclusive) (briefs_on (before ++ within)))
    (first_slot (λ c. not c.software) (briefs_on (before ++ within))) (first_brief_refused within))
    (seated_by (before ++ within) ++ b.counted)

-- the groups of one pass, judged one after the other
unfoldable pub judge_briefs : {Leader : Type 0} → (before within : List (JudgedBrief Leader)) → List (GroupBrief Leader) → List (JudgedBrief Leader)
judge_briefs before within [] = within
judge_briefs before within (b ∷ bs) = judge_briefs before (within ++ record { brief = b; standing = judge_brief before within b } ∷ []) bs

-- the groups of some passes, judged one pass after the other
unfoldable pub judge_brief_passes : {Leader : Type 0} → List (JudgedBrief Leader) → List (List (GroupBrief Leader)) → List (JudgedBrief Leader)
judge_brief_passes before [] = before
judge_brief_passes before (pass ∷ rest) = judge_brief_passes (before ++ judge_briefs before [] pass) rest

-- the standings, each with its leader
abbrev pub standings_by : {Leader : Type 0} → List (JudgedBrief Leader) → List (Leader × Standing)
standings_by judged = map (λ j. (j.brief.leader, j.standing)) judged
