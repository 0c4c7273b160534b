-- inner
-- What the standings of a processor's groups depend on, and settling by standings. After merge_sched_in of
-- kernel/events/core.c; whom a refusal names is this project's own profile.
use Rattle.std.specs.{Prelude.{◌≡◌, ℕ, ◌<◌, false, List, [], map, filter}, List.{list_any}}
use Rattle.perf_base.specs.{declared.{numbers.CpuNo.{CpuNo}, standing.Standing.{Standing}}, Standings.{stands_refused}}
use Rattle.stage_spec.specs.{declared.instance.Instance.{Instance}, Flags.{is_exclusive}, Hardware.{Hardware}}
use Rattle.stage_spec.specs.{Stage.{Stage, Group, Lists, change_each}, Effective.{name_of, is_wholly_software, is_exclusive_group, counted_members}}
use Rattle.stage_spec.specs.{Verdict.{Judged, is_eligible, with_masks, passes, verdicts, standing_among}, Replies.{seated}}
use Rattle.stage_spec.specs.Settle.{failed, settle, IsSettled, pinned_verdicts}
use Rattle.stage_laws.specs.{Briefs.{GroupBrief, judge_brief_passes, standings_by, seated_by}, Sound.{IsNumbered}}

-- the brief of a group of the stage, its leader by its id
abbrev pub brief_of : Hardware → Group → GroupBrief ℕ
brief_of hw g = record {
  leader = g.leader.id;
  slot = name_of g;
  software = is_wholly_software g;
  exclusive = is_exclusive_group g;
  counted = with_masks hw (counted_members g);
}

-- of the eligible groups of a processor, pass by pass
abbrev pub briefs : Hardware → Stage → CpuNo → List (List (GroupBrief ℕ))
briefs hw s cpu = map (λ pass. map (brief_of hw) (filter (is_eligible hw cpu) pass)) (passes s cpu)

-- the standing of each of these groups, with its leader's id
abbrev pub standings : Hardware → Stage → CpuNo → List (ℕ × Standing)
standings hw s cpu = map (λ j. (j.group.leader.id, j.standing)) (verdicts hw s cpu)

-- The law of briefs: standings depend on the briefs in pass order alone.
abbrev pub BriefsLaw : Type 0
BriefsLaw = (hw : Hardware) (cpu : CpuNo) (s t : Stage) → briefs hw s cpu ≡ briefs hw t cpu → standings hw s cpu ≡ standings hw t cpu

-- The standings are those of the briefs, judged pass by pass.
abbrev pub JudgedBriefsLaw : Type 0
JudgedBriefsLaw = (hw : Hardware) (s : Stage) (cpu : CpuNo) → standings hw s cpu ≡ standings_by (judge_brief_passes [] (briefs hw s cpu))

-- So are the hardware events that are on, each with the counters that can count it.
abbrev pub SeatedBriefsLaw : Type 0
SeatedBriefsLaw = (hw : Hardware) (s : Stage) (cpu : CpuNo) → with_masks hw (seated hw s cpu) ≡ seated_by (judge_brief_passes [] (briefs hw s cpu))

-- a change of instances that keeps all that a brief needs, as a new period and another ring do
pub record KeepsBrief (f : Instance → Instance) : Type 0 where
  pub id : (i : Instance) → (f i).id ≡ i.id
  pub event : (i : Instance) → (f i).event ≡ i.event
  pub own : (i : Instance) → (f i).own ≡ i.own
  pub kind : (i : Instance) → (f i).attr.kind ≡ i.attr.kind
  pub cpu : (i : Instance) → (f i).attr.cpu ≡ i.attr.cpu
  pub exclusive : (i : Instance) → is_exclusive (f i).attr ≡ is_exclusive i.attr

-- Such a change leaves the standings, and what is settled stays so.
abbrev pub SameStandingsLaw : Type 0
SameStandingsLaw = (hw : Hardware) (cpu : CpuNo) (s : Stage) (f : Instance → Instance) → KeepsBrief f
    → (standings hw (change_each f s) cpu ≡ standings hw s cpu) × (cpu.0 < 8 → IsSettled hw cpu s → IsSettled hw cpu (change_each f s))

-- the groups of a context with each pinned one that some verdicts refuse in error, by the cause of its verdict
abbrev pub fail_lists : List Judged → Lists → Lists
fail_lists judged l = record l { pinned = map (λ g. failed (standing_among judged g) g) l.pinned }

-- Settling by standings: each eligible pinned group that is refused has its leader in error by the cause of its
-- verdict, and all else is as before.
abbrev pub StandingsLaw : Type 0
StandingsLaw = (hw : Hardware) (cpu : CpuNo) (s : Stage) → IsNumbered s → cpu.0 < 8
    → settle hw cpu s ≡ record s { contexts = map (fail_lists (verdicts hw s cpu)) s.contexts }

-- A processor is settled exactly where no pinned group of it is refused.
abbrev pub SettledLaw : Type 0
SettledLaw = (hw : Hardware) (cpu : CpuNo) (s : Stage) → cpu.0 < 8
    → (IsSettled hw cpu s → list_any (λ j. stands_refused j.standing) (pinned_verdicts hw s cpu) ≡ false)
    × (list_any (λ j. stands_refused j.standing) (pinned_verdicts hw s cpu) ≡ false → IsSettled hw cpu s)
