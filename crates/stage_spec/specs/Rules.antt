-- believed
-- The rules that decide on a group before its counters are looked at, after group_can_go_on and merge_sched_in of
-- kernel/events/core.c, where can_add_hw refuses every later hardware group of a pass once one was refused. The names
-- that a refusal carries are this project's own profile, and so is that an exclusive group looks at all hardware groups
-- that are on, not only at those of its own context and list.
use Rattle.std.specs.Prelude.{Bool, true, false, Option, Some, None}
use Rattle.perf_base.specs.declared.{numbers.EventNo.{EventNo}, standing.Rule.{Rule}}
use Rattle.perf_base.specs.declared.standing.Rule.TheVariants as rule

-- The group goes on, is refused by a rule, or is up to the counters.
pub data Ruling : Type 0 where
  GoesOn : Ruling
  Refuses : Rule → Ruling
  AsksCounters : Ruling

-- It goes by whether the group is wholly software and whether it is exclusive, by the exclusive group that is on and
-- the first hardware group that is on, and by the first group of this pass that was refused before it. The first case
-- that fits decides.
abbrev pub ruling_of : (software exclusive : Bool) (exclusive_on first_on refused : Option EventNo) → Ruling
ruling_of true exclusive exclusive_on first_on refused = GoesOn
ruling_of false exclusive (Some group) first_on refused = Refuses (rule.Exclusive group)
ruling_of false true None (Some group) refused = Refuses (rule.ExclusiveSelf group)
ruling_of false exclusive None first_on (Some group) = Refuses (rule.Earlier group)
ruling_of false exclusive None first_on None = AsksCounters

-- the rule that refuses it, if one does
abbrev pub refusal_by : Ruling → Option Rule
refusal_by GoesOn = None
refusal_by (Refuses rule) = Some rule
refusal_by AsksCounters = None
