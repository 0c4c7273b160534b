-- Which rule refuses a group, worked out by hand.
use Rattle.std.{specs.Prelude.{◌≡◌, Bool, true, false, Option, Some, None}, proofs.Common.{refl}}
use Rattle.perf_base.specs.declared.{numbers.EventNo.{EventNo}, standing.Rule.{Rule}}
use Rattle.perf_base.specs.declared.standing.Rule.TheVariants as rule
use Rattle.stage_spec.specs.Rules.{ruling_of, refusal_by}
use Rattle.worked_theorems.proofs.answers.Words.{slot}

-- The rule that refuses a group. It goes by whether the group is wholly software and whether it is exclusive, by the
-- exclusive group that is on, the first hardware group that is on, and the first group that was refused before.
abbrev refused : (software exclusive : Bool) (exclusive_on first_on before : Option EventNo) → Option Rule
refused software exclusive exclusive_on first_on before = refusal_by (ruling_of software exclusive exclusive_on first_on before)

-- three groups
abbrev a : Option EventNo
a = Some (slot 4)

abbrev b : Option EventNo
b = Some (slot 5)

abbrev c : Option EventNo
c = Some (slot 6)

-- A wholly software group goes on, whatever else holds.
pub software_goes : refused true true a b c ≡ None
software_goes = refl

-- The exclusive group that is on refuses every other.
pub an_exclusive_group_is_on : refused false false a b c ≡ Some (rule.Exclusive (slot 4))
an_exclusive_group_is_on = refl

pub an_exclusive_group_is_on_alone : refused false true a None None ≡ Some (rule.Exclusive (slot 4))
an_exclusive_group_is_on_alone = refl

-- An exclusive group is refused by the first hardware group that is on, and that comes before an earlier refusal.
pub an_exclusive_group_finds_another : refused false true None b c ≡ Some (rule.ExclusiveSelf (slot 5))
an_exclusive_group_finds_another = refl

-- The first group that was refused before refuses every later hardware group.
pub an_exclusive_group_after_a_refusal : refused false true None None c ≡ Some (rule.Earlier (slot 6))
an_exclusive_group_after_a_refusal = refl

pub a_plain_group_after_a_refusal : refused false false None b c ≡ Some (rule.Earlier (slot 6))
a_plain_group_after_a_refusal = refl

-- No rule refuses these.
pub a_plain_group_beside_another : refused false false None b None ≡ None
a_plain_group_beside_another = refl

pub an_exclusive_group_alone : refused false true None None None ≡ None
an_exclusive_group_alone = refl
