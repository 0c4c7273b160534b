-- One copy that comes.
use Rattle.std.{specs.Prelude.{◌≡◌, ℕ, true, false, Some, None, Option}, proofs.Common.{sym, ap, ◌∙◌}}
use Rattle.perf_base.specs.declared.{attr.Attr.{Attr}, numbers.{EventNo.{EventNo}, Key.{Key}, TaskNo.{TaskNo}}}
use Rattle.perf_base.specs.declared.standing.Context.TheVariants as context
use Rattle.stage_spec.specs.{declared.instance.Instance.{Instance}, Forks.{present_period}, Hardware.{Hardware}, Stage.{original_of}}
use Rattle.world_spec.specs.{Value.{World, is_live, instance_at, family_of}, StageOf.{stage_of}, Kept.{IsKept}, Adding.{Newcomer, add}}
use Rattle.world_spec.{specs.{Comings.{MayCome}, Copying.{copy_from}, Staying.{HasCome}}, proofs.{Families.{original-is}, Staying.{add-stays}}}
use Rattle.perf_world.specs.Parts.{MayAdd, newcomer}

-- the present period is that of the original
pub period-is : (hw : Hardware) (w : World) (i : Instance) (origin : Key) → IsKept hw w → (family_of w i.event).original ≡ Some origin
    → present_period (original_of (stage_of w) i.event) i.attr ≡ (instance_at w origin).attr.period
period-is hw w i origin h is = ap (λ o. present_period o i.attr) (original-is hw w i.event h ∙ ap (λ o. elim o as (λ x. Option Instance) [ None ↦ None | Some k ↦ Some (instance_at w k) ]) is)

pub may-come : (w : World) (k : Key) (n : Newcomer) → is_live w k ≡ false → MayAdd w n → MayCome w.hardware w k n
may-come w k n fresh may = record {
  fresh = fresh;
  slot = may.slot;
  place = may.place;
  known = may.known;
  kind = may.kind;
  first_there = may.first_there;
  fitting = may.fitting;
  room = may.ids;
}

pub has-come : (w : World) (k : Key) (n : Newcomer) → IsKept w.hardware w → is_live w k ≡ false → MayAdd w n → HasCome w (add k n w) k n
has-come w k n h fresh may = add-stays w.hardware w k n h (may-come w k n fresh may) may.group

-- what comes is the copy
pub same-newcomer : (hw : Hardware) (w : World) (i : Instance) (event : EventNo) (attr : Attr) (period : ℕ) (origin : Key) (child : TaskNo) (leader : Option Key) → IsKept hw w
    → event ≡ i.event → attr ≡ i.attr → period ≡ (instance_at w origin).attr.period → (family_of w i.event).original ≡ Some origin
    → newcomer event (record attr { period = period }) leader (Some origin) (context.Task child) ≡ copy_from w child i leader
same-newcomer hw w i event attr period origin child leader h same_event same_attr same_period is =
    let now : period ≡ present_period (original_of (stage_of w) i.event) i.attr = same_period ∙ sym (period-is hw w i origin h is) in
    λ x. record { event = same_event x; attr = record (same_attr x) { period = now x }; copy = true; context = context.Task child; leader = leader }
