-- What a new period leaves, and the share of each instance.
use Rattle.std.specs.Prelude.{◌≡◌, ◌≢◌, ℕ, Bool, true, false, length, Some, None}
use Rattle.std.proofs.{Common.{arith, refl, sym, ap, ◌∙◌, inl, inr}, lemmas.Bool.{cases_eq}}
use Rattle.perf_base.specs.declared.numbers.{EventNo.{EventNo}, Key.{Key}}
use Rattle.perf_base.specs.declared.lines.ToolLine.TheVariants as line
use Rattle.stage_spec.specs.{declared.instance.Instance.{Instance}, Commands.{period_refusal}, Hardware.{Hardware}, History.{Step, ToolStep}}
use Rattle.stage_spec.specs.{Remainders.{period_unless, new_period, left_by_period, left_by_hits}, Shares.{share}, Stage.{Stage, is_original}}
use Rattle.stage_spec.proofs.Recurrence.{plus-none}
use Rattle.world_spec.specs.{Kept.{IsKept, post_at}, StageOf.{stage_of}, Stepping.{HasItsShare}}
use Rattle.world_spec.specs.Value.{World, is_live, instance_at, account_at, family_of}
use Rattle.world_spec.proofs.{Families.{stands-original}, Keys.{key-is, is_key-other, times-cons, once-false}, Lines.{KeepsSlots}, Quiet.{none-after}}
use Rattle.world_spec.proofs.{Stepping.{instance-found}, Tables.{posts-same, same_number}}
use Rattle.event_commands.{specs.Commands.{HasPeriod}, proofs.{Families.{not-copy}, Found.{found-passes}, Targets.{original-in}}}

-- the posts of the instances are as they were
posts-stay : (w new : World) (e : EventNo) (period : ℕ) → IsKept w.hardware w → HasPeriod e period w new → post_at new ≡ post_at w
posts-stay w new e period h given =
    ap post_at given.world
    ∙ posts-same (λ i. record i { attr = record i.attr { period = period } }) (λ there y. refl) w given.original (original-in w.hardware w e given.original h given.named).0

pub period-slots : (w new : World) (e : EventNo) (period : ℕ) → IsKept w.hardware w → HasPeriod e period w new → KeepsSlots w new
period-slots w new e period h given = record {
  hardware = ap (λ (y : World). y.hardware) given.world;
  contexts = λ k live. ap (λ at. (at k).context) (posts-stay w new e period h given);
  opened = λ slot some. grind (arith, given.world);
  used = ap (λ (y : World). y.quiet.used) given.world;
  folded = ap (λ (y : World). y.folded) given.world;
  lost = ap (λ (y : World). y.lost) given.world;
  running = ap (λ (y : World). length y.quiet.running) given.world;
  clocks = ap (λ (y : World). y.quiet.clocks) given.world;
  totals = ap (λ (y : World). y.quiet.totals) given.world;
  next_id = ap (λ (y : World). y.quiet.next_id) given.world;
}

-- of all live instances it is the original alone
is-its : (e : EventNo) (i : Instance) → i.event ≡ e → i.copy ≡ false → is_original e i ≡ true
is-its e i same first = grind (arith, same_number)

not-its : (w : World) (e : EventNo) (k original : Key) → IsKept w.hardware w → is_live w k ≡ true → (family_of w e).original ≡ Some original → k.0 ≢ original.0
    → is_original e (instance_at w k) ≡ false
not-its w e k original h live named apart = grind (arith, stands-original, times-cons, once-false, is_key-other)

set-for : (w : World) (e : EventNo) (period : ℕ) (k : Key) (b : Bool) → IsKept w.hardware w → period_refusal (stage_of w) e period ≡ None → is_live w k ≡ true → is_original e (instance_at w k) ≡ b
    → new_period (stage_of w) (ToolStep (line.Period e period)) (instance_at w k).id ≡ period_unless None b period
set-for w e period k b h accepted live is = grind (arith, found-passes, found-passes w.hardware w k (is_original e) h live ∙ is)

pub period-share : (w new : World) (e : EventNo) (period : ℕ) (k : Key) → IsKept w.hardware w → period_refusal (stage_of w) e period ≡ None → HasPeriod e period w new → is_live new k ≡ true
    → HasItsShare w.hardware w new (ToolStep (line.Period e period)) k
unfolding share
period-share w new e period k h accepted given there =
    let hw : Hardware = w.hardware in
    let s : Stage = stage_of w in
    let step : Step = ToolStep (line.Period e period) in
    let id : ℕ = (instance_at w k).id in
    let original : Key = given.original in
    let left : ℕ = (account_at w k).left in
    let live : is_live w k ≡ true = sym (ap (λ at. (at k).live) (posts-stay w new e period h given)) ∙ there in
    let ids : (instance_at new k).id ≡ id = ap (λ at. (at k).id) (posts-stay w new e period h given) in
    elim (cases_eq k.0 original.0) [
      | inl same ↦
          let here = original-in w.hardware w e original h given.named in
          let first : (instance_at w original).copy ≡ false = not-copy w.hardware w e original h given.named in
          grind (arith, key-is, same, is-its, plus-none, set-for)
      | inr apart ↦
          let fails : is_original e (instance_at w k) ≡ false = not-its w e k original h live given.named apart in
          record {
            live = live;
            id = ids;
            sums = ap (λ a. a.sums) (given.accounts k apart) ∙ sym (plus-none (account_at w k).sums);
            left = ap (λ a. a.left) (given.accounts k apart)
                ∙ sym (ap (λ o. left_by_period hw s step id o left) (set-for w e period k false h accepted live fails)
                ∙ (ap (λ o. left_by_hits hw s step id o left) (instance-found hw w k h live) ∙ none-after (instance_at w k).attr.period left));
          }
    ]
