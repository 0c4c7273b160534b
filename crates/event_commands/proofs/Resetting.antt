-- Counts that are cleared one after the other, and that processors stand as they stood.
use Rattle.std.specs.{Prelude.{◌≡◌, ◌==◌, Bool, true, false, not, ◌&&◌, List, [], ◌∷◌, None, if◌then◌else◌}, FinMap.{FinMap, contains_key}, List.{list_any}, Option.{unwrap_or}, Ordering.{nat_cmp}}
use Rattle.std.proofs.{Common.{arith, refl, sym, ap, subst, ◌∙◌, inl, inr}, lemmas.Bool.{cases_eq, cases_Bool, false≢true, Decides.{nat_tests}}}
use Rattle.perf_base.specs.declared.numbers.{CpuNo.{CpuNo}, EventNo.{EventNo}, Key.{Key}}
use Rattle.perf_base.specs.declared.lines.ToolLine.TheVariants as line
use Rattle.perf_base.specs.declared.reasons.Reason.TheVariants as reason
use Rattle.stage_spec.specs.{declared.instance.Instance.{Instance}, Commands.{closed_refusal, is_reached, targets}, Hardware.{Hardware}}
use Rattle.stage_spec.specs.{History.{ToolStep}, Recurrence.{after_reset}, Refusals.{first_of}, Shares.{share}, Stage.{all_instances, is_open}}
use Rattle.stage_spec.{specs.Sums.{resets}, proofs.Recurrence.{plus-none}}
use Rattle.world_spec.specs.{Value.{World, Account, no_account, is_live, instance_at, account_at, times}, StageOf.{stage_of}, Kept.{IsKept}}
use Rattle.world_spec.specs.{Changes.{reset_count}, Rescheduled.{IsRescheduled, IsUntouched}, Stepping.{HasItsShare}}
use Rattle.world_spec.proofs.{Lines.{KeepsSlots}, Quiet.{none-after}, Stepping.{instance-found}, Tables.{get-here, get-there, keys-written}}
use Rattle.event_commands.specs.{Changing.{changed, keys_named}, Commands.{from_zero, IsReset}}
use Rattle.event_commands.proofs.{Found.{found-passes}, InTurn.{Updates, updates-in, updates-out, keys-stay}, Named.{named-reached, reached-named}}
use Rattle.event_commands.specs.declared.changing.Command.TheVariants as command

-- accounts alone change
reset-shape : (keys : List Key) (w : World) → changed command.Reset keys w ≡ record w { accounts = (changed command.Reset keys w).accounts }
unfolding changed
reset-shape [] w = refl
reset-shape (k ∷ keys) w = reset-shape keys (reset_count k w)

-- one account
reset-updates : Updates Account command.Reset account_at from_zero
reset-updates = record {
  own = λ w k. ap (λ o. unwrap_or o no_account) (get-here w.accounts k.0 (from_zero (account_at w k)) k.0 refl);
  other = λ w k q apart. ap (λ o. unwrap_or o no_account) (get-there w.accounts k.0 (from_zero (account_at w k)) q.0 apart);
  twice = λ a. refl;
}

-- those of some keys, and no others
all-reset : (hw : Hardware) (w : World) (events : List EventNo) → IsKept hw w → IsReset events w (changed command.Reset (keys_named w events) w)
all-reset hw w events h =
    let keys : List Key = keys_named w events in
    record {
      world = reset-shape keys w;
      keys = keys-stay command.Reset (λ v k. contains_key v.accounts k.0) (λ v k there q. keys-written v.accounts k.0 (from_zero (account_at v k)) there q.0) keys w (λ q some. h.tables.accounts q ∙ (named-reached hw w events q h some).0);
      accounts = λ k live. elim (cases_Bool (is_reached events (instance_at w k))) [
        | inl reached ↦
            updates-in command.Reset account_at from_zero reset-updates k keys w (reached-named hw w events k h live reached) ∙ sym (ap (λ b. if b then from_zero (account_at w k) else account_at w k) reached)
        | inr off ↦ elim (cases_eq (times k keys) 0) [
          | inl none ↦ updates-out command.Reset account_at from_zero reset-updates k keys w none ∙ sym (ap (λ b. if b then from_zero (account_at w k) else account_at w k) off)
          | inr more ↦ absurd (false≢true (sym off ∙ (named-reached hw w events k h (omega (arith, more))).1))
        ]
      ];
    }

pub is-reset : (hw : Hardware) (w new : World) (events named : List EventNo) → IsKept hw w → events ≡ named → new ≡ changed command.Reset (keys_named w events) w → IsReset named w new
is-reset hw w new events named h same is = subst (λ v. IsReset named w v) (sym (is ∙ ap (λ es. changed command.Reset (keys_named w es) w) same)) (all-reset hw w named h)

pub reset-stage : (w new : World) (events : List EventNo) → IsReset events w new → stage_of new ≡ stage_of w
reset-stage w new events h = ap stage_of h.world

-- processors do not see accounts
pub accounts-unseen : (hw : Hardware) (w : World) (accounts : FinMap nat_cmp Account) (cpu : CpuNo) → IsRescheduled hw w cpu → IsRescheduled hw (record w { accounts = accounts }) cpu
accounts-unseen hw w accounts cpu h = grind arith

pub reset-others : (hw : Hardware) (w new : World) (events : List EventNo) (cpu : CpuNo) → IsReset events w new → IsUntouched hw w new cpu
reset-others hw w new events cpu is =
    subst (λ v. IsUntouched hw w v cpu) (sym is.world) (record { briefs = refl; verdicts = refl; seats = refl; rescheduled = accounts-unseen hw w new.accounts cpu })

-- what the line of the reset leaves, and the share of each instance
pub reset-slots : (w new : World) (events : List EventNo) → IsReset events w new → KeepsSlots w new
reset-slots w new events h = subst (KeepsSlots w) (sym h.world) (record {
  hardware = refl;
  contexts = λ k live. refl;
  opened = λ e some. some;
  used = refl;
  folded = refl;
  lost = refl;
  running = refl;
  clocks = refl;
  totals = refl;
  next_id = refl;
})

is-open : (b : Bool) → first_of ((reason.NoEvent, not b) ∷ []) ≡ None → b ≡ true
is-open true h = refl
is-open false h = absurd (cc)

reset-sums : (b : Bool) (a : Account) → (if b then from_zero a else a).sums ≡ after_reset b a.sums
reset-sums true a = refl
reset-sums false a = refl

reset-left : (b : Bool) (a : Account) → (if b then from_zero a else a).left ≡ a.left
reset-left true a = refl
reset-left false a = refl

reset-reaches : (w : World) (e : EventNo) (group : Bool) (k : Key) → IsKept w.hardware w → closed_refusal (stage_of w) e ≡ None → is_live w k ≡ true
    → resets (stage_of w) (ToolStep (line.Reset e group)) (instance_at w k).id ≡ is_reached (targets (stage_of w) e group) (instance_at w k)
reset-reaches w e group k h accepted live =
    let reached : Instance → Bool = is_reached (targets (stage_of w) e group) in
    ap (λ b. b && list_any (λ i. i.id == (instance_at w k).id && reached i) (all_instances (stage_of w))) (is-open (is_open (stage_of w) e) accepted)
    ∙ found-passes w.hardware w k reached h live

pub reset-share : (w new : World) (e : EventNo) (group : Bool) (k : Key) → IsKept w.hardware w → closed_refusal (stage_of w) e ≡ None → IsReset (targets (stage_of w) e group) w new
    → is_live new k ≡ true → HasItsShare w.hardware w new (ToolStep (line.Reset e group)) k
unfolding share
reset-share w new e group k h accepted counts there =
    let live : is_live w k ≡ true = ap (λ (y : World). is_live y k) (sym counts.world) ∙ there in
    grind (arith, nat_tests, reset-sums, reset-reaches, plus-none, reset-left, instance-found, none-after)
