-- What an open that is not refused gives: each of its tests is false, and the group fits.
use Rattle.std.specs.Prelude.{◌≡◌, ℕ, Bool, true, false, ◌&&◌, ◌||◌, List, [], ◌∷◌, Option, Some, None, is_some, option_map, cond}
use Rattle.std.proofs.{Common.{refl, ap}, lemmas.Bool.{true≢false}}
use Rattle.perf_base.specs.declared.{numbers.EventNo.{EventNo}, attr.Attr.{Attr}, reasons.Reason.{Reason}}
use Rattle.stage_spec.specs.{Checks.{has_no_place}, Flags.{is_pinned, is_exclusive}, Hardware.{Hardware}, Stage.{Stage}, Effective.{hardware_members}}
use Rattle.stage_spec.specs.{Fits.{fits}, Tight.{masks_of}, Verdict.{with_masks}, Refusals.{first_of}}
use Rattle.stage_spec.specs.Opening.{is_used, names_other_pmu, names_no_task, leader_is_closed, leader_is_sibling, leader_is_elsewhere, leader_inherits_otherwise, group_is_of_other_pmu, group_is_full, group_led, group_with, new_original, open_faults, open_refusal, unassignable}
use Rattle.stage_spec.proofs.Each.{Each}

-- none of some reasons holds
first-none : (b : Bool) (f : Reason × Bool) (o : Option (Reason × Bool)) → option_map (λ g. g.0) (cond b (Some f) o) ≡ None → (b ≡ false) × (option_map (λ g. g.0) o ≡ None)
first-none true f o h = absurd (true≢false (ap is_some h))
first-none false f o h = (refl, h)

pub no_reason : (faults : List (Reason × Bool)) → first_of faults ≡ None → Each (λ f. f.1 ≡ false) faults
unfolding Each
no_reason [] h = tt
no_reason (f ∷ faults) h = let k = first-none f.1 f _ h in (k.0, no_reason faults k.1)

pub record IsAccepted (hw : Hardware) (s : Stage) (slot : EventNo) (a : Attr) (leader : Option EventNo) : Type 0 where
  pub unused : is_used s slot ≡ false
  pub place : has_no_place a ≡ false
  pub device : names_other_pmu hw a a.cpu ≡ false
  pub task : names_no_task s a.task ≡ false
  pub is_open : leader_is_closed s leader ≡ false
  pub leads : leader_is_sibling s leader ≡ false
  pub here : leader_is_elsewhere s a leader ≡ false
  pub flags : (is_some leader && (is_pinned a || is_exclusive a)) ≡ false
  pub inherit : leader_inherits_otherwise s a leader ≡ false
  pub pmu : group_is_of_other_pmu hw s a leader ≡ false
  pub room : group_is_full s leader ≡ false
  pub fit : fits (masks_of (with_masks hw (hardware_members (group_with (group_led s leader) (new_original s slot a))))) ≡ true

neither : (o other : Option Reason) → (elim o as (λ x. Option Reason) [ Some r ↦ Some r | None ↦ other ]) ≡ None → (o ≡ None) × (other ≡ None)
neither (Some r) other h = absurd (true≢false (ap is_some h))
neither None other h = (refl, h)

assignable : (b : Bool) (r : Reason) → (elim b as (λ x. Option Reason) [ true ↦ None | false ↦ Some r ]) ≡ None → b ≡ true
assignable true r h = refl
assignable false r h = absurd (true≢false (ap is_some h))

pub accepted : (hw : Hardware) (s : Stage) (slot : EventNo) (a : Attr) (leader : Option EventNo) → open_refusal hw s slot a leader ≡ None → IsAccepted hw s slot a leader
unfolding open_refusal Each
accepted hw s slot a leader h =
    let events : List (EventNo × ℕ) = with_masks hw (hardware_members (group_with (group_led s leader) (new_original s slot a))) in
    let k = neither (first_of (open_faults hw s slot a leader)) (unassignable events) h in
    let none = no_reason (open_faults hw s slot a leader) k.0 in
    let named = none.1.1.1.1 in
    let leading = named.1.1.1.1 in
    record {
      unused = none.0;
      place = named.0;
      device = named.1.1.0;
      task = named.1.1.1.0;
      is_open = leading.0;
      leads = leading.1.0;
      here = leading.1.1.0;
      flags = leading.1.1.1.0;
      inherit = leading.1.1.1.1.0;
      pmu = leading.1.1.1.1.1.0;
      room = leading.1.1.1.1.1.1.0;
      fit = assignable (fits (masks_of events)) _ k.1;
    }
