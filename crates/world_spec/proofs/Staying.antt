-- What stays when an instance comes or goes.
use Rattle.std.specs.{Prelude.{◌≡◌, ℕ, ◌==◌, true, false, Option, Some, None, slice_index_or, slice_set}, Option.{unwrap_or}}
use Rattle.std.proofs.{Common.{arith, refl, sym, ap, subst, ◌∙◌, inl, inr, get_or-set_other}, lemmas.Bool.{cases_Bool}}
use Rattle.perf_base.specs.declared.numbers.{EventNo.{EventNo}, Key.{Key}}
use Rattle.perf_base.specs.declared.standing.Standing.TheVariants as standing
use Rattle.stage_spec.specs.{Hardware.{Hardware}, Shares.{no_sums}}
use Rattle.world_spec.specs.Value.{World, Family, no_account, no_family, is_live, entry_at, instance_at, account_at, standing_at, family_of, is_key, times}
use Rattle.world_spec.specs.Kept.{post_at, in_option, is_original_in, leads, IsKept}
use Rattle.world_spec.specs.{Adding.{Newcomer, leave_group, taken_out, drop_instance}, Comings.{HasRoom}}
use Rattle.world_spec.specs.Staying.{HasGone, HasCome, IsOriginalOf, GoStaysLaw, FoldStaysLaw, AddStaysLaw, OriginLaw}
use Rattle.world_spec.proofs.{Tables.{get-here, get-there}, Keys.{key-is, is_key-true, once-true, once-false, times-cons}}
use Rattle.world_spec.proofs.{Coming.{three, number_true}, Added.{added, comes-by, other-instance, new-entry_at, entry-instance}, Going.{Goes}}
use Rattle.world_spec.proofs.{Gone.{left_world, left-goes, left-instance, account-left}, Disbanding.{disbands-goes}}
use Rattle.world_spec.proofs.GoneLeader.{AreFreed, entries_freed, standings_freed, led_world, dropped-leader, tables-freed, led-disbands, led-instance}
use Rattle.world_spec.proofs.{Dropping.{it-leads}, Folding.{folded-is, copy-may}, Reaching.{is-original}}
use Rattle.world_spec.proofs.AddedKept.{context-new}

-- an instance that goes
gone-by : (w t : World) (k : Key) → Goes (post_at w) (post_at t) k → ((j : Key) → (j.0 ≡ k.0 → ⊥) → instance_at t j ≡ instance_at w j) → ((j : Key) → (j.0 ≡ k.0 → ⊥) → account_at t j ≡ account_at w j)
    → t.lost ≡ w.lost → ((e : EventNo) → (e.0 ≡ (instance_at w k).event.0 → ⊥) → family_of t e ≡ family_of w e) → t.folded ≡ w.folded → t.quiet ≡ w.quiet → HasGone w t k
gone-by w t k g instances accounts lost families folded quiet = grind arith

family-stays : (w : World) (k : Key) (f : Family) (e : EventNo) → (e.0 ≡ (instance_at w k).event.0 → ⊥)
    → slice_index_or (slice_set w.families (instance_at w k).event.0 f) e.0 no_family ≡ slice_index_or w.families e.0 no_family
family-stays w k f e apart = get_or-set_other w.families (instance_at w k).event.0 e.0 f no_family apart

pub go-stays : GoStaysLaw
go-stays hw w k h may = elim (cases_Bool (is_key k (entry_at w k).leader)) [
  | inl own ↦
      let lead : leads (post_at w) k ≡ true = it-leads w k may own in
      let f : AreFreed w k (entries_freed w k) (standings_freed w k) = tables-freed hw w k h lead in
      let t : World = led_world w k (entries_freed w k) (standings_freed w k) in
      let g : Goes (post_at w) (post_at t) k = disbands-goes (post_at w) (post_at t) k (led-disbands w k (entries_freed w k) (standings_freed w k) lead f) in
      subst (λ x. HasGone w x k) (sym (dropped-leader w k own))
      (gone-by w t k g (led-instance w k (entries_freed w k) (standings_freed w k) f) (account-left w k) refl (family-stays w k _) refl refl)
  | inr sibling ↦
      subst (λ b. HasGone w (taken_out k (instance_at w k) (leave_group k b w)) k) (sym sibling)
      (gone-by w (left_world w k) k (left-goes hw w k h may.live).goes (left-instance w k) (account-left w k) refl (family-stays w k _) refl refl)
]

pub fold-stays : FoldStaysLaw
fold-stays hw w k h live copy =
    let g : HasGone w (drop_instance k w) k = go-stays hw w k h (copy-may w k live copy) in
    search (folded-is, get_or-set_other)

-- an instance that comes
record Rests (w : World) (k : Key) (n : Newcomer) (t : World) : Type 0 where
  account : account_at t k ≡ record { sums = no_sums; left = n.attr.period }
  standing : standing_at t k ≡ standing.Out
  accounts : (j : Key) → (j.0 ≡ k.0 → ⊥) → account_at t j ≡ account_at w j
  lost : t.lost ≡ w.lost
  folded : t.folded ≡ w.folded
  families : (e : EventNo) → (e.0 ≡ n.event.0 → ⊥) → family_of t e ≡ family_of w e

rests : (w : World) (k : Key) (n : Newcomer) (leader : Option Key) → Rests w k n (added w k n leader)
rests w k n None = record {
  account = ap (λ o. unwrap_or o no_account) (get-here w.accounts k.0 (record { sums = no_sums; left = n.attr.period }) k.0 refl);
  standing = ap (λ o. unwrap_or o standing.Out) (get-here w.standings k.0 standing.Out k.0 refl);
  accounts = λ j apart. ap (λ o. unwrap_or o no_account) (get-there w.accounts k.0 _ j.0 apart);
  lost = refl;
  folded = refl;
  families = λ e apart. get_or-set_other w.families n.event.0 e.0 _ no_family apart;
}
rests w k n (Some first) = record {
  account = ap (λ o. unwrap_or o no_account) (get-here w.accounts k.0 (record { sums = no_sums; left = n.attr.period }) k.0 refl);
  standing = ap (λ o. unwrap_or o standing.Out) (get-here w.standings k.0 standing.Out k.0 refl);
  accounts = λ j apart. ap (λ o. unwrap_or o no_account) (get-there w.accounts k.0 _ j.0 apart);
  lost = refl;
  folded = refl;
  families = λ e apart. get_or-set_other w.families n.event.0 e.0 _ no_family apart;
}

come-by : (w : World) (k : Key) (n : Newcomer) (leader : Option Key) → is_live w k ≡ false → HasRoom w n leader → HasCome w (added w k n leader) k n
come-by w k n leader dead room =
    grind (arith, new-entry_at, entry-instance, context-new, other-instance, added w k n leader, comes-by w k n dead leader room, rests w k n leader)

pub add-stays : AddStaysLaw
add-stays hw w k n h may room = come-by w k n n.leader may.fresh room

-- the original of an instance
some-key : (o : Option Key) (k : Key) → times k (in_option o) ≡ 1 → o ≡ Some k
some-key None k one = absurd (omega (arith, one))
some-key (Some q) k one = grind (arith, key-is, is_key-true, times-cons, once-false)

original-by : (hw : Hardware) (w : World) (k o : Key) → IsKept hw w → is_original_in (post_at w) (instance_at w k).event.0 o ≡ true → IsOriginalOf w k o
original-by hw w k o h passes =
    let event : ℕ = (instance_at w k).event.0 in
    let parts : (is_live w o ≡ true) × (((instance_at w o).event.0 == event) ≡ true) × ((instance_at w o).copy ≡ false) = three (is_live w o) ((instance_at w o).event.0 == event) (instance_at w o).copy passes in
    record {
      named = some-key (family_of w (instance_at w k).event).original o (h.linked.originals o event ∙ once-true (is_original_in (post_at w) event o) passes);
      live = parts.0;
      first = parts.2;
      event = λ i. record { 0 = number_true (instance_at w o).event.0 event parts.1 i };
    }

pub origin-is : OriginLaw
origin-is hw w k h live = elim (cases_Bool (instance_at w k).copy) [
  | inl copy ↦ grind (arith, copy, original-by)
  | inr first ↦ (k, original-by hw w k k h (is-original w k live first))
]
