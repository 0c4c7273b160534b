-- What a copy that is folded leaves: keys in other contexts, its family, and its folded sums.
use Rattle.std.specs.{Prelude.{◌≡◌, true, false, List, slice_index_or, slice_set}}
use Rattle.std.specs.{Option.{unwrap_or}}
use Rattle.std.proofs.{Common.{arith, sym, ap, subst, ◌∙◌, inl, inr, get_or-set_same}, lemmas.Bool.{cases_Bool}}
use Rattle.perf_base.specs.declared.{numbers.Key.{Key}}
use Rattle.perf_base.specs.declared.standing.Standing.TheVariants as standing
use Rattle.stage_spec.specs.{Families.{plus}, Hardware.{Hardware}, Shares.{no_sums}}
use Rattle.world_spec.specs.Value.{World, is_live, entry_at, instance_at, account_at, standing_at, family_of, is_key, times}
use Rattle.world_spec.specs.{StageOf.{after_first}, Kept.{leads, post_at, is_member_of, IsKept}, Changes.{all_but}}
use Rattle.world_spec.{specs.Adding.{out_of_family, drop_instance, folded_away}, proofs.Disbanding.{Disbands}}
use Rattle.world_spec.proofs.{Dropping.{it-leads}, Folding.{folded-is, copy-may}, Gone.{fewer_entry, left_world, get-left}}
use Rattle.world_spec.proofs.GoneLeader.{entries_freed, standings_freed, led_world, dropped-leader, tables-freed, led-disbands, siblings-stand}
use Rattle.world_spec.proofs.{Keys.{key-is, is_key-true, once-false}, Moving.{leads-parts}}
use Rattle.world_spec.proofs.Tables.{post_of, get-there}
use Rattle.world_spec.proofs.WaysGone.{standing-left}

-- a key in another context has the post and the standing that it had
pub IsAsBefore : World → World → Key → Type 0
IsAsBefore w after j = (post_at after j ≡ post_at w j) × (standing_at after j ≡ standing_at w j)

not-member : (hw : Hardware) (w : World) (k j : Key) → IsKept hw w → ((entry_at w j).context ≡ (entry_at w k).context → ⊥) → is_member_of (post_at w) k j ≡ false
not-member hw w k j h off = grind (arith, leads-parts, key-is, is_key-true)

leader-untouched : (hw : Hardware) (w : World) (k j : Key) → IsKept hw w → leads (post_at w) k ≡ true → (j.0 ≡ k.0 → ⊥) → is_member_of (post_at w) k j ≡ false
    → IsAsBefore w (led_world w k (entries_freed w k) (standings_freed w k)) j
unfolding IsAsBefore
leader-untouched hw w k j h lead apart off =
    let keys : List Key = after_first (entry_at w k).members in
    let d : Disbands (post_at w) (post_at (led_world w k (entries_freed w k) (standings_freed w k))) k =
    led-disbands w k (entries_freed w k) (standings_freed w k) lead (tables-freed hw w k h lead) in
    let none : times j keys ≡ 0 = (siblings-stand hw w k h lead).others j apart ∙ once-false (is_member_of (post_at w) k j) off in
    (d.others j apart off, ap (λ o. unwrap_or o standing.Out) (get-left (standings_freed w k) k.0 j.0 apart ∙ standing-left keys w.standings j none))

sibling-untouched : (w : World) (k j : Key) → (j.0 ≡ k.0 → ⊥) → (j.0 ≡ (entry_at w k).leader.0 → ⊥) → IsAsBefore w (left_world w k) j
unfolding IsAsBefore
sibling-untouched w k j apart below = grind (arith, fewer_entry, get-left, get-there, post_of)

dropped-untouched : (hw : Hardware) (w : World) (k j : Key) → IsKept hw w → is_live w k ≡ true → (instance_at w k).copy ≡ true → ((entry_at w j).context ≡ (entry_at w k).context → ⊥)
    → IsAsBefore w (drop_instance k w) j
dropped-untouched hw w k j h live copy off =
    let apart : j.0 ≡ k.0 → ⊥ = λ e. off (ap (λ q. (entry_at w q).context) (key-is j k e)) in
    elim (cases_Bool (is_key k (entry_at w k).leader)) [
      | inl own ↦
          subst (λ x. IsAsBefore w x j) (sym (dropped-leader w k own))
          (leader-untouched hw w k j h (it-leads w k (copy-may w k live copy) own) apart (not-member hw w k j h off))
      | inr sibling ↦ grind (arith, IsAsBefore, sibling, sibling-untouched, key-is)
    ]

-- so where the copy leads its group, and the key is of another one
pub folded-apart : (hw : Hardware) (w : World) (k j : Key) → IsKept hw w → leads (post_at w) k ≡ true → (j.0 ≡ k.0 → ⊥) → is_member_of (post_at w) k j ≡ false
    → (post_at (folded_away k w) j ≡ post_at w j) × (standing_at (folded_away k w) j ≡ standing_at w j)
unfolding IsAsBefore
folded-apart hw w k j h lead apart off =
    let own : is_key k (entry_at w k).leader ≡ true = (leads-parts (is_live w k) (is_key k (entry_at w k).leader) lead).1 in
    let d : IsAsBefore w (drop_instance k w) j = subst (λ x. IsAsBefore w x j) (sym (dropped-leader w k own)) (leader-untouched hw w k j h lead apart off) in
    subst (λ x. (post_at x j ≡ post_at w j) × (standing_at x j ≡ standing_at w j)) (sym (folded-is w k)) (d.0, d.1)

pub folded-untouched : (hw : Hardware) (w : World) (k j : Key) → IsKept hw w → is_live w k ≡ true → (instance_at w k).copy ≡ true → ((entry_at w j).context ≡ (entry_at w k).context → ⊥)
    → (post_at (folded_away k w) j ≡ post_at w j) × (standing_at (folded_away k w) j ≡ standing_at w j)
unfolding IsAsBefore
folded-untouched hw w k j h live copy off = grind (arith, IsAsBefore, dropped-untouched, folded-is, dropped-untouched hw w k j h live copy off)

-- the copy's own family and folded sums, and the machine's counters
dropped-families : (w : World) (k : Key)
    → (drop_instance k w).families ≡ slice_set w.families (instance_at w k).event.0 (out_of_family (instance_at w k).copy k (family_of w (instance_at w k).event))
dropped-families w k = grind (arith, dropped-leader)

dropped-hardware : (w : World) (k : Key) → (drop_instance k w).hardware ≡ w.hardware
dropped-hardware w k = grind (arith, dropped-leader)

pub own-family : (hw : Hardware) (w : World) (k : Key) → IsKept hw w → is_live w k ≡ true → (instance_at w k).copy ≡ true
    → family_of (folded_away k w) (instance_at w k).event ≡ record (family_of w (instance_at w k).event) { copies = all_but k (family_of w (instance_at w k).event).copies }
own-family hw w k h live copy = grind (arith, folded-is, dropped-families, get_or-set_same)

pub own-folded : (hw : Hardware) (w : World) (k : Key) → IsKept hw w → is_live w k ≡ true
    → slice_index_or (folded_away k w).folded (instance_at w k).event.0 no_sums ≡ plus (slice_index_or w.folded (instance_at w k).event.0 no_sums) (account_at w k).sums
own-folded hw w k h live = grind (arith, folded-is, get_or-set_same)

pub same-hardware : (w : World) (k : Key) → (folded_away k w).hardware ≡ w.hardware
same-hardware w k = ap (λ x. x.hardware) (folded-is w k) ∙ dropped-hardware w k
