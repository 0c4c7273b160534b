-- Which ways an instance that comes, goes or is folded keeps.
use Rattle.std.specs.{Prelude.{◌≡◌, true, false, List, [], ◌∷◌, Option, Some, None}, FinMap.{FinMap, get}, List.{fold}, Option.{unwrap_or}}
use Rattle.std.{specs.Ordering.{nat_cmp}, proofs.{Common.{arith, refl, sym, ap, subst, ◌∙◌, inl, inr}, lemmas.Bool.{cases_eq, cases_Bool}}}
use Rattle.perf_base.specs.declared.{numbers.Key.{Key}, standing.Standing.{Standing}}
use Rattle.perf_base.specs.declared.standing.Standing.TheVariants as standing
use Rattle.stage_spec.specs.Hardware.{Hardware}
use Rattle.world_spec.specs.{Value.{World, is_live, entry_at, standing_at, is_key, times}, StageOf.{after_first}}
use Rattle.world_spec.specs.{Kept.{post_at, leads, is_member_of, IsKept}, Adding.{Newcomer, drop_instance}, Comings.{HasRoom}}
use Rattle.world_spec.{specs.Ways.{KeepsWay, AddWaysLaw, GoWaysLaw, FoldWaysLaw}, proofs.Added.{added, comes-by, other-instance}}
use Rattle.world_spec.proofs.{Coming.{Comes, live-apart}, ComingLinks.{last_of_two}, Disbanding.{AreSiblings}, Folding.{folded-is}}
use Rattle.world_spec.proofs.Gone.{left_world, left-goes, left-instance, get-left}
use Rattle.world_spec.proofs.GoneLeader.{AreFreed, freed_standings, entries_freed, standings_freed, led_world, dropped-leader, siblings-stand, tables-freed}
use Rattle.world_spec.proofs.{GoneSibling.{GoesAlone}, Keys.{is_key-same, is_key-other, is_key-true, times-cons, once-true, once-false}}
use Rattle.world_spec.proofs.{Moving.{leads-parts}, Tables.{get-there}, Ways.{GoesOn, keeps-running}}

-- a leader lives, and leads itself
pub leader-live : (hw : Hardware) (w : World) (j : Key) → IsKept hw w → is_live w j ≡ true → is_live w (entry_at w j).leader ≡ true
leader-live hw w j h live = grind (arith, leads-parts)

leader-own : (hw : Hardware) (w : World) (j : Key) → IsKept hw w → is_live w j ≡ true → (entry_at w (entry_at w j).leader).leader.0 ≡ (entry_at w j).leader.0
leader-own hw w j h live = grind (arith, is_key-true, leads-parts)

-- an instance that comes
pub added-standing : (w : World) (k : Key) (n : Newcomer) (leader : Option Key) (q : Key) → (q.0 ≡ k.0 → ⊥) → standing_at (added w k n leader) q ≡ standing_at w q
added-standing w k n None q apart = ap (λ o. unwrap_or o standing.Out) (get-there w.standings k.0 standing.Out q.0 apart)
added-standing w k n (Some first) q apart = ap (λ o. unwrap_or o standing.Out) (get-there w.standings k.0 standing.Out q.0 apart)

added-running : (w : World) (k : Key) (n : Newcomer) (leader : Option Key) → (added w k n leader).quiet.running ≡ w.quiet.running
added-running w k n None = refl
added-running w k n (Some first) = refl

added-on : (hw : Hardware) (w : World) (k : Key) (n : Newcomer) (leader : Option Key) (j : Key) → IsKept hw w → is_live w k ≡ false → HasRoom w n leader → is_live w j ≡ true
    → GoesOn w (added w k n leader) j
added-on hw w k n leader j h dead room live =
    let l : Key = (entry_at w j).leader in
    let far : j.0 ≡ k.0 → ⊥ = live-apart (post_at w) k dead j live in
    let led_far : l.0 ≡ k.0 → ⊥ = live-apart (post_at w) k dead l (leader-live hw w j h live) in
    let c : Comes (post_at w) (post_at (added w k n leader)) k _ = comes-by w k n dead leader room in
    grind (arith, far, other-instance, l, led_far, added-standing)

pub add-ways : AddWaysLaw
add-ways hw w k n j h may room live = keeps-running w (added w k n n.leader) j (added-on hw w k n n.leader j h may.fresh room live) (added-running w k n n.leader)

-- a sibling that goes
left-on : (hw : Hardware) (w : World) (k j : Key) → IsKept hw w → is_live w k ≡ true → (j.0 ≡ k.0 → ⊥) → ((entry_at w j).leader.0 ≡ k.0 → ⊥) → GoesOn w (left_world w k) j
left-on hw w k j h there far led_far =
    let l : Key = (entry_at w j).leader in
    let g : GoesAlone (post_at w) (post_at (left_world w k)) k = left-goes hw w k h there in
    grind (arith, left-instance, l, get-left)

-- a leader that goes, and its siblings that are freed
pub standing-left : (keys : List Key) (m : FinMap nat_cmp Standing) (q : Key) → times q keys ≡ 0 → get (fold freed_standings m keys) q.0 ≡ get m q.0
standing-left [] m q none = refl
standing-left (k ∷ keys) m q none = elim (cases_eq q.0 k.0) [
  | inl e ↦ absurd (omega (arith, none, times-cons q k keys, once-true (is_key q k) (is_key-same q k (sym e))))
  | inr apart ↦ standing-left keys (freed_standings m k) q (omega (arith, none, times-cons q k keys)) ∙ get-there m k.0 standing.Out q.0 apart
]

not-member : (w : World) (k q : Key) → ((entry_at w q).leader.0 ≡ k.0 → ⊥) → is_member_of (post_at w) k q ≡ false
not-member w k q apart = last_of_two (is_live w q) (is_key k (entry_at w q).leader) (λ live. is_key-other k (entry_at w q).leader apart)

led-on : (hw : Hardware) (w : World) (k j : Key) → IsKept hw w → leads (post_at w) k ≡ true → is_live w j ≡ true → (j.0 ≡ k.0 → ⊥) → ((entry_at w j).leader.0 ≡ k.0 → ⊥)
    → GoesOn w (led_world w k (entries_freed w k) (standings_freed w k)) j
led-on hw w k j h lead live far led_far =
    let l : Key = (entry_at w j).leader in
    let f : AreFreed w k (entries_freed w k) (standings_freed w k) = tables-freed hw w k h lead in
    let sib : AreSiblings (post_at w) k (after_first (entry_at w k).members) = siblings-stand hw w k h lead in
    let l_off : is_member_of (post_at w) k l ≡ false = not-member w k l (λ e. led_far (sym (leader-own hw w j h live) ∙ e)) in
    let mine : get (led_world w k (entries_freed w k) (standings_freed w k)).entries j.0 ≡ get w.entries j.0 =
    get-left (entries_freed w k) k.0 j.0 far ∙ f.others j far (not-member w k j led_far) in
    let its : get (led_world w k (entries_freed w k) (standings_freed w k)).entries l.0 ≡ get w.entries l.0 = get-left (entries_freed w k) k.0 l.0 led_far ∙ f.others l led_far l_off in
    grind (arith, mine, its, get-left, standings_freed, standing-left, l, once-false, l_off)

pub go-ways : GoWaysLaw
go-ways hw w k j h there live far led_far = elim (cases_Bool (is_key k (entry_at w k).leader)) [
  | inl own ↦ grind (arith, own, dropped-leader, keeps-running, led-on)
  | inr sibling ↦ grind (arith, sibling, keeps-running, left_world, left-on)
]

-- a copy that is folded
pub fold-ways : FoldWaysLaw
fold-ways hw w k j h there live far led_far =
    let g : KeepsWay w (drop_instance k w) j = go-ways hw w k j h there live far led_far in
    subst (λ x. KeepsWay w x j) (sym (folded-is w k)) (record { ready = g.ready; on = g.on })
