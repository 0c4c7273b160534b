-- Instances that go one after the other: what each leaves, and what all leave.
use Rattle.std.specs.{Prelude.{◌≡◌, ◌≤◌, true, false, ◌&&◌, List, [], ◌∷◌, ◌++◌, map, Some, slice_set, if◌then◌else◌}, FinMap.{FinMap, get}}
use Rattle.std.{specs.{List.{fold}, Option.{unwrap_or}, Ordering.{nat_cmp}}, proofs.Common.{arith, refl, sym, ap, subst, ◌∙◌, inl, inr}}
use Rattle.std.proofs.lemmas.{Bool.{cases_eq, cases_Bool, false≢true}, List.{map-append, Sums.{fold-append}}}
use Rattle.perf_base.specs.declared.{numbers.{EventNo.{EventNo}, Key.{Key}}, standing.Standing.{Standing}}
use Rattle.perf_base.specs.declared.standing.Standing.TheVariants as standing
use Rattle.stage_spec.specs.Hardware.{Hardware}
use Rattle.stage_laws.{specs.OneByOne.{drop_one, drop_ones}}
use Rattle.world_spec.specs.{Value.{World, is_live, entry_at, instance_at, standing_at, family_of, is_key, times}, StageOf.{after_first, stage_of}}
use Rattle.world_spec.specs.{Kept.{is_member_of, leads, post_at, IsKept}, Adding.{drop_instance, leave_group, out_of_family, taken_out}}
use Rattle.world_spec.{specs.{Goings.{MayGo}, Staying.{HasGone}}, proofs.Disbanding.{AreSiblings, Disbands, member-led, member-live}}
use Rattle.world_spec.proofs.{Dropping.{it-leads}, Gone.{get-left, left-goes, left_world}}
use Rattle.world_spec.proofs.GoneLeader.{AreFreed, dropped-leader, entries_freed, freed_standings, led-disbands, led_world, siblings-stand, standings_freed, tables-freed}
use Rattle.world_spec.proofs.{GoneLeaderStage.{map-within}, Keys.{key-is, is_key-same, is_key-other, is_key-true, once-true, once-false, times-cons}}
use Rattle.world_spec.proofs.{Moving.{leads-parts}, Staying.{go-stays}, Tables.{get-here}}
use Rattle.event_commands.specs.Closing.{HaveGone, IsThinned, stood}
use Rattle.world_spec.proofs.WaysGone.{standing-left}
use Rattle.perf_world.proofs.Turning.{both-times}

-- groups that stand where they stood
abbrev Stands : World → World → Key → Type 0
Stands w after q = (leads (post_at w) q ≡ true) × (standing_at after q ≡ standing_at w q)

apart-live : (after : World) (k q : Key) → is_live after k ≡ false → is_live after q ≡ true → q.0 ≡ k.0 → ⊥
apart-live after k q dead live same = false≢true (sym dead ∙ (ap (is_live after) (sym (key-is q k same)) ∙ live))

-- a leader that goes: its siblings are in its context, and all others stand where they stood
leader-groups : (hw : Hardware) (w : World) (k q : Key) → IsKept hw w → leads (post_at w) k ≡ true → (q.0 ≡ k.0 → ⊥)
    → leads (post_at (led_world w k (entries_freed w k) (standings_freed w k))) q ≡ true
    → ((entry_at (led_world w k (entries_freed w k) (standings_freed w k)) q).context ≡ (entry_at w k).context → ⊥)
    → Stands w (led_world w k (entries_freed w k) (standings_freed w k)) q
leader-groups hw w k q h lead apart leads_now away =
    let t : World = led_world w k (entries_freed w k) (standings_freed w k) in
    let f : AreFreed w k (entries_freed w k) (standings_freed w k) = tables-freed hw w k h lead in
    let d : Disbands (post_at w) (post_at t) k = led-disbands w k (entries_freed w k) (standings_freed w k) lead f in
    let keys : List Key = after_first (entry_at w k).members in
    let sib : AreSiblings (post_at w) k keys = siblings-stand hw w k h lead in
    elim (cases_Bool (is_member_of (post_at w) k q)) [
      | inl is ↦
          let there : (entry_at w k).context ≡ (entry_at w q).context = ap (λ m. (entry_at w m).context) (sym (member-led (post_at w) k q is)) ∙ h.grouped.together q (member-live (post_at w) k q is) in
          absurd (away (ap (λ p. p.context) (d.freed q apart is) ∙ sym there))
      | inr off ↦ (
        ap (λ p. p.live && is_key q p.leader) (sym (d.others q apart off)) ∙ leads_now,
        ap (λ o. unwrap_or o standing.Out) (get-left (standings_freed w k) k.0 q.0 apart ∙ standing-left keys w.standings q (sib.others q apart ∙ once-false (is_member_of (post_at w) k q) off)),
      )
    ]

-- a sibling that goes
sibling-groups : (hw : Hardware) (w : World) (k q : Key) → IsKept hw w → is_live w k ≡ true → (q.0 ≡ k.0 → ⊥) → leads (post_at (left_world w k)) q ≡ true → Stands w (left_world w k) q
sibling-groups hw w k q h live apart leads_now = (
  ap (λ p. p.live && is_key q p.leader) (sym ((left-goes hw w k h live).same q apart)) ∙ leads_now,
  ap (λ o. unwrap_or o standing.Out) (get-left w.standings k.0 q.0 apart),
)

-- those that were freed stand Out
freed_standing : (keys : List Key) (m : FinMap nat_cmp Standing) (q : Key) → 1 ≤ times q keys → get (fold freed_standings m keys) q.0 ≡ Some standing.Out
freed_standing [] m q some = absurd (omega (arith, some))
freed_standing (k ∷ keys) m q some = elim (cases_eq (times q keys) 0) [
  | inr more ↦ freed_standing keys (freed_standings m k) q (omega (arith, more))
  | inl none ↦ elim (cases_eq q.0 k.0) [
    | inl e ↦ standing-left keys (freed_standings m k) q none ∙ get-here m k.0 standing.Out q.0 e
    | inr apart ↦ absurd (omega (arith, some, none, times-cons q k keys, once-false (is_key q k) (is_key-other q k (λ e. apart (sym e)))))
  ]
]

stood-leading : (w : World) (q : Key) → leads (post_at w) q ≡ true → standing_at w q ≡ stood w q
stood-leading w q lead = sym (ap (λ b. if b then standing_at w q else standing.Out) lead)

stood-new : (w : World) (q : Key) → leads (post_at w) q ≡ false → standing.Out ≡ stood w q
stood-new w q off = sym (ap (λ b. if b then standing_at w q else standing.Out) off)

-- a leader is in no other one's group
not-its : (w : World) (k q : Key) → leads (post_at w) q ≡ true → (q.0 ≡ k.0 → ⊥) → is_member_of (post_at w) k q ≡ false
not-its w k q lead apart = grind (arith, leads-parts, key-is, is_key-true, is_key-other)

leader-leading : (hw : Hardware) (w : World) (k q : Key) → IsKept hw w → leads (post_at w) k ≡ true → (q.0 ≡ k.0 → ⊥) → leads (post_at w) q ≡ true
    → leads (post_at (led_world w k (entries_freed w k) (standings_freed w k))) q ≡ true
leader-leading hw w k q h lead apart before =
    let f : AreFreed w k (entries_freed w k) (standings_freed w k) = tables-freed hw w k h lead in
    let d : Disbands (post_at w) (post_at (led_world w k (entries_freed w k) (standings_freed w k))) k = led-disbands w k (entries_freed w k) (standings_freed w k) lead f in
    ap (λ p. p.live && is_key q p.leader) (d.others q apart (not-its w k q before apart)) ∙ before

leader-standings : (hw : Hardware) (w : World) (k q : Key) → IsKept hw w → leads (post_at w) k ≡ true → (q.0 ≡ k.0 → ⊥)
    → leads (post_at (led_world w k (entries_freed w k) (standings_freed w k))) q ≡ true → standing_at (led_world w k (entries_freed w k) (standings_freed w k)) q ≡ stood w q
leader-standings hw w k q h lead apart leads_now =
    let t : World = led_world w k (entries_freed w k) (standings_freed w k) in
    let f : AreFreed w k (entries_freed w k) (standings_freed w k) = tables-freed hw w k h lead in
    let d : Disbands (post_at w) (post_at t) k = led-disbands w k (entries_freed w k) (standings_freed w k) lead f in
    let keys : List Key = after_first (entry_at w k).members in
    let sib : AreSiblings (post_at w) k keys = siblings-stand hw w k h lead in
    elim (cases_Bool (is_member_of (post_at w) k q)) [
      | inl is ↦ grind (arith, member-live, is, member-led, is_key-other, get-left, standings_freed, freed_standing, once-true, stood-new)
      | inr off ↦ grind (arith, get-left, standings_freed, standing-left, once-false, off, stood-leading)
    ]

-- an instance that goes, with the tables that it leaves
record Drops (w after : World) (k : Key) : Type 0 where
  world : IsThinned w after
  families : after.families ≡ slice_set w.families (instance_at w k).event.0 (out_of_family (instance_at w k).copy k (family_of w (instance_at w k).event))
  groups : (q : Key) → (q.0 ≡ k.0 → ⊥) → leads (post_at after) q ≡ true → ((entry_at after q).context ≡ (entry_at w k).context → ⊥) → Stands w after q
  leading : (q : Key) → (q.0 ≡ k.0 → ⊥) → leads (post_at w) q ≡ true → leads (post_at after) q ≡ true
  standings : (q : Key) → (q.0 ≡ k.0 → ⊥) → leads (post_at after) q ≡ true → standing_at after q ≡ stood w q

one-drops : (hw : Hardware) (w : World) (k : Key) → IsKept hw w → MayGo w k → Drops w (drop_instance k w) k
one-drops hw w k h may = elim (cases_Bool (is_key k (entry_at w k).leader)) [
  | inl own ↦ subst (λ x. Drops w x k) (sym (dropped-leader w k own)) (record {
    world = refl;
    families = refl;
    groups = λ q apart leads_now away. leader-groups hw w k q h (it-leads w k may own) apart leads_now away;
    leading = λ q apart lead. leader-leading hw w k q h (it-leads w k may own) apart lead;
    standings = λ q apart leads_now. leader-standings hw w k q h (it-leads w k may own) apart leads_now;
  })
  | inr sibling ↦ subst (λ b. Drops w (taken_out k (instance_at w k) (leave_group k b w)) k) (sym sibling) (record {
    world = refl;
    families = refl;
    groups = λ q apart leads_now away. sibling-groups hw w k q h may.live apart leads_now;
    leading = λ q apart lead. ap (λ p. p.live && is_key q p.leader) ((left-goes hw w k h may.live).same q apart) ∙ lead;
    standings = λ q apart leads_now.
        (let stays = sibling-groups hw w k q h may.live apart leads_now in
        stays.1 ∙ stood-leading w q stays.0);
  })
]

pub drop-families : (hw : Hardware) (w : World) (k : Key) → IsKept hw w → MayGo w k
    → (drop_instance k w).families ≡ slice_set w.families (instance_at w k).event.0 (out_of_family (instance_at w k).copy k (family_of w (instance_at w k).event))
drop-families hw w k h may = (one-drops hw w k h may).families

-- one that went
pub one-key : (j k : Key) → 1 ≤ times j (k ∷ []) → j ≡ k
one-key j k some = grind (arith, key-is, times-cons, once-false, is_key-other)

other-key : (j k : Key) → times j (k ∷ []) ≡ 0 → j.0 ≡ k.0 → ⊥
other-key j k none same = omega (arith, none, times-cons j k [], once-true (is_key j k) (is_key-same j k (sym same)))

itself : (k : Key) → 1 ≤ times k (k ∷ [])
itself k = omega (arith, times-cons k k [], once-true (is_key k k) (is_key-same k k refl))

one-by : (hw : Hardware) (w : World) (e : EventNo) (k : Key) → IsKept hw w → MayGo w k → (instance_at w k).event ≡ e
    → stage_of (drop_instance k w) ≡ drop_one (instance_at w k).id (stage_of w) → HaveGone e (k ∷ []) w (drop_instance k w)
one-by hw w e k h may is stage =
    let g : HasGone w (drop_instance k w) k = go-stays hw w k h may in
    let d : Drops w (drop_instance k w) k = one-drops hw w k h may in
    record {
      world = d.world;
      stage = stage;
      dead = λ j some. ap (is_live (drop_instance k w)) (one-key j k some) ∙ g.dead;
      live = λ j none. g.others.live j (other-key j k none);
      instances = λ j none. g.others.instances j (other-key j k none);
      contexts = λ j none. g.others.contexts j (other-key j k none);
      accounts = λ j none. g.others.accounts j (other-key j k none);
      families = λ other apart. g.families other (λ same. apart (same ∙ ap (λ x. x.0) is));
      groups = λ q lead away.
          let live : is_live (drop_instance k w) q ≡ true = (leads-parts (is_live (drop_instance k w) q) (is_key q (entry_at (drop_instance k w) q).leader) lead).0 in
          d.groups q (apart-live (drop_instance k w) k q g.dead live) lead (away k (itself k));
      leading = λ q lead none. d.leading q (other-key q k none) lead;
      standings = λ q lead.
          let live : is_live (drop_instance k w) q ≡ true = (leads-parts (is_live (drop_instance k w) q) (is_key q (entry_at (drop_instance k w) q).leader) lead).0 in
          d.standings q (apart-live (drop_instance k w) k q g.dead live) lead;
    }

pub one-gone : (hw : Hardware) (w new : World) (e : EventNo) (k : Key) → IsKept hw w → MayGo w k → (instance_at w k).event ≡ e → new ≡ drop_instance k w
    → stage_of new ≡ drop_one (instance_at w k).id (stage_of w) → HaveGone e (k ∷ []) w new
one-gone hw w new e k h may is dropped stage = subst (HaveGone e (k ∷ []) w) (sym dropped) (one-by hw w e k h may is (ap stage_of (sym dropped) ∙ stage))

-- none
pub none-gone : (e : EventNo) (w : World) → HaveGone e [] w w
none-gone e w = grind (arith, stood-leading)

-- some after others
stood-then : (w m : World) (q : Key) → (leads (post_at m) q ≡ true → standing_at m q ≡ stood w q) → (leads (post_at w) q ≡ true → leads (post_at m) q ≡ true) → stood m q ≡ stood w q
stood-then w m q stands still = grind (arith, stood-leading, false≢true, stood-new)

thinned-twice : (w m n : World) → IsThinned w m → IsThinned m n → IsThinned w n
thinned-twice w m n first second = grind arith

pub both-gone : (e : EventNo) (xs ys : List Key) (w m n : World) → HaveGone e xs w m → HaveGone e ys m n → ((k : Key) → 1 ≤ times k ys → times k xs ≡ 0) → HaveGone e (xs ++ ys) w n
both-gone e xs ys w m n first second apart =
    let ids : map (λ k. (instance_at m k).id) ys ≡ map (λ k. (instance_at w k).id) ys =
    map-within (λ k. (instance_at m k).id) (λ k. (instance_at w k).id) ys (λ k some. ap (λ i. i.id) (first.instances k (apart k some))) in
    let xs_none : (k : Key) → times k (xs ++ ys) ≡ 0 → times k xs ≡ 0 = λ k none. omega (arith, none, both-times k xs ys) in
    let ys_none : (k : Key) → times k (xs ++ ys) ≡ 0 → times k ys ≡ 0 = λ k none. omega (arith, none, both-times k xs ys) in
    record {
      world = thinned-twice w m n first.world second.world;
      stage = second.stage
          ∙ ((λ i. drop_ones (ids i) (first.stage i))
          ∙ (sym (fold-append (λ t id. drop_one id t) (stage_of w) (map (λ k. (instance_at w k).id) xs) (map (λ k. (instance_at w k).id) ys))
          ∙ ap (λ ns. drop_ones ns (stage_of w)) (sym (map-append (λ k. (instance_at w k).id) xs ys))));
      dead = λ k some. elim (cases_eq (times k ys) 0) [
        | inl none ↦ second.live k none ∙ first.dead k (omega (arith, some, none, both-times k xs ys))
        | inr more ↦ second.dead k (omega (arith, more))
      ];
      live = λ k none. second.live k (ys_none k none) ∙ first.live k (xs_none k none);
      instances = λ k none. second.instances k (ys_none k none) ∙ first.instances k (xs_none k none);
      contexts = λ k none. second.contexts k (ys_none k none) ∙ first.contexts k (xs_none k none);
      accounts = λ k none. second.accounts k (ys_none k none) ∙ first.accounts k (xs_none k none);
      families = λ other far. second.families other far ∙ first.families other far;
      groups = λ q lead away.
          let live : is_live n q ≡ true = (leads-parts (is_live n q) (is_key q (entry_at n q).leader) lead).0 in
          let stays : times q ys ≡ 0 = grind (arith, false≢true) in
          let mid = second.groups q lead (λ k some is. away k (omega (arith, some, both-times k xs ys)) (is ∙ first.contexts k (apart k some))) in
          let old = first.groups q mid.0 (λ k some is. away k (omega (arith, some, both-times k xs ys)) (second.contexts q stays ∙ is)) in
          (old.0, mid.1 ∙ old.1);
      leading = λ q lead none. second.leading q (first.leading q lead (xs_none q none)) (ys_none q none);
      standings = λ q lead.
          let live : is_live n q ≡ true = (leads-parts (is_live n q) (is_key q (entry_at n q).leader) lead).0 in
          let stays : times q ys ≡ 0 = grind (arith, false≢true) in
          let stayed : times q xs ≡ 0 = grind (arith, false≢true) in
          second.standings q lead ∙ stood-then w m q (first.standings q) (λ before. first.leading q before stayed);
    }
