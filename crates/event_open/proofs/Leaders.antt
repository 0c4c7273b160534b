-- What an open's tests of its leader are by the keys of a world.
use Rattle.std.specs.Prelude.{◌≡◌, ◌<◌, ◌≤◌, ◌==◌, ◌||◌, nat_lt, Bool, true, false, not, All, List, [], ◌∷◌, map, length, Option, Some, None, IfSome, is_some, option_map}
use Rattle.std.{specs.List.{list_any}, proofs.{Common.{arith, refl, sym, ap, ◌∙◌, inl, inr}, lemmas.Bool.{cases_Bool, ltb-true, not-false}}}
use Rattle.std.proofs.lemmas.{Bool.Decides.{nat_tests}, List.{length-map}}
use Rattle.perf_base.specs.declared.{attr.Attr.{Attr}, numbers.{EventNo.{EventNo}, Key.{Key}}}
use Rattle.perf_base.specs.declared.reasons.Reason.TheVariants as reason
use Rattle.stage_spec.specs.{declared.instance.Instance.{Instance}, Effective.{name_of}}
use Rattle.stage_spec.specs.Opening.{is_other_pmu, leader_is_closed, leader_is_sibling, group_is_of_other_pmu, group_is_full, group_led}
use Rattle.stage_spec.specs.{Refusals.{holds_of}}
use Rattle.stage_spec.specs.Stage.{Group, members_of, group_of, group_size, place_of}
use Rattle.world_spec.specs.{Value.{World, is_live, entry_at, instance_at, family_of, is_key, times}, StageOf.{group_at, stage_of}}
use Rattle.world_spec.{specs.Kept.{leads, post_at, in_option, is_member_of, is_original_in}, proofs.Coming.{three, number_true}}
use Rattle.world_spec.proofs.Families.{group-is, open-is, original-is, group-members}
use Rattle.world_spec.proofs.{Keys.{key-is, is_key-true, is_key-false, times-cons, once-true, once-false}, Moving.{leads-parts}}
use Rattle.perf_world.specs.Seen.{IsWorld}
use Rattle.event_open.specs.{Faults.{joining_faults, group_faults, leader_faults}, Opened.{keys_led, leader_key, members_led}}
use Rattle.event_open.proofs.Demanding.{all-keys}

-- the group that a leader's original is in
abbrev pub its_group : World → Key → Group
its_group w k = group_at w (entry_at w k).leader

pub group-led : (w : World) (e : EventNo) (o : Option Key) → IsWorld w → (family_of w e).original ≡ o → group_of (stage_of w) e ≡ option_map (its_group w) o
group-led w e o h is = group-is w.hardware w e h ∙ ap (option_map (its_group w)) is

pub closed-is : (w : World) (e : EventNo) (o : Option Key) → IsWorld w → (family_of w e).original ≡ o → leader_is_closed (stage_of w) (Some e) ≡ not (is_some o)
closed-is w e o h is = ap not (open-is w.hardware w e h ∙ ap is_some is)

-- the original in a slot is live, in that slot, and no copy
pub record IsOriginal (w : World) (e : EventNo) (k : Key) : Type 0 where
  pub live : is_live w k ≡ true
  pub event : (instance_at w k).event ≡ e
  pub first : (instance_at w k).copy ≡ false

pub slot-original : (w : World) (e : EventNo) (k : Key) → IsWorld w → (family_of w e).original ≡ Some k → IsOriginal w e k
slot-original w e k h is =
    let same : is_key k k ≡ true = grind (arith, nat_tests) in
    let one : times k (in_option (family_of w e).original) ≡ 1 = ap (λ o. times k (in_option o)) is ∙ omega (arith, times-cons k k [], once-true (is_key k k) same) in
    elim (cases_Bool (is_original_in (post_at w) e.0 k)) [
      | inl is_it ↦ grind (arith, nat_tests, three, is_it, number_true)
      | inr off ↦ absurd (omega (arith, one, h.linked.originals k e.0, once-false (is_original_in (post_at w) e.0 k) off))
    ]

-- it is a sibling exactly where it does not lead its own group
pub sibling-is : (w : World) (e : EventNo) (k : Key) → IsWorld w → (family_of w e).original ≡ Some k → leader_is_sibling (stage_of w) (Some e) ≡ not (is_key k (entry_at w k).leader)
sibling-is w e k h is =
    let o : IsOriginal w e k = slot-original w e k h is in
    let m : Key = (entry_at w k).leader in
    let slot : (instance_at w k).event.0 ≡ e.0 = ap (λ x. x.0) o.event in
    let same : ((instance_at w m).event.0 == e.0) ≡ is_key k m = elim (cases_Bool (is_key k m)) [
      | inl own ↦ grind (arith, nat_tests, key-is, is_key-true, own)
      | inr off ↦ elim (cases_Bool ((instance_at w m).event.0 == e.0)) [
        | inl here ↦
            let live : is_live w m ≡ true = (leads-parts (is_live w m) (is_key m (entry_at w m).leader) (h.grouped.led k o.live)).0 in
            let own : m ≡ k = h.apart.one_each m k live o.live (number_true (instance_at w m).event.0 e.0 here ∙ sym slot) (ap place_of (h.grouped.together k o.live)) in
            absurd (is_key-false k m off (ap (λ q. q.0) own))
        | inr other ↦ other ∙ sym off
      ]
    ] in
    ap (holds_of (λ g. not ((name_of g).0 == e.0))) (group-led w e (Some k) h is) ∙ ap not same

-- so why an event may not join its group
pub joining-faults : (w : World) (a : Attr) (e : EventNo) (k : Key) → IsWorld w → (family_of w e).original ≡ Some k
    → leader_faults (stage_of w) a (Some e) ≡ (reason.NoEvent, false) ∷ joining_faults w a k
joining-faults w a e k h is = grind (arith, nat_tests, closed-is, original-is, sibling-is)

-- a member of a group is live, and the leader is its leader
pub member-lives : (w : World) (m j : Key) → IsWorld w → 1 ≤ times j (entry_at w m).members → (is_live w j ≡ true) × ((entry_at w j).leader ≡ m)
member-lives w m j h some = elim (cases_Bool (is_member_of (post_at w) m j)) [
  | inl is ↦ grind (arith, nat_tests, leads-parts, is, key-is, is_key-true)
  | inr off ↦ absurd (omega (arith, some, h.linked.members j m, once-false (is_member_of (post_at w) m j) off))
]

pub members-live : (w : World) (m : Key) → IsWorld w → All (λ k. is_live w k ≡ true) (entry_at w m).members
members-live w m h = all-keys (λ k. is_live w k ≡ true) (entry_at w m).members (λ k some. (member-lives w m k h some).0)

-- the members of the group that is led, by the leader's key
pub led-members : (w : World) (leader : Option EventNo) (first : Option Key) (keys : List Key) → IsWorld w → first ≡ leader_key w leader
    → IfSome first (λ k. leads (post_at w) k ≡ true) → keys ≡ keys_led w first → members_led (group_led (stage_of w) leader) ≡ map (instance_at w) keys
led-members w leader first keys h key lead are = led leader first key lead ∙ ap (map (instance_at w)) (sym are)
  where
    led : (l : Option EventNo) (o : Option Key) → o ≡ leader_key w l → IfSome o (λ k. leads (post_at w) k ≡ true) → members_led (group_led (stage_of w) l) ≡ map (instance_at w) (keys_led w o)
    led None None is lead = refl
    led None (Some k) is lead = absurd (cc)
    led (Some e) None is lead = ap members_led (group-led w e None h (sym is))
    led (Some e) (Some k) is lead =
        let own : (entry_at w k).leader ≡ k = key-is (entry_at w k).leader k (is_key-true k (entry_at w k).leader (leads-parts (is_live w k) (is_key k (entry_at w k).leader) lead).1) in
        ap members_led (group-led w e (Some k) h (sym is)) ∙ (ap (λ q. members_of (group_at w q)) own ∙ group-members w.hardware w k h lead)

-- so the tests of its group
any-mapped : {X Y : Type 0} (test : Y → Bool) (f : X → Y) (xs : List X) → list_any test (map f xs) ≡ list_any (λ x. test (f x)) xs
any-mapped test f [] = refl
any-mapped test f (x ∷ xs) = ap (λ b. test (f x) || b) (any-mapped test f xs)

any-led : (test : Instance → Bool) (o : Option Group) → holds_of (λ g. list_any test (members_of g)) o ≡ list_any test (members_led o)
any-led test None = refl
any-led test (Some g) = refl

full-led : (o : Option Group) → holds_of (λ g. not (nat_lt (group_size g) 8)) o ≡ not (nat_lt (length (members_led o)) 8)
full-led None = refl
full-led (Some g) = refl

pub other-pmu-is : (w : World) (a : Attr) (leader : Option EventNo) (keys : List Key) → members_led (group_led (stage_of w) leader) ≡ map (instance_at w) keys
    → group_is_of_other_pmu w.hardware (stage_of w) a leader ≡ list_any (λ q. is_other_pmu w.hardware a.kind (instance_at w q).attr.kind) keys
other-pmu-is w a leader keys is =
    let test : Instance → Bool = λ i. is_other_pmu w.hardware a.kind i.attr.kind in
    any-led test (group_led (stage_of w) leader) ∙ (ap (list_any test) is ∙ any-mapped test (instance_at w) keys)

full-is : (w : World) (leader : Option EventNo) (keys : List Key) → members_led (group_led (stage_of w) leader) ≡ map (instance_at w) keys
    → group_is_full (stage_of w) leader ≡ not (nat_lt (length keys) 8)
full-is w leader keys is = full-led (group_led (stage_of w) leader) ∙ ap (λ n. not (nat_lt n 8)) (ap length is ∙ length-map keys (instance_at w))

pub group-faults : (w : World) (a : Attr) (leader : Option EventNo) (keys : List Key) → members_led (group_led (stage_of w) leader) ≡ map (instance_at w) keys
    → (reason.OtherPmu, group_is_of_other_pmu w.hardware (stage_of w) a leader) ∷ (reason.GroupFull, group_is_full (stage_of w) leader) ∷ [] ≡ group_faults w a.kind keys
group-faults w a leader keys is = λ i. (reason.OtherPmu, other-pmu-is w a leader keys is i) ∷ (reason.GroupFull, full-is w leader keys is i) ∷ []

pub room-is : (w : World) (leader : Option EventNo) (keys : List Key) → members_led (group_led (stage_of w) leader) ≡ map (instance_at w) keys
    → group_is_full (stage_of w) leader ≡ false → length keys < 8
room-is w leader keys is room = ltb-true (length keys) 8 (not-false (nat_lt (length keys) 8) (sym (full-is w leader keys is) ∙ room))
