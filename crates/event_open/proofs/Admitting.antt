-- What an open that is not refused gives of the leader's group and of the new event, by the keys of a world.
use Rattle.std.specs.Prelude.{◌≡◌, ◌≢◌, ◌≤◌, Bool, true, false, List, [], ◌∷◌, ◌++◌, length, map, Option, Some, None, slice_index_or}
use Rattle.std.{specs.List.{AllPairs}, proofs.{Common.{arith, refl, sym, ap, subst, ◌∙◌}, lemmas.Bool.{false≢true}}}
use Rattle.std.proofs.lemmas.List.{get_or-map, length-map, Quantifiers.{all_pairs_push}}
use Rattle.perf_base.specs.declared.{attr.Attr.{Attr}, numbers.{EventNo.{EventNo}, Key.{Key}}}
use Rattle.stage_spec.specs.{declared.instance.Instance.{Instance}, Opening.{is_used, group_led, group_with, new_original}}
use Rattle.stage_spec.specs.Stage.{Group, members_of, place_of}
use Rattle.counter_match.specs.Seating.{AreDistinct}
use Rattle.world_spec.specs.{Value.{World, is_live, entry_at, instance_at, times}, StageOf.{stage_of}}
use Rattle.world_spec.{specs.Kept.{post_at, once_if, is_member_of}, proofs.{Coming.{three, number_true}, Copies.{times-at}}}
use Rattle.perf_world.specs.Seen.{IsWorld}
use Rattle.event_open.specs.{Demanded.{demanded, demanded_with}, Opened.{keys_led, members_led, members_with}}
use Rattle.event_open.proofs.{Demanding.{demanded-distinct, demanded-push, pairs-mapped, pairs-of_keys}, Leaders.{member-lives}}
use Rattle.world_spec.proofs.Copying.{at-most-once}

-- two members of a group are not in one slot
pub members-apart : (w : World) (m : Key) → IsWorld w → AllPairs (λ j k. (instance_at w j).event ≢ (instance_at w k).event) (entry_at w m).members
members-apart w m h =
    pairs-of_keys (λ j k. (instance_at w j).event ≢ (instance_at w k).event) (entry_at w m).members
    (λ k. omega (arith, h.linked.members k m, at-most-once (is_member_of (post_at w) m k)))
    (λ j k some_j some_k apart same.
    let one : (is_live w j ≡ true) × ((entry_at w j).leader ≡ m) = member-lives w m j h some_j in
    let other : (is_live w k ≡ true) × ((entry_at w k).leader ≡ m) = member-lives w m k h some_k in
    let here : (entry_at w m).context ≡ (entry_at w j).context = ap (λ x. (entry_at w x).context) (sym one.1) ∙ h.grouped.together j one.0 in
    let there : (entry_at w m).context ≡ (entry_at w k).context = ap (λ x. (entry_at w x).context) (sym other.1) ∙ h.grouped.together k other.0 in
    apart (h.apart.one_each j k one.0 other.0 (ap (λ e. e.0) same) (ap place_of (sym here ∙ there))))

-- no instance is in a slot that was not used
pub slot-free : (w : World) (e : EventNo) → IsWorld w → is_used (stage_of w) e ≡ false → (j : Key) → is_live w j ≡ true → (instance_at w j).event.0 ≡ e.0 → ⊥
slot-free w e h unused j live slot =
    let used : (k : Key) → is_live w k ≡ true → (instance_at w k).copy ≡ false → (instance_at w k).event.0 ≡ e.0 → ⊥ = λ k lives first there.
    false≢true (sym unused ∙ (ap (λ n. is_used (stage_of w) (record { 0 = n })) (sym there) ∙ h.lawful.used k lives first)) in
    grind (arith, three, used, number_true)

-- so a group asks for counters for different slots, also with the new event
apart-with : (w : World) (e : EventNo) (a : Attr) (m : Key) → IsWorld w → is_used (stage_of w) e ≡ false
    → AllPairs (λ i j. i.event ≢ j.event) (map (instance_at w) (entry_at w m).members ++ new_original (stage_of w) e a ∷ [])
apart-with w e a m h unused =
    let keys : List Key = (entry_at w m).members in
    all_pairs_push (λ i j. i.event ≢ j.event) (map (instance_at w) keys) (new_original (stage_of w) e a)
    (pairs-mapped (λ i j. i.event ≢ j.event) (instance_at w) keys (members-apart w m h))
    (λ n d low same.
    let size : length (map (instance_at w) keys) ≡ length keys = length-map keys (instance_at w) in
    let k : Key = slice_index_or keys n (record { 0 = 0 }) in
    let some : 1 ≤ times k keys = times-at keys n (record { 0 = 0 }) (omega (arith, low, size)) in
    let is : slice_index_or (map (instance_at w) keys) n d ≡ instance_at w k = get_or-map (instance_at w) keys n (record { 0 = 0 }) d (omega (arith, low, size)) in
    slot-free w e h unused k (member-lives w m k h some).0 (ap (λ i. i.event.0) (sym is) ∙ ap (λ x. x.0) same))

pub demands-distinct : (w : World) (e : EventNo) (a : Attr) (first : Option Key) → IsWorld w → is_used (stage_of w) e ≡ false
    → AreDistinct (demanded_with w.hardware (map (instance_at w) (keys_led w first)) e a.kind)
demands-distinct w e a first h unused = subst AreDistinct (demanded-push w.hardware (map (instance_at w) (keys_led w first)) new) (demanded-distinct w.hardware (map (instance_at w) (keys_led w first) ++ new ∷ []) (pairs first))
  where
    new : Instance
    new = new_original (stage_of w) e a

    pairs : (o : Option Key) → AllPairs (λ i j. i.event ≢ j.event) (map (instance_at w) (keys_led w o) ++ new ∷ [])
    pairs None = λ i j d before low. absurd (omega (arith, before, low))
    pairs (Some m) = apart-with w e a m h unused

-- the members of the group with the new event, and what they ask for
pub members-with : (o : Option Group) (i : Instance) → members_of (group_with o i) ≡ members_led o ++ i ∷ []
members-with None i = refl
members-with (Some g) i = refl

pub demands-whole : (w : World) (e : EventNo) (a : Attr) (leader : Option EventNo) (xs : List Instance) → members_led (group_led (stage_of w) leader) ≡ xs
    → demanded_with w.hardware xs e a.kind ≡ demanded w.hardware (members_with (stage_of w) e a leader)
demands-whole w e a leader xs is = grind (arith, demanded-push, members-with)
