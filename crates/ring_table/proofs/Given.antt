-- What a ring that an original is given makes of a world and its stage, and that processors stand as they stood.
use Rattle.std.specs.{Prelude.{◌≡◌, ◌==◌, ◌<◌, ◌≤◌, Bool, true, false, List, [], ◌∷◌, ◌++◌, length, Option, Some, None, if◌then◌else◌}, List.{list_any}}
use Rattle.std.proofs.Common.{arith, refl, sym, ap, ◌∙◌}
use Rattle.perf_base.specs.declared.{lines.ToolLine.{ToolLine}, numbers.{CpuNo.{CpuNo}, CpuSet.{CpuSet}, EventNo.{EventNo}, Key.{Key}, RingNo.{RingNo}}}
use Rattle.stage_spec.specs.{Hardware.{Hardware}, History.{ToolStep, tool_changed, tool_refusal}, Mapping.{mapped_to, map_refusal, output_to, ring_of, set_ring}}
use Rattle.stage_laws.{specs.{Narrowing.{has_context, tool_touches}, OneByOne.{change_one}, Standings.{briefs}}, proofs.OneByOne.{ring-one}}
use Rattle.stage_laws.proofs.Untouched.{map-briefs, output-briefs}
use Rattle.world_spec.specs.{Lines.{HasChanged}, Quiet.{is_quiet_call}, Value.{World, Entry, is_live, entry_at, instance_at, standing_at, seats_at, family_of}, StageOf.{stage_of}}
use Rattle.world_spec.{specs.{Kept.{leads, post_at}, Changes.{remember}, Laws.{remembered}, Rescheduled.{AreUntouched, IsUntouched}}, proofs.Listings.{is-numbered}}
use Rattle.world_spec.proofs.{Keys.{key-is}, Lines.{KeepsAll, all-shares, all-slots, still-changed}, Standing.{left-untouched}, Tables.{entry-here, entry-there, live-written, posts-same}}
use Rattle.world_spec.specs.Changes as change
use Rattle.perf_world.specs.Seen.{IsWorld}
use Rattle.ring_table.{specs.Rings.{HasRing}, proofs.Refusing.{not-busy, original-named}}

-- a ring that is new is remembered last
remembers : (ring : RingNo) (mapped : List RingNo) → list_any (λ r. r.0 == ring.0) mapped ≡ false → remember ring mapped ≡ mapped ++ ring ∷ []
remembers ring mapped new = ap {B = List RingNo} (λ b. if b then mapped else mapped ++ ring ∷ []) new

has-ring : (w new : World) (e : EventNo) (ring : RingNo) (owner : Bool) (mapped : List RingNo) (k : Key) → is_live w k ≡ true → (family_of w e).original ≡ Some k
    → new ≡ change.set_ring k ring owner w → (if owner then remember ring w.quiet.mapped else w.quiet.mapped) ≡ mapped → HasRing e (Some ring) owner mapped w new
has-ring w new e ring owner mapped k live is changed those = grind (arith, live-written, entry-here, entry-there)

pub map-rest : (w new : World) (e : EventNo) (ring : RingNo) (k : Key) → is_live w k ≡ true → (family_of w e).original ≡ Some k → map_refusal (stage_of w) e ring ≡ None
    → new ≡ change.set_ring k ring true w → HasRing e (Some ring) true (w.quiet.mapped ++ ring ∷ []) w new
map-rest w new e ring k live is free changed = grind (arith, has-ring, remembers, not-busy)

pub output-rest : (w new : World) (e f : EventNo) (ring : RingNo) (k : Key) → is_live w k ≡ true → (family_of w e).original ≡ Some k → ring_of (stage_of w) f ≡ Some ring
    → new ≡ change.set_ring k ring false w → HasRing e (ring_of (stage_of w) f) false w.quiet.mapped w new
output-rest w new e f ring k live is to changed = grind (arith, has-ring)

-- on the stage one instance is changed
ring-stage : (w new : World) (e : EventNo) (ring : RingNo) (owner : Bool) (k : Key) → IsWorld w → (family_of w e).original ≡ Some k
    → stage_of new ≡ remembered ring owner (change_one (λ i. record i { ring = Some ring; mapped = owner }) (instance_at w k).id (stage_of w))
    → stage_of new ≡ remembered ring owner (set_ring e (Some ring) owner (stage_of w))
ring-stage w new e ring owner k h is changed =
    changed ∙ ap (remembered ring owner) (ring-one e (Some ring) owner (stage_of w) (instance_at w k) (is-numbered w.hardware w h) (original-named w e (Some k) h is))

pub map-stage : (w new : World) (e : EventNo) (ring : RingNo) (k : Key) → IsWorld w → (family_of w e).original ≡ Some k → map_refusal (stage_of w) e ring ≡ None
    → stage_of new ≡ remembered ring true (change_one (λ i. record i { ring = Some ring; mapped = true }) (instance_at w k).id (stage_of w))
    → stage_of new ≡ mapped_to e ring (stage_of w)
unfolding mapped_to
map-stage w new e ring k h is free changed = grind (arith, ring-stage, remembers, not-busy)

pub output-stage : (w new : World) (e f : EventNo) (ring : RingNo) (k : Key) → IsWorld w → (family_of w e).original ≡ Some k → ring_of (stage_of w) f ≡ Some ring
    → stage_of new ≡ remembered ring false (change_one (λ i. record i { ring = Some ring; mapped = false }) (instance_at w k).id (stage_of w))
    → stage_of new ≡ output_to e f (stage_of w)
unfolding output_to
output-stage w new e f ring k h is to changed = ring-stage w new e ring false k h is changed ∙ ap (λ o. set_ring e o false (stage_of w)) (sym to)

-- processors see no ring
stays : (w new : World) (ring : RingNo) (owner : Bool) (k : Key) (cpu : CpuNo) → is_live w k ≡ true → new ≡ change.set_ring k ring owner w → cpu.0 < 8
    → briefs w.hardware (stage_of new) cpu ≡ briefs w.hardware (stage_of w) cpu → IsUntouched w.hardware w new cpu
stays w new ring owner k cpu live changed low same =
    let posts : post_at new ≡ post_at w = ap post_at changed ∙ posts-same (λ i. record i { ring = Some ring; mapped = owner }) (λ there x. refl) w k live in
    left-untouched w.hardware w new cpu low (record {
      briefs = same;
      seats = ap (λ (x : World). seats_at x cpu) changed;
      groups = λ q lead has. (
        ap (λ at. leads at q) (sym posts) ∙ lead,
        sym (λ t. has_context (stage_of (record w { quiet = (changed t).quiet })) cpu (posts t q).context) ∙ has,
        ap (λ at. (at q).id) posts,
        ap (λ (x : World). standing_at x q) changed,
      );
    })

pub map-stays : (w new : World) (e : EventNo) (ring : RingNo) (k : Key) (cpu : CpuNo) → is_live w k ≡ true → new ≡ change.set_ring k ring true w
    → stage_of new ≡ mapped_to e ring (stage_of w) → cpu.0 < 8 → IsUntouched w.hardware w new cpu
map-stays w new e ring k cpu live changed stage low =
    stays w new ring true k cpu live changed low (ap (λ s. briefs w.hardware s cpu) stage ∙ map-briefs w.hardware e ring (stage_of w) cpu)

pub output-stays : (w new : World) (e f : EventNo) (ring : RingNo) (k : Key) (cpu : CpuNo) → is_live w k ≡ true → new ≡ change.set_ring k ring false w
    → stage_of new ≡ output_to e f (stage_of w) → cpu.0 < 8 → IsUntouched w.hardware w new cpu
output-stays w new e f ring k cpu live changed stage low =
    stays w new ring false k cpu live changed low (ap (λ s. briefs w.hardware s cpu) stage ∙ output-briefs w.hardware e f (stage_of w) cpu)

-- what a ring leaves of an entry, and its line of all
record StaysEntry (before after : Entry) : Type 0 where
  id : after.instance.id ≡ before.instance.id
  context : after.context ≡ before.context

entry-stays : (w new : World) (e : EventNo) (ring : Option RingNo) (owner : Bool) (mapped : List RingNo) (k : Key) → HasRing e ring owner mapped w new → StaysEntry (entry_at w k) (entry_at new k)
entry-stays w new e ring owner mapped k g = grind (arith, key-is)

ring-keeps : (w new : World) (e : EventNo) (ring : Option RingNo) (owner : Bool) (mapped : List RingNo) → HasRing e ring owner mapped w new → KeepsAll w new
ring-keeps w new e ring owner mapped g = grind (arith, entry-stays)

pub ring-changed : (w new : World) (l : ToolLine) (set : CpuSet) (e : EventNo) (ring : Option RingNo) (owner : Bool) (mapped : List RingNo) → IsWorld w → IsWorld new → HasRing e ring owner mapped w new
    → is_quiet_call l ≡ true → tool_refusal w.hardware (stage_of w) l ≡ None → stage_of new ≡ tool_changed l (stage_of w) → ((cpu : CpuNo) → tool_touches (stage_of w) l cpu ≡ false) → set.0 ≡ 0
    → AreUntouched w new → HasChanged (ToolStep l) w new set
ring-changed w new l set e ring owner mapped h h_then given quiet =
    let keeps : KeepsAll w new = ring-keeps w new e ring owner mapped given in
    still-changed w new l set h h_then (all-slots w new keeps) (λ k. all-shares w new (ToolStep l) k h quiet keeps)

-- a machine has eight processors at most
pub few-cpus : (pmus : Hardware) (w : World) (cpu : CpuNo) → IsWorld w → pmus ≡ w.hardware → length pmus.cpu_pmus ≤ 8 → cpu.0 < length w.quiet.running → cpu.0 < 8
few-cpus pmus w cpu h same few low = omega (arith, low, h.shape.running, few, ap (λ (x : Hardware). length x.cpu_pmus) same)
