-- That a world may take the new event of an open that is not refused, and what stage it is of then.
use Rattle.std.specs.Prelude.{◌≡◌, ℕ, zero, suc, ◌+◌, ◌^◌, ◌<◌, ◌≤◌, Bool, true, false, not, ◌&&◌, IsTrue, List, [], ◌∷◌, ◌++◌, length, map, filter, Option, Some, None, slice_index_or}
use Rattle.std.{specs.List.{list_any}, proofs.Common.{arith, refl, sym, ap, subst, ◌∙◌}}
use Rattle.std.proofs.lemmas.Bool.{false≢true, true≢false, and_parts, or_parts, not-false, Decides.{nat_tests}}
use Rattle.std.proofs.lemmas.{List.{get_or-map, length-map, map-append, Quantifiers.{all_pairs_push}}, Simd.{map-map}}
use Rattle.perf_base.specs.{Scripts.{IsAttr, IsTaskSel, IsCpuSel}, declared.attr.{Attr.{Attr}, CpuSel.{CpuSel}, Kind.{Kind}, TaskSel.{TaskSel}}}
use Rattle.perf_base.specs.{declared.numbers.{EventNo.{EventNo}, Key.{Key}}, Contexts.{context_of, context_by}}
use Rattle.perf_base.specs.declared.attr.CpuSel.TheVariants as cpus
use Rattle.perf_base.specs.declared.attr.TaskSel.TheVariants as tasks
use Rattle.stage_spec.specs.{declared.instance.Instance.{Instance}, Hardware.{is_software, mask_of, is_pmu, pmu_of_kind}, Fits.{fits}}
use Rattle.stage_spec.specs.{Opening.{is_other_pmu, new_original, open_refusal, opened}, Places.{is_same_task, is_same_cpu}, Refusals.{holds_of}}
use Rattle.stage_spec.specs.{Stage.{group_of, place_of}, Tight.{masks_of}}
use Rattle.stage_laws.proofs.{Accepted.{IsAccepted, accepted}, Grouped.{same_task, same_cpu}}
use Rattle.world_spec.specs.{Value.{World, is_live, entry_at, instance_at, family_of, is_key}, StageOf.{stage_of}}
use Rattle.world_spec.specs.{Kept.{leads, post_at, kinds_in, AreFitting}, Adding.{Newcomer, add}}
use Rattle.world_spec.{specs.Comings.{new_kinds, slot_led, MayCome, HasRoom, IsLedByOriginal}, proofs.{AddedStage.{open-stage}, Coming.{number_true}}}
use Rattle.world_spec.proofs.Families.{original-is}
use Rattle.perf_world.specs.{Parts.{MayAdd}, Seen.{IsWorld}}
use Rattle.event_open.specs.{Demanded.{demanded}, Opened.{leader_key, members_led, members_with, opened_as}}
use Rattle.event_open.proofs.{Admitting.{members-with, slot-free}, Demanding.{masks-by_kinds}}
use Rattle.event_open.proofs.Leaders.{IsOriginal, slot-original, closed-is, sibling-is, led-members, other-pmu-is, room-is}
use Rattle.event_open.proofs.Refusing.{none-holds}
use Rattle.stage_laws.proofs.Numbered.{context_by-place}
use Rattle.stage_laws.proofs.Groups.{other_pmu-back}
use Rattle.perf_world.proofs.Added.{may-come}
use Rattle.stage_spec.proofs.Carried.{no_fault}

-- the leader of an open that is not refused
pub record IsLeader (w : World) (a : Attr) (leader : EventNo) (k : Key) : Type 0 where
  pub named : (family_of w leader).original ≡ Some k
  pub original : IsOriginal w leader k
  pub leads : leads (post_at w) k ≡ true
  pub context : (entry_at w k).context ≡ context_of a
  pub members : members_led (group_of (stage_of w) leader) ≡ map (instance_at w) (entry_at w k).members
  pub room : length (entry_at w k).members < 8

same-context : (t u : TaskSel) (c d : CpuSel) → t ≡ u → c ≡ d → context_by t c ≡ context_by u d
same-context t u c d e f = λ i. context_by (e i) (f i)

leader-key : (w : World) (e : EventNo) (a : Attr) (leader : EventNo) (k : Key) → IsWorld w → IsAccepted w.hardware (stage_of w) e a (Some leader)
    → (family_of w leader).original ≡ Some k → IsLeader w a leader k
leader-key w e a leader k h fine named =
    let o : IsOriginal w leader k = slot-original w leader k h named in
    let own : is_key k (entry_at w k).leader ≡ true = not-false (is_key k (entry_at w k).leader) (sym (sibling-is w leader k h named) ∙ fine.leads) in
    let lead : leads (post_at w) k ≡ true = ap (λ live. live && is_key k (entry_at w k).leader) o.live ∙ own in
    let members : members_led (group_of (stage_of w) leader) ≡ map (instance_at w) (entry_at w k).members = led-members w (Some leader) (Some k) (entry_at w k).members h (sym named) lead refl in
    let here : (is_same_task (instance_at w k).attr.task a.task && is_same_cpu (instance_at w k).attr.cpu a.cpu) ≡ true =
    grind (arith, nat_tests, not-false, original-is) in
    let both = and_parts (is_same_task (instance_at w k).attr.task a.task) (is_same_cpu (instance_at w k).attr.cpu a.cpu) here in
    record {
      named = named;
      original = o;
      leads = lead;
      context = h.lawful.placed k o.live o.first
          ∙ same-context (instance_at w k).attr.task a.task (instance_at w k).attr.cpu a.cpu (same_task (instance_at w k).attr.task a.task both.0) (same_cpu (instance_at w k).attr.cpu a.cpu both.1);
      members = members;
      room = room-is w (Some leader) (entry_at w k).members members fine.room;
    }

pub led-by : (w : World) (e : EventNo) (a : Attr) (leader : EventNo) (o : Option Key) → IsWorld w → IsAccepted w.hardware (stage_of w) e a (Some leader)
    → (family_of w leader).original ≡ o → (k : Key) × IsLeader w a leader k
led-by w e a leader None h fine none = absurd (true≢false (sym (closed-is w leader None h none) ∙ fine.is_open))
led-by w e a leader (Some k) h fine some = (k, leader-key w e a leader k h fine some)

-- the group fits, and is of one PMU
abbrev other_pmu : (mine other : Option ℕ) → Bool
other_pmu mine other = holds_of (λ pmu. not (is_pmu other pmu)) mine

none-passes : (test : Key → Bool) (keys : List Key) → list_any test keys ≡ false → (n : ℕ) → n < length keys → test (slice_index_or keys n (record { 0 = 0 })) ≡ false
none-passes test [] h n low = absurd (omega (arith, low))
none-passes test (k ∷ keys) h zero low = (or_parts (test k) (list_any test keys) h).0
none-passes test (k ∷ keys) h (suc n) low = none-passes test keys (or_parts (test k) (list_any test keys) h).1 n (omega (arith, low))

kinds-whole : (w : World) (e : EventNo) (a : Attr) (keys : List Key)
    → map (λ i. i.attr.kind) (map (instance_at w) keys ++ new_original (stage_of w) e a ∷ []) ≡ map (λ k. (post_at w k).kind) keys ++ a.kind ∷ []
kinds-whole w e a keys = grind (arith, nat_tests, map-append, map-map)

fitting-by : (w : World) (kinds : List Kind) (xs : List Instance) → fits (masks_of (demanded w.hardware xs)) ≡ true → map (λ i. i.attr.kind) xs ≡ kinds
    → IsTrue (fits (map (mask_of w.hardware) (filter (λ k. not (is_software k)) kinds)))
fitting-by w kinds xs fit are = grind (arith, nat_tests, masks-by_kinds)

pub fitting-alone : (w : World) (e : EventNo) (a : Attr) → IsAccepted w.hardware (stage_of w) e a None → AreFitting w.hardware (a.kind ∷ [])
fitting-alone w e a fine = grind (arith, nat_tests, fitting-by)

pub fitting-led : (w : World) (e : EventNo) (a : Attr) (leader : EventNo) (k : Key) → IsWorld w → IsAccepted w.hardware (stage_of w) e a (Some leader) → IsLeader w a leader k
    → AreFitting w.hardware (kinds_in (post_at w) k ++ a.kind ∷ [])
fitting-led w e a leader k h fine led =
    let keys : List Key = (entry_at w k).members in
    let whole : members_with (stage_of w) e a (Some leader) ≡ map (instance_at w) keys ++ new_original (stage_of w) e a ∷ [] =
    members-with (group_of (stage_of w) leader) (new_original (stage_of w) e a) ∙ ap (λ xs. xs ++ new_original (stage_of w) e a ∷ []) led.members in
    let none : list_any (λ q. is_other_pmu w.hardware a.kind (instance_at w q).attr.kind) keys ≡ false =
    sym (other-pmu-is w a (Some leader) keys led.members) ∙ fine.pmu in
    record {
      fit = fitting-by w (kinds_in (post_at w) k ++ a.kind ∷ []) (members_with (stage_of w) e a (Some leader)) fine.fit (ap (map (λ i. i.attr.kind)) whole ∙ kinds-whole w e a keys);
      one_pmu = all_pairs_push (λ one other. is_other_pmu w.hardware one other ≡ false) (kinds_in (post_at w) k) a.kind (h.fitting k).one_pmu
          (λ n d low.
          let size : length (kinds_in (post_at w) k) ≡ length keys = length-map keys (λ q. (post_at w q).kind) in
          let q : Key = slice_index_or keys n (record { 0 = 0 }) in
          let is : slice_index_or (kinds_in (post_at w) k) n d ≡ (instance_at w q).attr.kind = get_or-map (λ q. (post_at w q).kind) keys n (record { 0 = 0 }) d (omega (arith, low, size)) in
          ap (λ one. is_other_pmu w.hardware one a.kind) is ∙ other_pmu-back (pmu_of_kind w.hardware a.kind) (pmu_of_kind w.hardware (instance_at w q).attr.kind)
          (none-passes (λ j. is_other_pmu w.hardware a.kind (instance_at w j).attr.kind) keys none n (omega (arith, low, size))));
    }

-- so the world may take it
pub fitting-new : (w : World) (e : EventNo) (a : Attr) (leader : Option EventNo) → IsWorld w → IsAccepted w.hardware (stage_of w) e a leader
    → AreFitting w.hardware (new_kinds w (opened_as w e a leader) (leader_key w leader))
fitting-new w e a None h fine = fitting-alone w e a fine
fitting-new w e a (Some leader) h fine =
    let led = led-by w e a leader (family_of w leader).original h fine refl in
    subst (λ o. AreFitting w.hardware (new_kinds w (opened_as w e a (Some leader)) o)) (sym led.1.named) (fitting-led w e a leader led.0 h fine led.1)

pub room-new : (w : World) (e : EventNo) (a : Attr) (leader : Option EventNo) → IsWorld w → IsAccepted w.hardware (stage_of w) e a leader
    → HasRoom w (opened_as w e a leader) (leader_key w leader)
room-new w e a None h fine = tt
room-new w e a (Some leader) h fine =
    let led = led-by w e a leader (family_of w leader).original h fine refl in
    subst (HasRoom w (opened_as w e a (Some leader))) (sym led.1.named) (led.1.leads, led.1.context, led.1.room)

pub may-add : (w : World) (e : EventNo) (a : Attr) (leader : Option EventNo) → IsWorld w → e.0 < 256
    → IsAttr (length w.quiet.running) (length w.hardware.kind_pmus) a → length w.quiet.running ≤ 8 → w.quiet.next_id + 1 < 2 ^ 63
    → open_refusal w.hardware (stage_of w) e a leader ≡ None → MayAdd w (opened_as w e a leader)
may-add w e a leader h slot attr few ids free =
    let fine : IsAccepted w.hardware (stage_of w) e a leader = accepted w.hardware (stage_of w) e a leader free in
    record {
      slot = slot;
      place = context_by-place (length w.quiet.running) a.task a.cpu few attr.task attr.cpu;
      known = (none-holds w.hardware (stage_of w) e a leader (no_fault w.hardware (stage_of w) e a leader free)).known;
      kind = attr.kind;
      first_there = λ j live same place. slot-free w e h fine.unused j live same;
      fitting = fitting-new w e a leader h fine;
      ids = ids;
      original = record { unused = λ first. fine.unused; placed = λ first. refl; of_task = λ copy. absurd (false≢true copy); few = λ copy. absurd (false≢true copy); original = λ copy. absurd (false≢true copy) };
      group = room-new w e a leader h fine;
    }

-- and the stage is then what the open makes of it
led-original : (w : World) (e : EventNo) (a : Attr) (leader : Option EventNo) → IsWorld w → IsAccepted w.hardware (stage_of w) e a leader
    → IsLedByOriginal w (leader_key w leader) × (slot_led w (leader_key w leader) ≡ leader)
led-original w e a None h fine = (tt, refl)
led-original w e a (Some leader) h fine =
    let led = led-by w e a leader (family_of w leader).original h fine refl in
    subst (λ o. IsLedByOriginal w o × (slot_led w o ≡ Some leader)) (sym led.1.named) (led.1.original.first, ap (λ x. Some x) led.1.original.event)

pub stage-opened : (w : World) (e : EventNo) (a : Attr) (leader : Option EventNo) (k : Key) → IsWorld w → MayAdd w (opened_as w e a leader)
    → open_refusal w.hardware (stage_of w) e a leader ≡ None → is_live w k ≡ false → stage_of (add k (opened_as w e a leader) w) ≡ opened (stage_of w) e a leader
stage-opened w e a leader k h may free fresh =
    let n : Newcomer = opened_as w e a leader in
    let led = led-original w e a leader h (accepted w.hardware (stage_of w) e a leader free) in
    open-stage w.hardware w k n h (may-come w n k may fresh) may.group refl refl led.0 ∙ ap (opened (stage_of w) e a) led.1
