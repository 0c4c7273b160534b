-- The first reason of lists that are put together, and so the refusal of an open part by part.
use Rattle.std.specs.{Prelude.{◌≡◌, Bool, false, List, [], ◌∷◌, ◌++◌, map, Option, Some, None}, Option.{option_or}}
use Rattle.std.proofs.{Common.{refl, sym, ap, ◌∙◌, inl, inr}, lemmas.Bool.{cases_Bool}}
use Rattle.perf_base.specs.declared.{attr.Attr.{Attr}, numbers.{EventNo.{EventNo}, Key.{Key}}, reasons.Reason.{Reason}}
use Rattle.perf_base.specs.declared.reasons.Reason.TheVariants as reason
use Rattle.stage_spec.specs.{Checks.{has_unknown_sample}, Hardware.{Hardware}}
use Rattle.stage_spec.specs.Opening.{is_used, group_is_of_other_pmu, group_is_full, group_led, open_faults, open_refusal, unassignable}
use Rattle.stage_spec.{specs.{Refusals.{first_of}, Stage.{Stage}}, proofs.Each.{Each}}
use Rattle.stage_laws.proofs.Accepted.{no_reason}
use Rattle.world_spec.specs.{StageOf.{stage_of}, Value.{World, instance_at, family_of}}
use Rattle.perf_world.specs.Seen.{IsWorld}
use Rattle.event_open.specs.{Demanded.{demanded, demanded_with}, Faults.{event_faults, leader_faults, group_faults}}
use Rattle.event_open.{specs.Opened.{members_led, members_with}, proofs.{Admitting.{demands-whole}, Leaders.{closed-is, group-faults}}}
use Rattle.stage_spec.proofs.Carried.{no_fault}

first-append : (xs ys : List (Reason × Bool)) → first_of (xs ++ ys) ≡ option_or (first_of xs) (first_of ys)
first-append [] ys = refl
first-append (f ∷ xs) ys = elim (cases_Bool f.1) [
  | inl holds ↦ rw holds refl
  | inr fails ↦ rw fails (first-append xs ys)
]

-- the reason where the leader that is given is not open
pub closed-first : (w : World) (a : Attr) (e : EventNo) → IsWorld w → (family_of w e).original ≡ None → first_of (leader_faults (stage_of w) a (Some e)) ≡ Some reason.NoEvent
closed-first w a e h is = rw (closed-is w e None h is) refl

-- the slot of an event for which there is no reason by itself was not used
pub slot-unused : (hw : Hardware) (s : Stage) (e : EventNo) (a : Attr) → first_of (event_faults hw s e a) ≡ None → is_used s e ≡ false
unfolding Each
slot-unused hw s e a h = (no_reason (event_faults hw s e a) h).0

-- the refusal of an open, part by part
abbrev its_group_faults : Hardware → Stage → Attr → Option EventNo → List (Reason × Bool)
its_group_faults hw s a leader = (reason.OtherPmu, group_is_of_other_pmu hw s a leader) ∷ (reason.GroupFull, group_is_full s leader) ∷ []

refusal-last : (hw : Hardware) (s : Stage) (e : EventNo) (a : Attr) (leader : Option EventNo)
    → open_refusal hw s e a leader ≡ option_or (first_of (open_faults hw s e a leader)) (unassignable (demanded hw (members_with s e a leader)))
unfolding open_refusal
refusal-last hw s e a leader = last (first_of (open_faults hw s e a leader)) (unassignable (demanded hw (members_with s e a leader)))
  where
    last : (o other : Option Reason) → (elim o as (λ x. Option Reason) [ Some r ↦ Some r | None ↦ other ]) ≡ option_or o other
    last None other = refl
    last (Some r) other = refl

or-nested : (a b c d : Option Reason) → option_or (option_or a (option_or b c)) d ≡ option_or a (option_or b (option_or c d))
or-nested None None c d = refl
or-nested None (Some r) c d = refl
or-nested (Some r) b c d = refl

pub refusal-parts : (hw : Hardware) (s : Stage) (e : EventNo) (a : Attr) (leader : Option EventNo) → open_refusal hw s e a leader
    ≡ option_or (first_of (event_faults hw s e a)) (option_or (first_of (leader_faults s a leader)) (option_or (first_of (its_group_faults hw s a leader)) (unassignable (demanded hw (members_with s e a leader)))))
refusal-parts hw s e a leader =
    let last : Option Reason = unassignable (demanded hw (members_with s e a leader)) in
    refusal-last hw s e a leader
    ∙ (ap (λ o. option_or o last) (first-append (event_faults hw s e a) (leader_faults s a leader ++ its_group_faults hw s a leader) ∙ ap (option_or (first_of (event_faults hw s e a))) (first-append (leader_faults s a leader) (its_group_faults hw s a leader)))
    ∙ or-nested (first_of (event_faults hw s e a)) (first_of (leader_faults s a leader)) (first_of (its_group_faults hw s a leader)) last)

-- the last parts by the keys of the group's members
pub refusal-keys : (w : World) (e : EventNo) (a : Attr) (leader : Option EventNo) (keys : List Key) → members_led (group_led (stage_of w) leader) ≡ map (instance_at w) keys → open_refusal w.hardware (stage_of w) e a leader
    ≡ option_or (first_of (event_faults w.hardware (stage_of w) e a)) (option_or (first_of (leader_faults (stage_of w) a leader)) (option_or (first_of (group_faults w a.kind keys)) (unassignable (demanded_with w.hardware (map (instance_at w) keys) e a.kind))))
refusal-keys w e a leader keys is =
    refusal-parts w.hardware (stage_of w) e a leader
    ∙ (λ i. option_or (first_of (event_faults w.hardware (stage_of w) e a)) (option_or (first_of (leader_faults (stage_of w) a leader))
    (option_or (first_of (group-faults w a leader keys is i)) (unassignable (sym (demands-whole w e a leader (map (instance_at w) keys) is) i)))))

-- what an open that is not refused gives of these
neither : (o other : Option Reason) → option_or o other ≡ None → o ≡ None
neither None other h = refl
neither (Some r) other h = h

pub record AreNone (s : Stage) (e : EventNo) (a : Attr) : Type 0 where
  pub unused : is_used s e ≡ false
  pub known : has_unknown_sample a ≡ false

pub none-holds : (hw : Hardware) (s : Stage) (e : EventNo) (a : Attr) (leader : Option EventNo) → first_of (open_faults hw s e a leader) ≡ None → AreNone s e a
unfolding Each
none-holds hw s e a leader h = let none = no_reason (open_faults hw s e a leader) h in record { unused = none.0; known = none.1.1.0 }
