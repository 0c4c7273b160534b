-- What is looked at of a group by its keys, and that its events can be put on the counters of a processor on which it
-- is eligible.
use Rattle.std.specs.Prelude.{◌≡◌, ℕ, suc, ◌<◌, ◌≤◌, Bool, true, false, ◌&&◌, cond, All, List, [], ◌∷◌, map, filter, slice_index, slice_index_or}
use Rattle.std.{specs.List.{list_all}, proofs.{Common.{arith, refl, sym, ap, subst, ◌∙◌, inl, inr}, lemmas.Bool.{cases_Bool, cases_lt}}}
use Rattle.std.proofs.lemmas.{Bool.Decides.{nat_tests}, List.{get_or_past, Elements.{All-cons}}}
use Rattle.perf_base.specs.{Masks.{IsMask}, declared.{attr.Kind.{Kind}, numbers.{CpuNo.{CpuNo}, EventNo.{EventNo}, Key.{Key}}}}
use Rattle.perf_base.specs.declared.attr.Kind.TheVariants as kind
use Rattle.stage_spec.specs.{declared.instance.Instance.{Instance}, Effective.{is_ready, is_hardware, is_wholly_software, counted_members}}
use Rattle.stage_spec.specs.{Hardware.{Hardware, IsHardware, is_software, mask_of, counters_of, is_counted_on}}
use Rattle.stage_spec.specs.{Stage.{Group, members_of}, Tight.{masks_of}, Verdict.{is_eligible, with_masks}}
use Rattle.world_spec.specs.{Kept.{leads, post_at, once_if, IsKept}, StageOf.{group_at}, Value.{World, entry_at, instance_at, is_live, is_key, times}}
use Rattle.world_spec.proofs.{Copies.{times-at}, Families.{group-members}, Moving.{leads-parts}}
use Rattle.perf_world.proofs.Gone.{counted}

-- the members of a group are there
pub members-live : (hw : Hardware) (w : World) (k : Key) (keys : List Key) → IsKept hw w → keys ≡ (entry_at w k).members → All (λ q. is_live w q ≡ true) keys
members-live hw w k keys h is i d low =
    let q : Key = slice_index_or keys i d in
    counted (is_live w q) (is_key k (entry_at w q).leader) (omega (arith, h.linked.members q k, ap (times q) is, times-at keys i d low))

pub by-members : (hw : Hardware) (w : World) (k : Key) (keys : List Key) → IsKept hw w → leads (post_at w) k ≡ true → keys ≡ (entry_at w k).members → map (instance_at w) keys ≡ members_of (group_at w k)
by-members hw w k keys h lead is = ap (map (instance_at w)) is ∙ sym (group-members hw w k h lead)

-- a wholly software group needs no counter
no-more : (b : Bool) (xs ys : List Instance) → cond (b && false) xs ys ≡ ys
no-more true xs ys = refl
no-more false xs ys = refl

none-needed : (is : List Instance) → list_all (λ i. is_software i.attr.kind) is ≡ true → filter (λ i. is_ready i.own && is_hardware i) is ≡ []
none-needed [] h = refl
none-needed (i ∷ is) h =
    let parts : (is_software i.attr.kind ≡ true) × (list_all (λ j. is_software j.attr.kind) is ≡ true) = leads-parts (is_software i.attr.kind) (list_all (λ j. is_software j.attr.kind) is) h in
    grind (arith, nat_tests, no-more, none-needed is parts.1)

pub software-uncounted : (hw : Hardware) (g : Group) → is_wholly_software g ≡ true → with_masks hw (counted_members g) ≡ []
software-uncounted hw g h = ap (with_masks hw) (none-needed (members_of g) h)

-- A mask of a kind that a processor's PMU counts is on its counters.
hard-fits : (hw : Hardware) (cpu : CpuNo) (n : ℕ) → IsHardware hw → is_counted_on hw cpu (kind.Hard n) ≡ true → 0 < slice_index hw.masks n → IsMask (counters_of hw cpu) (slice_index hw.masks n)
hard-fits hw cpu n h counts some = grind (arith, nat_tests, cases_lt, get_or_past)

mask-fits : (hw : Hardware) (cpu : CpuNo) (k : Kind) → IsHardware hw → is_counted_on hw cpu k ≡ true → 0 < mask_of hw k → IsMask (counters_of hw cpu) (mask_of hw k)
mask-fits hw cpu (kind.Hard n) h counts some = hard-fits hw cpu n h counts some
mask-fits hw cpu kind.ContextSwitches h counts some = absurd (omega (arith, some))
mask-fits hw cpu kind.CpuMigrations h counts some = absurd (omega (arith, some))
mask-fits hw cpu kind.TaskClock h counts some = absurd (omega (arith, some))
mask-fits hw cpu kind.Dummy h counts some = absurd (omega (arith, some))

-- so are the masks of the members that need counters of a group that is eligible there
masks-each : (hw : Hardware) (cpu : CpuNo) (p : Instance → Bool) (is : List Instance) → IsHardware hw → list_all (λ i. is_counted_on hw cpu i.attr.kind) is ≡ true
    → All (λ mask. 0 < mask) (masks_of (with_masks hw (filter p is))) → All (IsMask (counters_of hw cpu)) (masks_of (with_masks hw (filter p is)))
masks-each hw cpu p [] h counts some = λ k d low. absurd (omega (arith, low))
masks-each hw cpu p (i ∷ is) h counts some =
    let parts : (is_counted_on hw cpu i.attr.kind ≡ true) × (list_all (λ j. is_counted_on hw cpu j.attr.kind) is ≡ true) =
    leads-parts (is_counted_on hw cpu i.attr.kind) (list_all (λ j. is_counted_on hw cpu j.attr.kind) is) counts in
    elim (cases_Bool (p i)) [
      | inl e ↦
          let all : All (λ mask. 0 < mask) (mask_of hw i.attr.kind ∷ masks_of (with_masks hw (filter p is))) =
          subst (λ b. All (λ mask. 0 < mask) (masks_of (with_masks hw (cond b (i ∷ filter p is) (filter p is))))) e some in
          subst (λ b. All (IsMask (counters_of hw cpu)) (masks_of (with_masks hw (cond b (i ∷ filter p is) (filter p is))))) (sym e)
          (All-cons (IsMask (counters_of hw cpu)) (mask_of hw i.attr.kind) (masks_of (with_masks hw (filter p is)))
          (mask-fits hw cpu i.attr.kind h parts.0 (all 0 0 (omega arith)))
          (masks-each hw cpu p is h parts.1 (λ k d low. all (suc k) d (omega (arith, low)))))
      | inr e ↦
          subst (λ b. All (IsMask (counters_of hw cpu)) (masks_of (with_masks hw (cond b (i ∷ filter p is) (filter p is))))) (sym e)
          (masks-each hw cpu p is h parts.1 (subst (λ b. All (λ mask. 0 < mask) (masks_of (with_masks hw (cond b (i ∷ filter p is) (filter p is))))) e some))
    ]

pub group-fits : (hw : Hardware) (cpu : CpuNo) (g : Group) (events : List (EventNo × ℕ)) (counters : ℕ) → IsHardware hw → is_eligible hw cpu g ≡ true → events ≡ with_masks hw (counted_members g)
    → All (λ mask. 0 < mask) (masks_of events) → counters ≡ counters_of hw cpu → All (IsMask counters) (masks_of events)
group-fits hw cpu g events counters h eligible is some same =
    let counts : list_all (λ i. is_counted_on hw cpu i.attr.kind) (members_of g) ≡ true = grind (arith, nat_tests, leads-parts) in
    subst (λ n. All (IsMask n) (masks_of events)) (sym same)
    (subst (λ es. All (IsMask (counters_of hw cpu)) (masks_of es)) (sym is)
    (masks-each hw cpu (λ i. is_ready i.own && is_hardware i) (members_of g) h counts (subst (λ es. All (λ mask. 0 < mask) (masks_of es)) is some)))
