-- What differs from a sound stage in leaders' own states alone is sound.
use Rattle.std.specs.Prelude.{◌≡◌, ◌<◌, ◌≤◌, ◌==◌, Bool, true, false, All, IsTrue, List, [], ◌∷◌, map, filter, length, find, Option, Some, None, slice_index_or}
use Rattle.std.{specs.List.{list_any}, proofs.{Common.{arith, refl, sym, ap, ◌∙◌, subst}, lemmas.{List.{length-map}, Simd.{map-map}}}}
use Rattle.perf_base.specs.{declared.{numbers.RingNo.{RingNo}, reasons.Reason.{Reason}}, Contexts.{context_of}}
use Rattle.perf_base.specs.declared.standing.Context.TheVariants as context
use Rattle.stage_spec.specs.{declared.instance.Instance.{Instance}, Hardware.{Hardware}, Flags.{is_pinned}}
use Rattle.stage_spec.specs.Stage.{Stage, Group, members_of, group_size, Lists, lists_of, no_groups, all_groups, all_instances, is_of_family, is_original, is_copy, original_of, unknown_task, is_live, was_used}
use Rattle.stage_spec.specs.{Effective.{is_hardware}, Verdict.{with_masks, instances_in, reached}, Opening.{is_other_pmu}, Settle.{settle}}
use Rattle.stage_spec.specs.History.{Step, CpuStep, ToolStep, SeenStep, cpu_refusal, tool_refusal, cpu_changed, tool_changed, unless_refused, stage_step}
use Rattle.stage_spec.specs.Limits.{HasShape}
use Rattle.stage_laws.specs.Narrowing.{changed, unless_left, SettleSoundLaw, ChangedSoundLaw}
use Rattle.stage_laws.specs.Sound.{IsNumbered, has_id, AreAlike, IsSibling, IsGroup, AreListed, IsGrouped, IsCopyOf, IsPlaced, IsSound}
use Rattle.stage_laws.proofs.{Sound.{step_sound}, Tasks.{kept-AreRunning}, Briefs.{slot_mask}, Images.{filter-map, all-by, count-by, find-by}}
use Rattle.stage_laws.proofs.Bare.{bare, bare_group, bare_lists, AreLike, like-itself, like-back, settle-like, settle_all-like, lists-like, groups-like, all-alike, context-alike, reached-alike}

like-shape : (hw : Hardware) (s t : Stage) → AreLike s t → HasShape hw s → HasShape hw t
like-shape hw s t k h = grind (arith, length-map, bare_lists)

-- what does not look at an instance's own state
each-like : (P : Instance → Type 0) → ((i : Instance) → P i → P (bare i)) → ((i : Instance) → P (bare i) → P i) → (is js : List Instance) → map bare js ≡ map bare is → All P is → All P js
each-like P there back is js same h = all-by bare P P (λ i j e p. back j (subst P (sym e) (there i p))) is js same h

like-numbered : (s t : Stage) → AreLike s t → IsNumbered s → IsNumbered t
like-numbered s t k h = record {
  first = rw k.ids h.first;
  drawn = rw k.ids (each-like (λ i. (1 ≤ i.id) × (i.id < s.next_id)) (λ i p. p) (λ i p. p) (all_instances s) (all_instances t) (all-alike s t k) h.drawn);
  once = λ id. rw (count-by bare (has_id id) (λ i. refl) (all_instances s) (all_instances t) (all-alike s t k)) (h.once id);
  slots = each-like (λ i. i.event.0 < 256) (λ i p. p) (λ i p. p) (all_instances s) (all_instances t) (all-alike s t k) h.slots;
  one_original = λ e. rw (count-by bare (is_original e) (λ i. refl) (all_instances s) (all_instances t) (all-alike s t k)) (h.one_original e);
  used = λ e free. count-by bare (is_original e) (λ i. refl) (all_instances s) (all_instances t) (all-alike s t k) ∙ h.used e (ap (list_any (λ u. u.0 == e.0)) (sym k.used) ∙ free);
  few_copies = rw (count-by bare is_copy (λ i. refl) (all_instances s) (all_instances t) (all-alike s t k)) h.few_copies;
}

-- groups
alike-bare : (l m i : Instance) → bare m ≡ bare l → AreAlike l i → AreAlike m i
alike-bare l m i e h = grind arith

masks-bare : (hw : Hardware) (is : List Instance) → with_masks hw (filter is_hardware (map bare is)) ≡ with_masks hw (filter is_hardware is)
masks-bare hw is = ap (with_masks hw) (filter-map is_hardware is_hardware bare (λ i. refl) is) ∙ map-map (slot_mask hw) bare (filter is_hardware is)

masks-like : (hw : Hardware) (is js : List Instance) → map bare js ≡ map bare is → with_masks hw (filter is_hardware js) ≡ with_masks hw (filter is_hardware is)
masks-like hw is js same = sym (masks-bare hw js) ∙ (ap (λ ks. with_masks hw (filter is_hardware ks)) same ∙ masks-bare hw is)

other-kinds : (hw : Hardware) (i j a b : Instance) → bare j ≡ bare i → bare b ≡ bare a → is_other_pmu hw i.attr.kind a.attr.kind ≡ false → is_other_pmu hw j.attr.kind b.attr.kind ≡ false
other-kinds hw i j a b e d h = ap (λ x. is_other_pmu hw x.attr.kind b.attr.kind) e ∙ (ap (λ x. is_other_pmu hw i.attr.kind x.attr.kind) d ∙ h)

one_pmu-like : (hw : Hardware) (is js : List Instance) → map bare js ≡ map bare is → All (λ i. All (λ j. is_other_pmu hw i.attr.kind j.attr.kind ≡ false) is) is
    → All (λ i. All (λ j. is_other_pmu hw i.attr.kind j.attr.kind ≡ false) js) js
one_pmu-like hw is js same h =
    all-by bare (λ i. All (λ j. is_other_pmu hw i.attr.kind j.attr.kind ≡ false) is) (λ i. All (λ j. is_other_pmu hw i.attr.kind j.attr.kind ≡ false) js)
    (λ i j e p. all-by bare (λ a. is_other_pmu hw i.attr.kind a.attr.kind ≡ false) (λ b. is_other_pmu hw j.attr.kind b.attr.kind ≡ false)
    (λ a b d q. other-kinds hw i j a b e d q) is js same p) is js same h

like-group : (hw : Hardware) (g h : Group) → bare_group h ≡ bare_group g → IsGroup hw g → IsGroup hw h
like-group hw g h e k =
    let siblings : h.siblings ≡ g.siblings = ap (λ x. x.siblings) e in
    let leader : bare h.leader ≡ bare g.leader = ap (λ x. x.leader) e in
    let same : map bare (members_of h) ≡ map bare (members_of g) = ap (λ x. map bare (members_of x)) e in
    record {
      small = rw (ap group_size e) k.small;
      alike = subst (All (AreAlike h.leader)) (sym siblings) (λ n d low. alike-bare g.leader h.leader (slice_index_or g.siblings n d) leader (k.alike n d low));
      siblings = subst (All IsSibling) (sym siblings) k.siblings;
      fit = rw (masks-like hw (members_of g) (members_of h) same) k.fit;
      one_pmu = one_pmu-like hw (members_of g) (members_of h) same k.one_pmu;
    }

pinned-like : (b : Bool) (gs hs : List Group) → map bare_group hs ≡ map bare_group gs → All (λ g. is_pinned g.leader.attr ≡ b) gs → All (λ g. is_pinned g.leader.attr ≡ b) hs
pinned-like b gs hs same h =
    all-by bare_group (λ g. is_pinned g.leader.attr ≡ b) (λ g. is_pinned g.leader.attr ≡ b) (λ x y e p. ap (λ g. is_pinned g.leader.attr) e ∙ p) gs hs same h

like-grouped : (hw : Hardware) (s t : Stage) → AreLike s t → IsGrouped hw s → IsGrouped hw t
like-grouped hw s t k h = record {
  groups = all-by bare_group (IsGroup hw) (IsGroup hw) (like-group hw) (all_groups s) (all_groups t) (groups-like s t k) h.groups;
  lists = all-by bare_lists AreListed AreListed (λ l m e p. record {
    pinned = pinned-like true l.pinned m.pinned (ap (λ x. x.pinned) e) p.pinned;
    flexible = pinned-like false l.flexible m.flexible (ap (λ x. x.flexible) e) p.flexible;
  }) s.contexts t.contexts k.contexts h.lists;
}

-- places
abbrev IsBorn : Stage → Instance → Type 0
IsBorn s i = i.copy ≡ true → (original : Instance) × (original_of s i.event ≡ Some original) × IsCopyOf i original

copy-bare : (i o : Instance) → IsCopyOf i o → IsCopyOf (bare i) (bare o)
copy-bare i o h = record { task = h.task; attr = h.attr; ring = h.ring; mapped = h.mapped }

copy-back : (i o : Instance) → IsCopyOf (bare i) (bare o) → IsCopyOf i o
copy-back i o h = record { task = h.task; attr = h.attr; ring = h.ring; mapped = h.mapped }

born-like : (s t : Stage) → AreLike s t → (i j : Instance) → bare j ≡ bare i → IsBorn s i → IsBorn t j
born-like s t k i j e h copied =
    let before : (o : Instance) × (original_of s i.event ≡ Some o) × IsCopyOf i o = h (sym (ap (λ x. x.copy) e) ∙ copied) in
    let now : (o : Instance) × (find (is_original i.event) (all_instances t) ≡ Some o) × (bare o ≡ bare before.0) =
    find-by bare (is_original i.event) (λ x. refl) (all_instances s) (all_instances t) (all-alike s t k) before.0 before.1 in (
      now.0,
      ap (λ x. original_of t x.event) e ∙ now.1,
      copy-back j now.0 (subst (λ b. IsCopyOf b (bare now.0)) (sym e) (subst (IsCopyOf (bare i)) (sym now.2) (copy-bare i before.0 before.2))),
    )

none-mapped : (groups : List Group) → map bare_group groups ≡ [] → groups ≡ []
none-mapped [] h = refl
none-mapped (g ∷ groups) h = absurd (omega (arith, ap length h))

empty-like : (l m : Lists) → bare_lists m ≡ bare_lists l → l ≡ no_groups → m ≡ no_groups
empty-like l m e none = grind (arith, bare_lists, none-mapped)

like-placed : (s t : Stage) → AreLike s t → IsPlaced s → IsPlaced t
like-placed s t k h = record {
  originals = λ c. each-like (λ i. i.copy ≡ false → context_of i.attr ≡ c) (λ i p. p) (λ i p. p) (instances_in s c) (instances_in t c) (context-alike s t k c) (h.originals c);
  no_copies = λ cpu. each-like (λ i. i.copy ≡ false) (λ i p. p) (λ i p. p) (instances_in s (context.Processor cpu)) (instances_in t (context.Processor cpu))
      (context-alike s t k (context.Processor cpu)) (h.no_copies cpu);
  live_copies = λ task gone. each-like (λ i. i.copy ≡ false) (λ i p. p) (λ i p. p) (instances_in s (context.Task task)) (instances_in t (context.Task task)) (context-alike s t k (context.Task task))
      (h.live_copies task (ap (λ ts. is_live (slice_index_or ts task.0 unknown_task).state) (sym k.tasks) ∙ gone));
  unknown = λ task never. empty-like (lists_of s (context.Task task)) (lists_of t (context.Task task)) (lists-like s t k (context.Task task))
      (h.unknown task (ap (λ ts. was_used (slice_index_or ts task.0 unknown_task).state) (sym k.tasks) ∙ never));
  one_of_family = λ c e. rw (count-by bare (is_of_family e) (λ i. refl) (instances_in s c) (instances_in t c) (context-alike s t k c)) (h.one_of_family c e);
  one_reached = λ cpu e. rw (count-by bare (is_of_family e) (λ i. refl) (reached s cpu) (reached t cpu) (reached-alike s t k cpu)) (h.one_reached cpu e);
  of_original = all-by bare (IsBorn s) (IsBorn t) (born-like s t k) (all_instances s) (all_instances t) (all-alike s t k) h.of_original;
}

pub like-sound : (hw : Hardware) (s t : Stage) → AreLike s t → IsSound hw s → IsSound hw t
like-sound hw s t k h = record {
  shape = like-shape hw s t k h.shape;
  numbered = like-numbered s t k h.numbered;
  grouped = like-grouped hw s t k h.grouped;
  placed = like-placed s t k h.placed;
  running = kept-AreRunning s t (record { running = k.running; tasks = k.tasks }) h.running;
  rings = rw k.mapped (each-like (λ i. (ring : RingNo) → i.ring ≡ Some ring → IsTrue (list_any (λ r. r.0 == ring.0) s.mapped)) (λ i p. p) (λ i p. p)
      (all_instances s) (all_instances t) (all-alike s t k) h.rings);
}

-- settling, and the change of a step before it is settled
pub settle_sound : SettleSoundLaw
settle_sound hw cpu s h = like-sound hw s (settle hw cpu s) (settle-like hw cpu s) h

unless-like : (hw : Hardware) (r : Option Reason) (change : Stage → Stage) (s : Stage) → AreLike (unless_left r change s) (unless_refused hw r change s)
unless-like hw (Some r) change s = like-itself s
unless-like hw None change s = settle_all-like hw (change s)

pub step-like : (hw : Hardware) (s : Stage) (x : Step) → AreLike (changed hw s x) (stage_step hw s x)
unfolding stage_step
step-like hw s (CpuStep cpu line) = unless-like hw (cpu_refusal s cpu line) (cpu_changed hw cpu line) s
step-like hw s (ToolStep line) = unless-like hw (tool_refusal hw s line) (tool_changed line) s
step-like hw s (SeenStep ring place) = like-itself s

pub changed_sound : ChangedSoundLaw
changed_sound l hw s x machine within sound =
    like-sound hw (stage_step hw s x) (changed hw s x) (like-back (changed hw s x) (stage_step hw s x) (step-like hw s x)) (step_sound l hw s x machine within sound)
