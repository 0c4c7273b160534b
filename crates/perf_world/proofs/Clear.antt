-- Slots that were not used stay clear.
use Rattle.std.specs.Prelude.{◌≡◌, ◌≢◌, ℕ, ◌==◌, Bool, true, false, ◌||◌, List, [], ◌∷◌, ◌++◌, slice_index_or, slice_set, if◌then◌else◌}
use Rattle.std.{specs.List.{list_any}, proofs.Common.{refl, sym, ap, ◌∙◌, inl, inr}}
use Rattle.std.proofs.lemmas.{Bool.{cases_Bool, false≢true}, List.{get_or-set_other, Folds.{list_any-append}}}
use Rattle.perf_base.specs.declared.{numbers.{EventNo.{EventNo}, Key.{Key}, TaskNo.{TaskNo}}, reply.Sums.{Sums}}
use Rattle.stage_spec.specs.{Hardware.{Hardware}, Opening.{is_used}, Shares.{no_sums}}
use Rattle.world_spec.specs.{First.{first_world}, Kept.{IsKept}, StageOf.{stage_of}, Value.{World, instance_at, is_live}}
use Rattle.world_spec.proofs.Coming.{number_true, three}
use Rattle.world_tables.specs.Places.{Slots}
use Rattle.perf_world.specs.Settling.{AreClear}
use Rattle.world_spec.proofs.First.{replicated}

-- the same of the slots and of what was used, as the tables have them
abbrev pub AreClearIn : List EventNo → Slots → Type 0
AreClearIn used f = (e : EventNo) → list_any (λ u. u.0 == e.0) used ≡ false → (slice_index_or f.folded e.0 no_sums ≡ no_sums) × (slice_index_or f.lost e.0 0 ≡ 0)

-- none was used at first
pub clear-first : (hw : Hardware) (declared : List TaskNo) → AreClear (first_world hw declared)
clear-first hw declared e unused = (replicated 256 e.0 no_sums, replicated 256 e.0 0)

-- a family changes, or a slot is used
pub clear-family : (used : List EventNo) (f after : Slots) → after.folded ≡ f.folded → after.lost ≡ f.lost → AreClearIn used f → AreClearIn used after
clear-family used f after folded lost h e unused =
    (ap (λ xs. slice_index_or xs e.0 no_sums) folded ∙ (h e unused).0, ap (λ xs. slice_index_or xs e.0 0) lost ∙ (h e unused).1)

pub neither : (a b : Bool) → (a || b) ≡ false → a ≡ false
neither true b h = absurd (cc)
neither false b h = refl

fewer-used : (b : Bool) (used : List EventNo) (x e : EventNo) → list_any (λ u. u.0 == e.0) (if b then used else used ++ x ∷ []) ≡ false → list_any (λ u. u.0 == e.0) used ≡ false
fewer-used true used x e h = h
fewer-used false used x e h =
    neither (list_any (λ u. u.0 == e.0) used) (list_any (λ u. u.0 == e.0) (x ∷ [])) (sym (list_any-append (λ (u : EventNo). u.0 == e.0) used (x ∷ [])) ∙ h)

pub clear-used : (b : Bool) (used now : List EventNo) (x : EventNo) (f : Slots) → now ≡ (if b then used else used ++ x ∷ []) → AreClearIn used f → AreClearIn now f
clear-used b used now x f is h e unused = h e (fewer-used b used x e (sym (ap (list_any (λ (u : EventNo). u.0 == e.0)) is) ∙ unused))

-- the slot of an instance was used
live-used : (hw : Hardware) (w : World) (k : Key) → IsKept hw w → is_live w k ≡ true → is_used (stage_of w) (instance_at w k).event ≡ true
live-used hw w k h live = elim (cases_Bool (instance_at w k).copy) [
  | inl copy ↦
      let o = h.apart.original k live copy in
      let parts = three (is_live w o.0) ((instance_at w o.0).event.0 == (instance_at w k).event.0) (instance_at w o.0).copy o.1 in
      ap (λ n. list_any (λ (u : EventNo). u.0 == n) w.quiet.used) (sym (number_true (instance_at w o.0).event.0 (instance_at w k).event.0 parts.1)) ∙ h.lawful.used o.0 parts.0 parts.2
  | inr first ↦ h.lawful.used k live first
]

pub other-slot : (hw : Hardware) (w : World) (k : Key) (e : EventNo) → IsKept hw w → is_live w k ≡ true → is_used (stage_of w) e ≡ false → e.0 ≢ (instance_at w k).event.0
other-slot hw w k e h live unused same = false≢true (sym unused ∙ (ap (λ n. list_any (λ (u : EventNo). u.0 == n) w.quiet.used) same ∙ live-used hw w k h live))

-- a copy of it is folded, or a record lost
pub clear-folded : (used : List EventNo) (f after : Slots) (slot : ℕ) (s : Sums) → after ≡ record f { folded = slice_set f.folded slot s }
    → ((e : EventNo) → list_any (λ u. u.0 == e.0) used ≡ false → e.0 ≢ slot) → AreClearIn used f → AreClearIn used after
clear-folded used f after slot s is off h e unused =
    (ap (λ (x : Slots). slice_index_or x.folded e.0 no_sums) is ∙ (get_or-set_other f.folded slot e.0 s no_sums (off e unused) ∙ (h e unused).0), ap (λ (x : Slots). slice_index_or x.lost e.0 0) is ∙ (h e unused).1)

pub clear-lost : (used : List EventNo) (f after : Slots) (slot n : ℕ) → after ≡ record f { lost = slice_set f.lost slot n }
    → ((e : EventNo) → list_any (λ u. u.0 == e.0) used ≡ false → e.0 ≢ slot) → AreClearIn used f → AreClearIn used after
clear-lost used f after slot n is off h e unused =
    (ap (λ (x : Slots). slice_index_or x.folded e.0 no_sums) is ∙ (h e unused).0, ap (λ (x : Slots). slice_index_or x.lost e.0 0) is ∙ (get_or-set_other f.lost slot e.0 n 0 (off e unused) ∙ (h e unused).1))
