-- Lines that make no instance: each that is there then was there before, and has its share.
use Rattle.std.specs.{Prelude.{◌≡◌, ◌<◌, ◌↔◌, true, false, List, [], length, slice_index_or, is_some, None}, FinMap.{FinMap, get}, Option.{unwrap_or}, Ordering.{nat_cmp}}
use Rattle.std.proofs.{Common.{arith, refl, sym, ap, subst, ◌∙◌, inl, inr}, lemmas.{Bool.{false≢true, Decides.{nat_tests}}, Nat.Bits.{bit_at-zero}}}
use Rattle.perf_base.specs.{Cpus.{HasCpu}, declared.{lines.ToolLine.{ToolLine}, numbers.{CpuNo.{CpuNo}, CpuSet.{CpuSet}}}}
use Rattle.perf_base.specs.declared.numbers.{EventNo.{EventNo}, Key.{Key}}
use Rattle.stage_spec.specs.{Families.{leaving}, History.{Step, ToolStep, tool_refusal, tool_changed}, Opening.{is_used}}
use Rattle.stage_spec.{specs.{Shares.{no_sums}, Stage.{Stage}}, proofs.Recurrence.{plus-none}}
use Rattle.stage_laws.specs.Narrowing.{tool_touches, unless_left, unless_no}
use Rattle.ring_spec.specs.{Agreement.{IsCurrentSlot}, Sending.{length_by}}
use Rattle.world_spec.specs.{Kept.{IsKept}, Lines.{HasChanged}, Quiet.{is_quiet}, Rescheduled.{AreUntouched, AreUntouchedOutside}, StageOf.{stage_of}}
use Rattle.world_spec.specs.{Stepping.{HasBecome, HasItsShare}, Value.{World, Account, Family, no_account, no_family, is_live, entry_at, instance_at, family_of}}
use Rattle.world_spec.proofs.{Families.{open-is}, Quiet.{quiet-keeps}}

-- where no slot comes to be open, those that are current were so
slots-open : (w x : World) → IsKept w.hardware w → IsKept x.hardware x → ((e : EventNo) → is_some (family_of x e).original ≡ true → is_some (family_of w e).original ≡ true)
    → x.quiet.used ≡ w.quiet.used → (e : EventNo) → IsCurrentSlot (stage_of x) e → IsCurrentSlot (stage_of w) e
slots-open w x h h_then opened used e current = elim current [
  | inl there ↦ inl (open-is w.hardware w e h ∙ opened e (sym (open-is x.hardware x e h_then) ∙ there))
  | inr unused ↦ inr (ap (λ u. is_used (record (stage_of w) { used = u }) e) (sym used) ∙ unused)
]

pub slots-same : (w x : World) → IsKept w.hardware w → IsKept x.hardware x → ((e : EventNo) → (family_of x e).original ≡ (family_of w e).original)
    → x.quiet.used ≡ w.quiet.used → (e : EventNo) → IsCurrentSlot (stage_of x) e → IsCurrentSlot (stage_of w) e
slots-same w x h h_then originals = slots-open w x h h_then (λ e some. ap is_some (sym (originals e)) ∙ some)

abbrev family_in : List Family → EventNo → Family
family_in f e = slice_index_or f e.0 no_family

pub slots-current : (w x : World) → IsKept w.hardware w → IsKept x.hardware x → x.families ≡ w.families → x.quiet.used ≡ w.quiet.used → (e : EventNo)
    → IsCurrentSlot (stage_of x) e → IsCurrentSlot (stage_of w) e
slots-current w x h h_then families used = slots-same w x h h_then (λ e. ap (λ f. (family_in f e).original) families) used

-- What such a line leaves: contexts, and all that is counted by slot and by processor. No slot comes to be open.
pub record KeepsSlots (w x : World) : Type 0 where
  pub hardware : x.hardware ≡ w.hardware
  pub contexts : (k : Key) → is_live x k ≡ true → (entry_at x k).context ≡ (entry_at w k).context
  pub opened : (e : EventNo) → is_some (family_of x e).original ≡ true → is_some (family_of w e).original ≡ true
  pub used : x.quiet.used ≡ w.quiet.used
  pub folded : x.folded ≡ w.folded
  pub lost : x.lost ≡ w.lost
  pub running : length x.quiet.running ≡ length w.quiet.running
  pub clocks : x.quiet.clocks ≡ w.quiet.clocks
  pub totals : x.quiet.totals ≡ w.quiet.totals
  pub next_id : x.quiet.next_id ≡ w.quiet.next_id

pub slots-become : {t : Stage} (w x : World) (step : Step) → IsKept w.hardware w → IsKept x.hardware x → KeepsSlots w x → ((k : Key) → is_live x k ≡ true → HasItsShare w.hardware w x step k)
    → ((e : EventNo) → leaving (stage_of w) step e ≡ []) → ((cpu : CpuNo) → length_by cpu step ≡ 0) → stage_of x ≡ t → HasBecome w.hardware t w x step
slots-become w x step h h_then keeps shares none still stage = record {
  stage = stage;
  drawn = omega (arith, keeps.next_id);
  old = λ k live before. shares k live;
  new = λ k live past.
      let low : (instance_at w k).id < w.quiet.next_id = (h.numbered.drawn k (shares k live).live).1 in
      absurd (omega (arith, low, past, (shares k live).id));
  slots = slots-open w x h h_then keeps.opened keeps.used;
  folded = λ e current. (
    [],
    record {
      leaving = none e;
      live = λ k some. absurd (omega (arith, some));
      sums = ap (λ f. slice_index_or f e.0 no_sums) keeps.folded ∙ sym (plus-none (slice_index_or w.folded e.0 no_sums));
    },
  );
  lost = λ e. ap (λ l. slice_index_or l e.0 0) keeps.lost;
  clock = λ cpu. let same : slice_index_or x.quiet.clocks cpu.0 0 ≡ slice_index_or w.quiet.clocks cpu.0 0 = ap (λ l. slice_index_or l cpu.0 0) keeps.clocks in omega (arith, same, still cpu);
}

-- Such a line of a tool has made its change, where that is so on the stage, and where a set has the processors that it
-- touches.
pub slots-changed : (w x : World) (l : ToolLine) (set : CpuSet) → IsKept w.hardware w → IsKept x.hardware x → KeepsSlots w x
    → ((k : Key) → is_live x k ≡ true → HasItsShare w.hardware w x (ToolStep l) k) → tool_refusal w.hardware (stage_of w) l ≡ None → stage_of x ≡ tool_changed l (stage_of w)
    → ((cpu : CpuNo) → cpu.0 < length w.quiet.running → (HasCpu set cpu ↔ (tool_touches (stage_of w) l cpu ≡ true)))
    → ((cpu : CpuNo) → HasCpu set cpu → cpu.0 < length w.quiet.running) → AreUntouchedOutside set w x → HasChanged (ToolStep l) w x set
slots-changed w x l set h h_then keeps shares accepted stage touched within others = record {
  accepted = accepted;
  made = slots-become w x (ToolStep l) h h_then keeps shares (λ e. refl) (λ own. refl) (stage ∙ sym (ap (λ o. unless_left o (tool_changed l) (stage_of w)) accepted));
  hardware = keeps.hardware;
  running = keeps.running;
  totals = keeps.totals;
  homes = λ homes k cpu live at. let low : cpu.0 < length w.quiet.running = homes k cpu (shares k live).live (sym (keeps.contexts k live) ∙ at) in omega (arith, low, keeps.running);
  touched = λ cpu low. subst (λ o. HasCpu set cpu ↔ (unless_no o (tool_touches (stage_of w) l cpu) ≡ true)) (sym accepted) (touched cpu low);
  within = within;
  others = others;
}

-- so has one that touches no processor
none-in : (set : CpuSet) (cpu : CpuNo) → set.0 ≡ 0 → HasCpu set cpu → ⊥
none-in set cpu none there = grind (arith, nat_tests, bit_at-zero)

pub still-changed : (w x : World) (l : ToolLine) (set : CpuSet) → IsKept w.hardware w → IsKept x.hardware x → KeepsSlots w x → ((k : Key) → is_live x k ≡ true → HasItsShare w.hardware w x (ToolStep l) k)
    → tool_refusal w.hardware (stage_of w) l ≡ None → stage_of x ≡ tool_changed l (stage_of w) → ((cpu : CpuNo) → tool_touches (stage_of w) l cpu ≡ false) → set.0 ≡ 0
    → AreUntouched w x → HasChanged (ToolStep l) w x set
still-changed w x l set h h_then keeps shares accepted stage still none others =
    slots-changed w x l set h h_then keeps shares accepted stage (λ cpu low. (λ there. absurd (none-in set cpu none there), λ touched. absurd (false≢true (sym (still cpu) ∙ touched))))
    (λ cpu there. absurd (none-in set cpu none there)) (λ cpu low out. others cpu low)

-- A line that leaves all keys, with their ids, contexts and accounts.
pub record KeepsAll (w x : World) : Type 0 where
  pub hardware : x.hardware ≡ w.hardware
  pub live : (k : Key) → is_live x k ≡ is_live w k
  pub ids : (k : Key) → (instance_at x k).id ≡ (instance_at w k).id
  pub contexts : (k : Key) → (entry_at x k).context ≡ (entry_at w k).context
  pub accounts : x.accounts ≡ w.accounts
  pub families : x.families ≡ w.families
  pub folded : x.folded ≡ w.folded
  pub lost : x.lost ≡ w.lost
  pub running : length x.quiet.running ≡ length w.quiet.running
  pub clocks : x.quiet.clocks ≡ w.quiet.clocks
  pub totals : x.quiet.totals ≡ w.quiet.totals
  pub used : x.quiet.used ≡ w.quiet.used
  pub next_id : x.quiet.next_id ≡ w.quiet.next_id

pub all-slots : (w x : World) → KeepsAll w x → KeepsSlots w x
all-slots w x keeps = record {
  hardware = keeps.hardware;
  contexts = λ k live. keeps.contexts k;
  opened = λ e some. ap (λ f. is_some (family_in f e).original) (sym keeps.families) ∙ some;
  used = keeps.used;
  folded = keeps.folded;
  lost = keeps.lost;
  running = keeps.running;
  clocks = keeps.clocks;
  totals = keeps.totals;
  next_id = keeps.next_id;
}

abbrev account_in : FinMap nat_cmp Account → Key → Account
account_in a k = unwrap_or (get a k.0) no_account

pub all-shares : (w x : World) (step : Step) (k : Key) → IsKept w.hardware w → is_quiet step ≡ true → KeepsAll w x → is_live x k ≡ true → HasItsShare w.hardware w x step k
all-shares w x step k h quiet keeps live =
    quiet-keeps w.hardware w x step k h quiet (record { live = sym (keeps.live k) ∙ live; id = keeps.ids k; account = ap (λ a. account_in a k) keeps.accounts })
