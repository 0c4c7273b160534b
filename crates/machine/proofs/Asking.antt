-- Lines of tools that ask: the world is as it was.
use Rattle.std.specs.Prelude.{◌≡◌, ℕ, zero, suc, ◌<◌, true, [], None, slice_index_or}
use Rattle.std.proofs.{Common.{arith, refl, sym, subst}, lemmas.List.{map-append}}
use Rattle.perf_base.specs.declared.{lines.ToolLine.{ToolLine}, numbers.CpuNo.{CpuNo}, reply.Reply.{Reply}}
use Rattle.stage_spec.specs.{Hardware.{Hardware}, History.{ToolStep, stage_step, tool_refusal, tool_changed}}
use Rattle.stage_spec.specs.{Replies.{UnlessRefused, IsToolReply}, Settle.{settle_each, settle_all, IsSettled}, Shares.{no_sums}}
use Rattle.stage_spec.{specs.Stage.{Stage}, proofs.Recurrence.{plus-none}}
use Rattle.world_spec.specs.{Kept.{IsKept, family_sums}, StageOf.{stage_of}, Value.{World, instance_at}, Quiet.{is_quiet_call}, Stepping.{HasStepped}}
use Rattle.world_spec.proofs.{Asking.{answers-by}, Quiet.{quiet-keeps}, Stepping.{stepped}}
use Rattle.event_reads.specs.Homes.{StandRescheduled}
use Rattle.machine.{specs.Stepped.{IsReady}, proofs.{Refused.{tools-lose_none}, Settling.{cpus_below, settle-parts}}}
use Rattle.machine.specs.Stepped as stepped_line

-- settling settled processors changes nothing
pub settled-below : (hw : Hardware) (n : ℕ) (s : Stage) → ((cpu : CpuNo) → cpu.0 < n → IsSettled hw cpu s) → settle_each hw (cpus_below n) s ≡ s
unfolding settle_each
settled-below hw zero s h = refl
settled-below hw (suc n) s h = grind (arith, cpus_below, map-append, settle-parts, settled-below hw n s (λ c low. h c (omega (arith, low))))

-- a line that asks
pub asks-stage : (w : World) (l : ToolLine) → IsReady w → tool_refusal w.hardware (stage_of w) l ≡ None → ((s : Stage) → tool_changed l s ≡ s)
    → stage_of w ≡ stage_step w.hardware (stage_of w) (ToolStep l)
unfolding stage_step settle_all
asks-stage w l h accepted same = grind (arith, settled-below)

asks-stepped : (w : World) (l : ToolLine) → IsKept w.hardware w → IsReady w → is_quiet_call l ≡ true → tool_refusal w.hardware (stage_of w) l ≡ None → ((s : Stage) → tool_changed l s ≡ s)
    → HasStepped w.hardware w w (ToolStep l)
asks-stepped w l h ready quiet accepted same = record {
  stage = asks-stage w l ready accepted same;
  drawn = omega arith;
  old = λ k live before. quiet-keeps w.hardware w w (ToolStep l) k h quiet (record { live = live; id = refl; account = refl });
  new = λ k live past. let low : (instance_at w k).id < w.quiet.next_id = (h.numbered.drawn k live).1 in absurd (omega (arith, low, past));
  slots = λ e current. current;
  folded = λ e current. (
    [],
    record {
      leaving = refl;
      live = λ k some. absurd (omega (arith, some));
      sums = sym (plus-none (slice_index_or w.folded e.0 no_sums));
    },
  );
  lost = λ e. refl;
  clock = λ cpu. let same_clock : slice_index_or w.quiet.clocks cpu.0 0 ≡ slice_index_or w.quiet.clocks cpu.0 0 = refl in omega (arith, same_clock);
}

pub asked : (w : World) (l : ToolLine) (a : Reply) → IsKept w.hardware w → IsReady w → is_quiet_call l ≡ true → tool_refusal w.hardware (stage_of w) l ≡ None → ((s : Stage) → tool_changed l s ≡ s)
    → IsToolReply w.hardware (stage_of w) (λ e. family_sums w e.0) (λ e. slice_index_or w.lost e.0 0) l a → stepped_line.IsDone (ToolStep l) w w a
asked w l a h ready quiet accepted same done by agrees = record {
  answer = answers-by w.hardware w by (ToolStep l) a h agrees
      (subst (λ o. UnlessRefused o a (IsToolReply w.hardware (stage_of w) (λ e. family_sums w e.0) (λ e. slice_index_or w.lost e.0 0) l a)) (sym accepted) done);
  agrees = stepped w.hardware w w by (ToolStep l) h h agrees (asks-stepped w l h ready quiet accepted same) (tools-lose_none w.hardware by l);
}

-- between lines every processor stands as rescheduling leaves it
pub all-stand : (w : World) → IsReady w → StandRescheduled w
all-stand w ready = record { machine = ready.rescheduled; counted = λ k cpu live at. ready.rescheduled cpu (ready.homes k cpu live at) }
