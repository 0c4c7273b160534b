-- Lines of tools that are accepted: what is changed, and then rescheduled, is done.
use Rattle.std.{specs.Prelude.{◌≡◌, ℕ, ◌<◌, Bool, false, List, length, filter, slice_index_or, None, Result, Ok, Err, IfOk}, proofs.{Common.{arith, refl, sym, ap, subst, ◌∙◌}, lemmas.Bool.{false≢true}}}
use Rattle.perf_base.specs.{Cpus.{HasCpu}, declared.{lines.ToolLine.{ToolLine}, numbers.{CpuNo.{CpuNo}, CpuSet.{CpuSet}, EventNo.{EventNo}, Key.{Key}, RingNo.{RingNo}}}}
use Rattle.perf_base.specs.declared.{reasons.Reason.{Reason}, reply.{Reply.{Reply}, Sums.{Sums}}}
use Rattle.perf_base.specs.declared.lines.ToolLine.TheVariants as line
use Rattle.perf_base.specs.declared.reply.Reply.TheVariants as reply
use Rattle.stage_spec.specs.{Hardware.{Hardware}, History.{Step, ToolStep, tool_refusal, stage_step}, Limits.{IsMachine}}
use Rattle.stage_spec.specs.{Replies.{UnlessRefused, IsToolReply}, Settle.{settle_each}, Shares.{no_sums}, Stage.{Stage, all_cpus}}
use Rattle.stage_laws.{specs.Narrowing.{IsNarrow, tool_touches, touches}, proofs.Narrow.{narrows}}
use Rattle.ring_spec.specs.{Agreement.{IsCurrentSlot}, Running.{family_by}}
use Rattle.world_spec.specs.{Kept.{IsKept}, Lines.{HasChanged, IsAnswered, IsRefused}, Rescheduled.{AreRescheduled, IsRescheduled}, StageOf.{stage_of}}
use Rattle.world_spec.specs.{Stepping.{HasBecome, HasFolded, HasItsShare, HasStepped, IsBorn}, Value.{World, instance_at, account_at}}
use Rattle.world_spec.proofs.{Lines.{slots-current}, Stepping.{stepped}}
use Rattle.machine.specs.{Answered.{IsToolDone, MayChange}, Counted.{AreCounted, IsCounted}, Settled.{OnlyRescheduled, is_in}, Stepped.{asks, limits_in, IsDone, IsReady}}
use Rattle.machine.proofs.{Counting.{refused-counted, still-counted}, Keeping.{filter-below, in-by, left-rescheduled, ready-then, settled-all}, Refused.{refused-line, stays-same, tools-lose_none}}
use Rattle.machine.proofs.Settling.{cpus_below}

-- What is told of such a line: the worlds before it, after its change, and after its processors were rescheduled.
pub record Course (w v x : World) (l : ToolLine) (set : CpuSet) : Type 0 where
  pub may : MayChange l w
  pub change : HasChanged (ToolStep l) w v set
  pub kept : IsKept v.hardware v
  pub settled : stage_of x ≡ settle_each v.hardware (filter (is_in set) (all_cpus (stage_of v))) (stage_of v)
  pub rescheduled : AreRescheduled v.hardware x
  pub rest : OnlyRescheduled v x
  pub kept_then : IsKept x.hardware x

-- what a step adds stays where processors are rescheduled then
pub become-then : (hw : Hardware) (s t : Stage) (w v x : World) (step : Step) → HasBecome hw s w v step → OnlyRescheduled v x → IsKept v.hardware v → IsKept x.hardware x → stage_of x ≡ t
    → HasBecome hw t w x step
become-then hw s t w v x step made rest h h_then stage =
    let same : (k : Key) → account_at x k ≡ account_at v k = λ k. ap (λ (y : World). account_at y k) rest.world in
    let ids : (k : Key) → (instance_at x k).id ≡ (instance_at v k).id = λ k. ap (λ e. e.instance.id) (rest.entries k) in
    let slots : (e : EventNo) → IsCurrentSlot (stage_of x) e → IsCurrentSlot (stage_of v) e =
    slots-current v x h h_then (ap (λ (y : World). y.families) rest.world) (ap (λ (y : World). y.quiet.used) rest.world) in
    record {
      stage = stage;
      drawn = omega (arith, made.drawn, ap (λ (y : World). y.quiet.next_id) rest.world);
      old = λ k live before.
          let old : HasItsShare hw w v step k = made.old k (sym (rest.live k) ∙ live) (omega (arith, before, ids k)) in
          record { live = old.live; id = ids k ∙ old.id; sums = ap (λ a. a.sums) (same k) ∙ old.sums; left = ap (λ a. a.left) (same k) ∙ old.left };
      new = λ k live past.
          let new : IsBorn v k = made.new k (sym (rest.live k) ∙ live) (omega (arith, past, ids k)) in
          record { sums = ap (λ a. a.sums) (same k) ∙ new.sums; left = ap (λ a. a.left) (same k) ∙ (new.left ∙ sym (ap (λ e. e.instance.attr.period) (rest.entries k))) };
      slots = λ e current. made.slots e (slots e current);
      folded = λ e current.
          let folded : (gone : List Key) × HasFolded w v step e gone = made.folded e (slots e current) in
          (folded.0, record { leaving = folded.1.leaving; live = folded.1.live; sums = ap (λ (y : World). slice_index_or y.folded e.0 no_sums) rest.world ∙ folded.1.sums });
      lost = λ e. ap (λ (y : World). slice_index_or y.lost e.0 0) rest.world ∙ made.lost e;
      clock = λ cpu. ap (λ (y : World). slice_index_or y.quiet.clocks cpu.0 0) rest.world ∙ made.clock cpu;
    }

-- those of the set are the processors that the line touches
cpus-are : (w v : World) (l : ToolLine) (set : CpuSet) → HasChanged (ToolStep l) w v set
    → filter (is_in set) (all_cpus (stage_of v)) ≡ filter (touches w.hardware (stage_of w) (ToolStep l)) (all_cpus (stage_of w))
cpus-are w v l set c =
    let touched : CpuNo → Bool = touches w.hardware (stage_of w) (ToolStep l) in
    ap (λ n. filter (is_in set) (cpus_below n)) c.running
    ∙ filter-below (is_in set) touched (length w.quiet.running) (λ cpu low. in-by set cpu (touched cpu) (c.touched cpu low).0 (c.touched cpu low).1)

machine-for : (w : World) (rings : List (RingNo × ℕ)) → IsReady w → IsMachine (record (limits_in w) { rings = rings }) w.hardware
machine-for w rings ready = record { sound = ready.machine.sound; cpus = ready.machine.cpus; kinds = ready.machine.kinds }

line-stage : (w v x : World) (l : ToolLine) (set : CpuSet) → Course w v x l set → stage_of x ≡ stage_step w.hardware (stage_of w) (ToolStep l)
line-stage w v x l set c =
    let narrow : IsNarrow w.hardware (stage_of w) (ToolStep l) =
    narrows (record (limits_in w) { rings = c.may.within.0 }) w.hardware (stage_of w) (ToolStep l) (machine-for w c.may.within.0 c.may.ready) c.may.within.1 c.may.ready.sound
    (settled-all w.hardware w c.may.ready.rescheduled) in
    c.settled ∙ ((λ i. settle_each (c.change.hardware i) (cpus-are w v l set c.change i) (c.change.made.stage i)) ∙ sym narrow.stage)

-- a line that changes something answers Ok
ok-reply : (hw : Hardware) (l : ToolLine) (s : Stage) (sums : EventNo → Sums) (lost : EventNo → ℕ) → asks l ≡ false → IsToolReply hw s sums lost l reply.Ok
ok-reply hw (line.Open slot attr leader) s sums lost h = refl
ok-reply hw (line.Enable event group) s sums lost h = refl
ok-reply hw (line.Disable event group) s sums lost h = refl
ok-reply hw (line.Reset event group) s sums lost h = refl
ok-reply hw (line.Period event period) s sums lost h = refl
ok-reply hw (line.Read event size) s sums lost h = absurd (cc)
ok-reply hw (line.Map event ring) s sums lost h = refl
ok-reply hw (line.Output event target) s sums lost h = refl
ok-reply hw (line.Close event) s sums lost h = refl
ok-reply hw (line.Why event) s sums lost h = absurd (cc)
ok-reply hw (line.Seats cpu) s sums lost h = absurd (cc)

-- an accepted line whose answer is Ok is done
accepted-line : (w x : World) (l : ToolLine) → IsKept w.hardware w → IsKept w.hardware x → tool_refusal w.hardware (stage_of w) l ≡ None
    → ((s : Stage) (sums : EventNo → Sums) (lost : EventNo → ℕ) → IsToolReply w.hardware s sums lost l reply.Ok) → HasStepped w.hardware w x (ToolStep l)
    → IsDone (ToolStep l) w x reply.Ok
accepted-line w x l h h_then accepted ok has by agrees = record {
  answer = subst (λ o. UnlessRefused o reply.Ok (IsToolReply w.hardware by.stage (family_by by) by.lost l reply.Ok)) (sym (ap (λ s. tool_refusal w.hardware s l) agrees.stage ∙ accepted))
      (ok by.stage (family_by by) by.lost);
  agrees = stepped w.hardware w x by (ToolStep l) h h_then agrees has (tools-lose_none w.hardware by l);
}

line-counted : (w v x : World) (l : ToolLine) (set : CpuSet) (before now : ℕ) → HasChanged (ToolStep l) w v set
    → AreCounted v.hardware (stage_of v) (stage_of x) (filter (is_in set) (all_cpus (stage_of v))) before now → IsCounted (ToolStep l) w x before now
line-counted w v x l set before now c h = grind (arith, h, c, cpus-are w v l set c)

pub line-done : (w v x : World) (l : ToolLine) (set : CpuSet) (before now : ℕ) → Course w v x l set
    → AreCounted v.hardware (stage_of v) (stage_of x) (filter (is_in set) (all_cpus (stage_of v))) before now → IsToolDone l w x reply.Ok before now
line-done w v x l set before now c counted =
    let hardware : x.hardware ≡ w.hardware = ap (λ (y : World). y.hardware) c.rest.world ∙ c.change.hardware in
    let running : length x.quiet.running ≡ length w.quiet.running = ap (λ (y : World). length y.quiet.running) c.rest.world ∙ c.change.running in
    let stage : stage_of x ≡ stage_step w.hardware (stage_of w) (ToolStep l) = line-stage w v x l set c in
    record {
      ready = ready-then (record (limits_in w) { rings = c.may.within.0 }) w x (ToolStep l) c.may.ready (machine-for w c.may.within.0 c.may.ready) c.may.within.1 hardware running
          (λ k cpu live at.
          let low : cpu.0 < length v.quiet.running = c.change.homes c.may.ready.homes k cpu (sym (c.rest.live k) ∙ live) (sym (ap (λ e. e.context) (c.rest.entries k)) ∙ at) in
          omega (arith, low, running, c.change.running))
          stage (subst (λ (hw : Hardware). AreRescheduled hw x) c.change.hardware c.rescheduled);
      done = accepted-line w x l c.may.kept (subst (λ (hw : Hardware). IsKept hw x) hardware c.kept_then) c.change.accepted (λ s sums lost. ok-reply w.hardware l s sums lost c.may.changes)
          (become-then w.hardware _ _ w v x (ToolStep l) c.change.made c.rest c.kept c.kept_then stage);
      same = tt;
      idle = λ asked. absurd (false≢true (sym c.may.changes ∙ asked));
      hardware = hardware;
      totals = ap (λ (y : World). y.quiet.totals) c.rest.world ∙ c.change.totals;
      counted = line-counted w v x l set before now c.change counted;
    }

pub refused-done : (w v : World) (l : ToolLine) (r : Reason) (n : ℕ) → MayChange l w → IsRefused (ToolStep l) w v r → IsToolDone l w v (reply.Refused r) n n
refused-done w v l r n may h = record {
  ready = subst IsReady (sym h.same) may.ready;
  done = refused-line w v l r may.kept h.same h.refused;
  same = h.same;
  idle = λ asked. h.same;
  hardware = ap (λ (y : World). y.hardware) h.same;
  totals = ap (λ (y : World). y.quiet.totals) h.same;
  counted = refused-counted w v l r n h.refused;
}

-- a line that asks
pub asked-done : (l : ToolLine) (w : World) (r : Reply) (n : ℕ) → IsReady w → ((cpu : CpuNo) → tool_touches (stage_of w) l cpu ≡ false) → IsDone (ToolStep l) w w r → IsToolDone l w w r n n
asked-done l w r n ready still done = record {
  ready = ready;
  done = done;
  same = stays-same w r;
  idle = λ asked. refl;
  hardware = refl;
  totals = refl;
  counted = still-counted w w l n still;
}

-- a processor that is not in the set stands as it stood
pub left-outside : (w v : World) (l : ToolLine) (answer : Result CpuSet Reason) → IsAnswered (ToolStep l) w v answer → AreRescheduled w.hardware w
    → IfOk answer (λ set. (cpu : CpuNo) → cpu.0 < length v.quiet.running → (HasCpu set cpu → ⊥) → IsRescheduled v.hardware v cpu)
left-outside w v l (Ok set) c before = left-rescheduled w v set c.hardware c.running before c.others
left-outside w v l (Err r) c before = tt
