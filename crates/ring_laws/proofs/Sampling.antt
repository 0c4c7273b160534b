-- Which families sample: those whose slot was opened with a period. Each of their instances is of a hardware kind.
use Rattle.std.specs.Prelude.{◌≡◌, ℕ, ◌+◌, ◌<◌, ◌≤◌, ◌⊎◌, ◌==◌, nat_lt, Bool, true, false, not, ◌||◌, List, [], ◌∷◌, ◌++◌, length, drop, Option, Some, None, cond, bit_and, ◌^◌}
use Rattle.std.{specs.List.{list_any}, proofs.{Common.{arith, refl, sym, ap, subst, ◌∙◌, inl}, lemmas.Bool.{false≢true, Decides.{nat_tests}}}}
use Rattle.std.proofs.lemmas.Option.{none-some}
use Rattle.perf_base.specs.declared.{numbers.{CpuNo.{CpuNo}, EventNo.{EventNo}, TaskNo.{TaskNo}}, attr.Attr.{Attr}, lines.CpuLine.{CpuLine}}
use Rattle.perf_base.specs.{declared.{lines.ToolLine.{ToolLine}, reasons.Reason.{Reason}}, Weight.{period_of, opens_sampling}}
use Rattle.perf_base.specs.declared.lines.CpuLine.TheVariants as cpu_line
use Rattle.perf_base.specs.declared.lines.ToolLine.TheVariants as tool_line
use Rattle.perf_base.specs.declared.reasons.Reason.TheVariants as reason
use Rattle.stage_spec.specs.{declared.instance.Instance.{Instance}, Hardware.{Hardware, is_software}}
use Rattle.stage_spec.specs.{Stage.{Stage, all_instances, is_original, original_of, is_open, first_stage, no_groups}, Settle.{settle_all}}
use Rattle.stage_spec.specs.{Opening.{opened, new_original, is_used, open_refusal, open_faults}, Refusals.{first_of, holds_of}}
use Rattle.stage_spec.specs.Checks.{has_high_period, has_unknown_sample, has_unknown_format, has_no_place, has_soft_period}
use Rattle.stage_spec.specs.{Commands.{enabled, disabled, targets, is_reached, period_refusal}, Forks.{copy_of, present_period}}
use Rattle.stage_spec.specs.History.{Step, CpuStep, ToolStep, SeenStep, cpu_refusal, tool_refusal, cpu_changed, tool_changed, stage_step, unless_refused}
use Rattle.stage_spec.proofs.Each.{Each, weaker-Each, replicate-Each, InLists, InStage, no_groups-In}
use Rattle.stage_spec.proofs.Carried.{IsOfAttr, settle_all-in, opened-in, no_fault, with_period-in, command_each-in, mapped_to-in, output_to-in, closed-in, exited-in, switched-in, rotated-in, forked-in}
use Rattle.stage_spec.proofs.{Inside.{all_instances-in, InStage-from_all}, Present.{find-holds, find-none, find-passes}}
use Rattle.stage_spec.proofs.Drawn.{Draws, settle_all-draws, cpu_changed-draws, tool_changed-draws}
use Rattle.ring_laws.specs.Few.{period_by, opens_by}
use Rattle.ring_spec.proofs.Overflowing.{IsSampling}

-- what is known of an instance, by the slots that sample and those that were used
pub record IsSampled (period : ℕ) (slots : List EventNo) (t : Stage) (i : Instance) : Type 0 where
  pub used : is_used t i.event ≡ true
  pub sampling : IsSampling period (is_reached slots i) i

-- Each instance is so known, and the slots that sample were used.
pub record Sampled (period : ℕ) (slots : List EventNo) (s : Stage) : Type 0 where
  pub each : InStage (IsSampled period slots s) s
  pub used : (e : EventNo) → list_any (λ f. e.0 == f.0) slots ≡ true → is_used s e ≡ true

-- slots are not given back
still_used : (s t : Stage) → Draws s t → (e : EventNo) → is_used s e ≡ true → is_used t e ≡ true
still_used s t h e k = one (is_used t e) refl
  where
    one : (b : Bool) → is_used t e ≡ b → b ≡ true
    one true f = refl
    one false f = absurd (false≢true (sym (h.slots e f) ∙ k))

sampled-later : (period : ℕ) (slots : List EventNo) (s t u : Stage) → Draws s t → InStage (IsSampled period slots s) u → InStage (IsSampled period slots t) u
sampled-later period slots s t u h k =
    InStage-from_all (IsSampled period slots t) u (weaker-Each (IsSampled period slots s) (IsSampled period slots t)
    (λ i g. record { used = still_used s t h i.event g.used; sampling = g.sampling }) (all_instances u) (all_instances-in (IsSampled period slots s) u k))

sampled-attr : (period : ℕ) (slots : List EventNo) (t : Stage) → IsOfAttr (IsSampled period slots t)
sampled-attr period slots t = record {
  holds = λ i j id event copy attr h. record {
    used = subst (λ e. is_used t e ≡ true) event h.used;
    sampling = record {
      hardware = λ k. ap (λ a. is_software a.kind) (sym attr) ∙ h.sampling.hardware (ap (λ (e : EventNo). list_any (λ f. e.0 == f.0) slots) event ∙ k);
      none = λ k. ap (λ a. a.period) (sym attr) ∙ h.sampling.none (ap (λ (e : EventNo). list_any (λ f. e.0 == f.0) slots) event ∙ k);
      least = subst (λ (a : Attr). (a.period ≡ 0) ⊎ (period ≤ a.period)) attr h.sampling.least;
    };
  };
}

-- a change of the stage that keeps what is known of its instances
changed : (period : ℕ) (slots : List EventNo) (s t : Stage) → Draws s t → Sampled period slots s → InStage (IsSampled period slots s) t → Sampled period slots t
changed period slots s t h k g = record { each = sampled-later period slots s t t h g; used = λ e m. still_used s t h e (k.used e m) }

settled : (period : ℕ) (slots : List EventNo) (hw : Hardware) (t : Stage) → Sampled period slots t → Sampled period slots (settle_all hw t)
settled period slots hw t h =
    changed period slots t (settle_all hw t) (settle_all-draws hw t) h (settle_all-in (IsSampled period slots t) (sampled-attr period slots t) hw t h.each)

-- copies are of their original's family, and take its period
same_number : (slots : List EventNo) (i j : Instance) → i.event.0 ≡ j.event.0 → is_reached slots i ≡ is_reached slots j
same_number slots i j e = ap (λ n. list_any (λ (f : EventNo). n == f.0) slots) e

copy-sampled : (period : ℕ) (slots : List EventNo) (s : Stage) → Sampled period slots s → (i : Instance) (id : ℕ) → IsSampled period slots s i → IsSampled period slots s (copy_of s id i)
copy-sampled period slots s h i id k = one (original_of s i.event) refl
  where
    one : (o : Option Instance) → original_of s i.event ≡ o
        → IsSampled period slots s (record { event = i.event; copy = true; id = id; attr = record i.attr { period = present_period o i.attr }; own = (copy_of s id i).own; ring = None; mapped = false })
    one None e = record { used = k.used; sampling = record { hardware = k.sampling.hardware; none = k.sampling.none; least = k.sampling.least } }
    one (Some o) e =
        let all : Each (IsSampled period slots s) (all_instances s) = all_instances-in (IsSampled period slots s) s h.each in
        let known : IsSampled period slots s o = find-holds (IsSampled period slots s) (is_original i.event) (all_instances s) o all e in
        let passes : is_original i.event o ≡ true = find-passes (is_original i.event) (all_instances s) o e in
        let number : o.event.0 ≡ i.event.0 = grind (arith, nat_tests, passes) in
        record {
          used = k.used;
          sampling = record { hardware = k.sampling.hardware; none = λ m. known.sampling.none (same_number slots o i number ∙ m); least = known.sampling.least };
        }

-- a new period comes to events that sample
first_fault : (faults : List (Reason × Bool)) (f : Reason × Bool) → first_of (f ∷ faults) ≡ None → (f.1 ≡ false) × (first_of faults ≡ None)
first_fault faults f e = one f.1 e
  where
    one : (b : Bool) → first_of ((f.0, b) ∷ faults) ≡ None → (b ≡ false) × (first_of faults ≡ None)
    one true e = absurd (none-some f.0 (sym e))
    one false e = (refl, e)

period-sampled : (period : ℕ) (slots : List EventNo) (s : Stage) (e : EventNo) (new : ℕ) → Sampled period slots s → period_refusal s e new ≡ None → (new ≡ 0) ⊎ (period ≤ new)
    → (i : Instance) → is_original e i ≡ true → IsSampled period slots s i → IsSampled period slots s (record i { attr = record i.attr { period = new } })
period-sampled period slots s e new h accepted least i original k =
    let faults : List (Reason × Bool) = (reason.NotSampling, holds_of (λ j. j.attr.period == 0) (original_of s e)) ∷ (reason.ZeroPeriod, new == 0 || not (bit_and new (2 ^ 63) == 0)) ∷ [] in
    let first = first_fault faults (reason.NoEvent, not (is_open s e)) accepted in
    let second = first_fault ((reason.ZeroPeriod, new == 0 || not (bit_and new (2 ^ 63) == 0)) ∷ []) (reason.NotSampling, holds_of (λ j. j.attr.period == 0) (original_of s e)) first.1 in
    let reached : is_reached slots i ≡ true = one (original_of s e) refl second.0 (is_reached slots i) refl first.0 in
    record { used = k.used; sampling = record { hardware = k.sampling.hardware; none = λ m. absurd (false≢true (sym m ∙ reached)); least = least } }
  where
    one : (o : Option Instance) → original_of s e ≡ o → holds_of (λ (j : Instance). j.attr.period == 0) o ≡ false → (b : Bool) → is_reached slots i ≡ b → not (is_open s e) ≡ false → b ≡ true
    one o f g true m opened = refl
    one None f g false m opened = absurd (false≢true (sym opened ∙ ap not (find-none (is_original e) (all_instances s) f)))
    one (Some o) f g false m opened =
        let all : Each (IsSampled period slots s) (all_instances s) = all_instances-in (IsSampled period slots s) s h.each in
        let known : IsSampled period slots s o = find-holds (IsSampled period slots s) (is_original e) (all_instances s) o all f in
        let passes : is_original e o ≡ true = find-passes (is_original e) (all_instances s) o f in
        let number : o.event.0 ≡ i.event.0 = grind (arith, nat_tests, passes, original) in
        let none : o.attr.period ≡ 0 = known.sampling.none (same_number slots o i number ∙ m) in
        absurd (grind (arith, nat_tests, none, g))

-- an open
none_there : (s : Stage) (slot e : EventNo) → is_used s slot ≡ false → is_used s e ≡ true → (e.0 == slot.0) ≡ false
none_there s slot e unused used = one (e.0 == slot.0) refl
  where
    one : (b : Bool) → (e.0 == slot.0) ≡ b → b ≡ false
    one false m = refl
    one true m =
        let number : e.0 ≡ slot.0 = grind (arith, nat_tests, m) in
        absurd (false≢true (sym unused ∙ (ap (λ n. list_any (λ (f : EventNo). f.0 == n) s.used) (sym number) ∙ used)))

now_used : (used : List EventNo) (slot : EventNo) → list_any (λ e. e.0 == slot.0) (used ++ slot ∷ []) ≡ true
now_used [] slot = grind (arith, nat_tests)
now_used (e ∷ used) slot = one (e.0 == slot.0) (now_used used slot)
  where
    one : (b : Bool) → list_any (λ f. f.0 == slot.0) (used ++ slot ∷ []) ≡ true → (b || list_any (λ f. f.0 == slot.0) (used ++ slot ∷ [])) ≡ true
    one true h = refl
    one false h = h

opened_uses : (s : Stage) (slot e : EventNo) (a : Attr) (leader : Option EventNo) → (e.0 == slot.0) ≡ true → is_used (opened s slot a leader) e ≡ true
unfolding opened
opened_uses s slot e a leader same =
    let number : e.0 ≡ slot.0 = grind (arith, nat_tests, same) in
    ap (λ n. list_any (λ (f : EventNo). f.0 == n) (s.used ++ slot ∷ [])) number ∙ now_used s.used slot

-- one slot more that samples
with_slot : (period : ℕ) (slots : List EventNo) (s t : Stage) (slot : EventNo) → Draws s t → is_used s slot ≡ false → (i : Instance) → IsSampled period slots s i → IsSampled period (slot ∷ slots) t i
with_slot period slots s t slot h unused i k = grind (arith, nat_tests)

-- the slots that sample after a step, at most one more where it opens an event with a period
pub record Next (period : ℕ) (slots : List EventNo) (more : Bool) (s : Stage) : Type 0 where
  pub slots_now : List EventNo
  pub few : length slots_now ≤ length slots + cond more 1 0
  pub sampled : Sampled period slots_now s

hardware_by : (a : Attr) → has_soft_period a ≡ false → 0 < a.period → is_software a.kind ≡ false
hardware_by a h pos = grind (arith, nat_tests, h, pos)

open-next : (period : ℕ) (slots : List EventNo) (hw : Hardware) (s : Stage) (slot : EventNo) (a : Attr) (leader : Option EventNo) → Sampled period slots s
    → open_refusal hw s slot a leader ≡ None → (a.period ≡ 0) ⊎ (period ≤ a.period) → Next period slots (nat_lt 0 a.period) (opened s slot a leader)
open-next period slots hw s slot a leader h accepted least = one (nat_lt 0 a.period) refl
  where
    t : Stage
    t = opened s slot a leader

    grows : Draws s t
    grows = tool_changed-draws (tool_line.Open slot a leader) s

    unused : is_used s slot ≡ false
    unused = (first_fault (drop 1 (open_faults hw s slot a leader)) (reason.Exists, is_used s slot) (no_fault hw s slot a leader accepted)).0

    faults : List (Reason × Bool)
    faults = open_faults hw s slot a leader

    soft : has_soft_period a ≡ false
    soft =
        let e = (first_fault (drop 1 faults) (reason.Exists, is_used s slot) (no_fault hw s slot a leader accepted)).1 in
        let e2 = (first_fault (drop 2 faults) (reason.BadPeriod, has_high_period a) e).1 in
        let e3 = (first_fault (drop 3 faults) (reason.BadSampleBits, has_unknown_sample a) e2).1 in
        let e4 = (first_fault (drop 4 faults) (reason.BadFormatBits, has_unknown_format a) e3).1 in
        let e5 = (first_fault (drop 5 faults) (reason.NoPlace, has_no_place a) e4).1 in
        (first_fault (drop 6 faults) (reason.SoftPeriod, has_soft_period a) e5).0

    at_slot : (slot.0 == slot.0) ≡ true
    at_slot = grind (arith, nat_tests)

    one : (b : Bool) → nat_lt 0 a.period ≡ b → Next period slots b t
    one true m =
        let P : Instance → Type 0 = IsSampled period (slot ∷ slots) t in
        let before : InStage P s = InStage-from_all P s (weaker-Each (IsSampled period slots s) P (with_slot period slots s t slot grows unused) (all_instances s) (all_instances-in (IsSampled period slots s) s h.each)) in
        let reached : is_reached (slot ∷ slots) (new_original s slot a) ≡ true = ap (λ b. b || is_reached slots (new_original s slot a)) at_slot in
        let fresh : P (new_original s slot a) = record {
          used = opened_uses s slot slot a leader at_slot;
          sampling = record {
            hardware = λ g. hardware_by a soft (grind (arith, nat_tests, m));
            none = λ g. absurd (false≢true (sym g ∙ reached));
            least = least;
          };
        } in
        record {
          slots_now = slot ∷ slots;
          few = omega arith;
          sampled = record { each = opened-in P s slot a leader fresh before; used = λ e g. uses e (e.0 == slot.0) refl g };
        }
      where
        uses : (e : EventNo) (b : Bool) → (e.0 == slot.0) ≡ b → (b || list_any (λ f. e.0 == f.0) slots) ≡ true → is_used t e ≡ true
        uses e true n g = opened_uses s slot e a leader n
        uses e false n g = still_used s t grows e (h.used e g)
    one false m =
        let P : Instance → Type 0 = IsSampled period slots t in
        let before : InStage P s = sampled-later period slots s t s grows h.each in
        let zero : a.period ≡ 0 = grind (arith, nat_tests, m) in
        let fresh : P (new_original s slot a) = record {
          used = opened_uses s slot slot a leader at_slot;
          sampling = record { hardware = λ g. absurd (false≢true (sym unused ∙ h.used slot g)); none = λ g. zero; least = inl zero };
        } in
        record {
          slots_now = slots;
          few = omega arith;
          sampled = record { each = opened-in P s slot a leader fresh before; used = λ e g. still_used s t grows e (h.used e g) };
        }

-- a step
same-next : (period : ℕ) (slots : List EventNo) (b : Bool) (s : Stage) → Sampled period slots s → Next period slots b s
same-next period slots b s h = record { slots_now = slots; few = omega arith; sampled = h }

cpu-known : (period : ℕ) (slots : List EventNo) (hw : Hardware) (cpu : CpuNo) (line : CpuLine) (s : Stage) → Sampled period slots s → InStage (IsSampled period slots s) (cpu_changed hw cpu line s)
cpu-known period slots hw cpu (cpu_line.Switch to) s h = switched-in (IsSampled period slots s) cpu to s h.each
cpu-known period slots hw cpu (cpu_line.Work w) s h = h.each
cpu-known period slots hw cpu cpu_line.Tick s h = rotated-in (IsSampled period slots s) hw cpu s h.each
cpu-known period slots hw cpu (cpu_line.Fork child) s h = forked-in (IsSampled period slots s) cpu child s (λ i id g l m. copy-sampled period slots s h i id g) h.each
cpu-known period slots hw cpu cpu_line.Exit s h = exited-in (IsSampled period slots s) cpu s h.each

keeps-next : (period : ℕ) (slots : List EventNo) (b : Bool) (s t : Stage) → Draws s t → Sampled period slots s → InStage (IsSampled period slots s) t → Next period slots b t
keeps-next period slots b s t draws h k = same-next period slots b t (changed period slots s t draws h k)

tool-next : (period : ℕ) (slots : List EventNo) (hw : Hardware) (line : ToolLine) (s : Stage) → Sampled period slots s → (period_of line ≡ 0) ⊎ (period ≤ period_of line)
    → tool_refusal hw s line ≡ None → Next period slots (opens_sampling line) (tool_changed line s)
tool-next period slots hw (tool_line.Open slot attr leader) s h least e = open-next period slots hw s slot attr leader h e least
tool-next period slots hw (tool_line.Enable event group) s h least e =
    keeps-next period slots false s _ (tool_changed-draws (tool_line.Enable event group) s) h (command_each-in (IsSampled period slots s) (sampled-attr period slots s) enabled (targets s event group) s h.each)
tool-next period slots hw (tool_line.Disable event group) s h least e =
    keeps-next period slots false s _ (tool_changed-draws (tool_line.Disable event group) s) h (command_each-in (IsSampled period slots s) (sampled-attr period slots s) disabled (targets s event group) s h.each)
tool-next period slots hw (tool_line.Reset event group) s h least e = same-next period slots false s h
tool-next period slots hw (tool_line.Period event new) s h least e =
    keeps-next period slots false s _ (tool_changed-draws (tool_line.Period event new) s) h (with_period-in (IsSampled period slots s) event new s (period-sampled period slots s event new h e least) h.each)
tool-next period slots hw (tool_line.Read event size) s h least e = same-next period slots false s h
tool-next period slots hw (tool_line.Map event ring) s h least e =
    keeps-next period slots false s _ (tool_changed-draws (tool_line.Map event ring) s) h (mapped_to-in (IsSampled period slots s) (sampled-attr period slots s) event ring s h.each)
tool-next period slots hw (tool_line.Output event target) s h least e =
    keeps-next period slots false s _ (tool_changed-draws (tool_line.Output event target) s) h (output_to-in (IsSampled period slots s) (sampled-attr period slots s) event target s h.each)
tool-next period slots hw (tool_line.Close event) s h least e =
    keeps-next period slots false s _ (tool_changed-draws (tool_line.Close event) s) h (closed-in (IsSampled period slots s) event s h.each)
tool-next period slots hw (tool_line.Why event) s h least e = same-next period slots false s h
tool-next period slots hw (tool_line.Seats cpu) s h least e = same-next period slots false s h

unless-next : (period : ℕ) (slots : List EventNo) (b : Bool) (hw : Hardware) (refusal : Option Reason) (change : Stage → Stage) (s : Stage) → Sampled period slots s
    → (refusal ≡ None → Next period slots b (change s)) → Next period slots b (unless_refused hw refusal change s)
unless-next period slots b hw (Some r) change s h k = same-next period slots b s h
unless-next period slots b hw None change s h k =
    let next : Next period slots b (change s) = k refl in
    record { slots_now = next.slots_now; few = next.few; sampled = settled period next.slots_now hw (change s) next.sampled }

pub step-next : (period : ℕ) (slots : List EventNo) (hw : Hardware) (s : Stage) (x : Step) → Sampled period slots s → (period_by x ≡ 0) ⊎ (period ≤ period_by x)
    → Next period slots (opens_by x) (stage_step hw s x)
unfolding stage_step
step-next period slots hw s (CpuStep cpu line) h least =
    unless-next period slots false hw (cpu_refusal s cpu line) (cpu_changed hw cpu line) s h
    (λ e. keeps-next period slots false s (cpu_changed hw cpu line s) (cpu_changed-draws hw cpu line s) h (cpu-known period slots hw cpu line s h))
step-next period slots hw s (ToolStep line) h least =
    unless-next period slots (opens_sampling line) hw (tool_refusal hw s line) (tool_changed line) s h (λ e. tool-next period slots hw line s h least e)
step-next period slots hw s (SeenStep ring place) h least = same-next period slots false s h

pub first-sampled : (period cpus : ℕ) (declared : List TaskNo) → Sampled period [] (first_stage cpus declared)
unfolding first_stage
first-sampled period cpus declared = record {
  each = replicate-Each (InLists (IsSampled period [] (first_stage cpus declared))) 72 no_groups (no_groups-In (IsSampled period [] (first_stage cpus declared)));
  used = λ e h. absurd (false≢true h);
}
