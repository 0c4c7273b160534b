-- The case of an event that is opened behind the plan of a tick: how many groups each brief has, and what is on.
use Rattle.std.specs.Prelude.{◌≡◌, ℕ, ◌<◌, ◌≤◌, Bool, true, false, if◌then◌else◌, List, [], ◌∷◌, ◌++◌, length, map, sum_by, Some, option_map, slice_get, slice_index_or}
use Rattle.std.{specs.{Int.{bit_at}, Option.{IsSome}}, proofs.{Common.{arith, refl, sym, ap, subst, ◌∙◌, length-append}, lemmas.List.{length-map}}}
use Rattle.std.proofs.lemmas.{List.Sums.{sum_by-cons}, Option.{same_Some}}
use Rattle.perf_base.specs.{declared.{acts.Act.{Act}, numbers.Key.{Key}}, Scripts.{Scripted, IsCovered, lines_of_cpu, lines_of_tool}, Weight.{weight}}
use Rattle.perf_base.specs.declared.acts.Actor.TheVariants as actor
use Rattle.perf_base.specs.declared.lines.CpuLine.TheVariants as cpu_line
use Rattle.perf_base.specs.declared.standing.Context.TheVariants as context
use Rattle.stage_spec.specs.{Hardware.{Hardware, hardware_of}, Stage.{Stage, first_stage, task_on}, Fits.{fits, fits_beside, fits_below}}
use Rattle.stage_spec.specs.{Verdict.{judge, judge_pass, judge_passes, verdicts}, Settle.{settle_pass, settle, settle_each, settle_all}}
use Rattle.stage_spec.specs.{Opening.{open_refusal, opened}, Order.{done_by_cpu, done_by_tool}, Replies.{seated}, Rotation.{rotated}}
use Rattle.stage_spec.specs.History.{Step, CpuStep, stage_step, stage_after, steps_from, history, opening_stage}
use Rattle.stage_laws.specs.{Briefs.{GroupBrief}, Narrowing.{changed}, Standings.{briefs}}
use Rattle.world_spec.specs.{Listings.{task_leaders}, StageOf.{stage_of}, Value.{World, leaders_of}}
use Rattle.cpu_sched.specs.After.{after_brief, hardware_goes_last, some_wait, turned_brief, turned_groups}
use Rattle.cpu_sched.specs.{Briefs.{ProcessorBrief, briefs_at, present_brief}, Sheets.{Held}, Tried.{tried}}
use Rattle.cpu_sched.proofs.Relabelled.{briefs-relabelled, id_at, relabel}
use Rattle.machine.specs.{Counted.{IsCountedBy, Serves, rescheduled_by}, Leading.{Kept, LeadTo, next_step}, Prepared.{next_brief, prepared}}
use Rattle.machine.proofs.Roomy.{stage-then}
use Rattle.top_tests.specs.LateOpen.{before_plan, behind_plan, behind_tick, cpu, shared_counter, stretch, tool}

-- the counters of the case, its stage after some acts, and the tick
hw : Hardware
hw = hardware_of shared_counter

at : List Act → Stage
at acts = stage_after (hardware_of shared_counter) (opening_stage shared_counter) (history shared_counter acts)

tick : Step
tick = CpuStep cpu cpu_line.Tick

pub covered : IsCovered shared_counter
unfolding shared_counter
covered p low =
    let first : 0 ≡ p.0 = omega (arith, low) in
    (0, record { counters = 1; cpus = record { 0 = 1 } }, omega arith, refl, subst (λ n. bit_at 1 n ≡ 1) first refl)

no-weight : weight shared_counter ≡ 0
unfolding shared_counter
no-weight = refl

pub light : weight shared_counter ≤ 65536
light = omega (arith, no-weight)

-- how many groups the processor has, with two events and with three
groups-of : List Act → ℕ
groups-of acts = sum_by length (briefs hw (at acts) cpu)

two-groups : groups-of before_plan ≡ 2
unfolding groups-of hw at tick shared_counter first_stage fits fits_beside fits_below judge judge_pass judge_passes verdicts settle_pass settle settle_each settle_all open_refusal opened stage_step stage_after steps_from rotated
two-groups = refl

three-groups : groups-of behind_plan ≡ 3
unfolding groups-of hw at tick shared_counter first_stage fits fits_beside fits_below judge judge_pass judge_passes verdicts settle_pass settle settle_each settle_all open_refusal opened stage_step stage_after steps_from rotated
three-groups = refl

-- what is on after the tick on the processors that it reschedules, and that work reschedules none
on-after : ℕ
on-after = sum_by (λ p. length (seated hw (at behind_tick) p)) (rescheduled_by hw (at behind_plan) tick)

one-on : on-after ≡ 1
unfolding on-after hw at tick shared_counter first_stage fits fits_beside fits_below judge judge_pass judge_passes verdicts settle_pass settle settle_each settle_all open_refusal opened stage_step stage_after steps_from rotated
one-on = refl

work-reschedules-none : rescheduled_by hw (at behind_tick) (CpuStep cpu (stretch 40)) ≡ []
unfolding hw at shared_counter first_stage fits fits_beside fits_below judge judge_pass judge_passes verdicts settle_pass settle settle_each settle_all open_refusal opened stage_step stage_after steps_from rotated
work-reschedules-none = refl

-- renaming leaves how many there are, and so does a turn
same-count : {X Y : Type 0} (f : X → Y) (passes : List (List X)) → sum_by length (map (map f) passes) ≡ sum_by length passes
same-count f [] = refl
same-count f (pass ∷ passes) = omega (
  arith,
  same-count f passes,
  length-map pass f,
  sum_by-cons length (map f pass) (map (map f) passes),
  sum_by-cons length pass passes,
)

last-count : (groups : List (GroupBrief Key)) → length (hardware_goes_last groups) ≡ length groups
unfolding hardware_goes_last
last-count [] = refl
last-count (g ∷ groups) = by_kind g.software refl (last-count groups)
  where
    by_kind : (b : Bool) → g.software ≡ b → length (hardware_goes_last groups) ≡ length groups → length (hardware_goes_last (g ∷ groups)) ≡ length (g ∷ groups)
    by_kind true is rest = ap (λ b. length (if b then g ∷ hardware_goes_last groups else groups ++ g ∷ [])) is ∙ omega (arith, rest)
    by_kind false is rest = ap (λ b. length (if b then g ∷ hardware_goes_last groups else groups ++ g ∷ [])) is ∙ omega (arith, length-append groups (g ∷ []))

turned-count : (w : World) (groups : List (GroupBrief Key)) → length (turned_groups w groups) ≡ length groups
turned-count w groups = by_wait (some_wait w groups) refl
  where
    by_wait : (b : Bool) → some_wait w groups ≡ b → length (turned_groups w groups) ≡ length groups
    by_wait true is = ap (λ b. length (if b then hardware_goes_last groups else groups)) is ∙ last-count groups
    by_wait false is = ap (λ b. length (if b then hardware_goes_last groups else groups)) is

-- The brief of the tick has as many groups as the stage's.
count-at : (acts : List Act) (m : Kept) → LeadTo shared_counter acts m → sum_by length (after_brief m.world cpu cpu_line.Tick).passes ≡ groups-of acts
unfolding hw at groups-of
count-at acts m led =
    let w : World = m.world in
    let stage : stage_of w ≡ at acts = stage-then shared_counter acts m led in
    let own : List (GroupBrief Key) = briefs_at w cpu (leaders_of w (context.Processor cpu)).flexible in
    let task : List (GroupBrief Key) = briefs_at w cpu (task_leaders w (task_on (stage_of w) cpu)).flexible in
    let counts : Hardware → Stage → ℕ = λ h s. sum_by length (briefs h s cpu) in
    let turned : sum_by length (turned_brief w cpu).passes ≡ sum_by length (present_brief w cpu).passes = omega (arith, turned-count w own, turned-count w task) in
    turned
    ∙ (sym (same-count (relabel (id_at w)) (present_brief w cpu).passes)
    ∙ (ap (sum_by length) (briefs-relabelled w cpu) ∙ (ap (λ h. counts h (stage_of w)) led.hardware ∙ ap (counts hw) stage)))

-- The processor's next line is the tick where it has done one line, and the last work where it has done two.
tick-next : (acts : List Act) (m : Kept) → LeadTo shared_counter acts m → done_by_cpu cpu acts ≡ 1 → next_step shared_counter m (actor.Processor cpu) ≡ Some tick
unfolding shared_counter tick
tick-next acts m led one = ap (λ n. option_map (CpuStep cpu) (slice_get (lines_of_cpu shared_counter cpu) n)) (led.cpus cpu ∙ one)

brief-next : (acts : List Act) (m : Kept) → LeadTo shared_counter acts m → done_by_cpu cpu acts ≡ 1 → next_brief shared_counter m cpu ≡ Some (after_brief m.world cpu cpu_line.Tick)
unfolding shared_counter
brief-next acts m led one = ap (λ n. option_map (after_brief m.world cpu) (slice_get (lines_of_cpu shared_counter cpu) n)) (led.cpus cpu ∙ one)

work-next : (m : Kept) → LeadTo shared_counter behind_tick m → next_step shared_counter m (actor.Processor cpu) ≡ Some (CpuStep cpu (stretch 40))
unfolding shared_counter
work-next m led = ap (λ n. option_map (CpuStep cpu) (slice_get (lines_of_cpu shared_counter cpu) n)) (led.cpus cpu)

-- The tool and the processor have lines left before they have done three.
pub tool-has : (acts : List Act) (m : Kept) (done : ℕ) → LeadTo shared_counter acts m → done_by_tool tool acts ≡ done → done < 3 → slice_index_or m.tools 0 0 < length (lines_of_tool shared_counter tool)
unfolding shared_counter
tool-has acts m done led is few =
    let three : length (lines_of_tool shared_counter tool) ≡ 3 = refl in
    omega (arith, led.tools tool, is, few, three)

pub cpu-has : (acts : List Act) (m : Kept) (done : ℕ) → LeadTo shared_counter acts m → done_by_cpu cpu acts ≡ done → done < 3 → slice_index_or m.cpus 0 0 < length (lines_of_cpu shared_counter cpu)
unfolding shared_counter
cpu-has acts m done led is few =
    let three : length (lines_of_cpu shared_counter cpu) ≡ 3 = refl in
    omega (arith, led.cpus cpu, is, few, three)

-- The sheet that is prepared for the tick holds a brief.
pub some-brief : (s : Scripted) (m : Kept) (sheet : Held) → s ≡ shared_counter → LeadTo shared_counter before_plan m → sheet ≡ prepared s m cpu → IsSome sheet.brief
some-brief s m sheet script led held =
    subst IsSome (sym (ap (λ h. h.brief) held ∙ (ap (λ t. next_brief t m cpu) script ∙ brief-next before_plan m led refl))) refl

-- The plan of the tick that was made before the third open does not serve behind it.
plan-is-old : (m n : Kept) (sheet : Held) → LeadTo shared_counter before_plan m → LeadTo shared_counter behind_plan n → sheet.brief ≡ (prepared shared_counter m cpu).brief
    → Serves (Some sheet) n.world tick → ⊥
unfolding tick
plan-is-old m n sheet led is_opened held served =
    let same : after_brief m.world cpu cpu_line.Tick ≡ after_brief n.world cpu cpu_line.Tick =
    same_Some (after_brief m.world cpu cpu_line.Tick) (after_brief n.world cpu cpu_line.Tick) (sym (brief-next before_plan m led refl) ∙ (sym held ∙ served.brief)) in
    omega (
      arith,
      ap (λ (b : ProcessorBrief). sum_by length b.passes) same,
      count-at before_plan m led,
      count-at behind_plan n is_opened,
      two-groups,
      three-groups,
    )

-- So the tick takes a test.
pub tick-tests : (m n after : Kept) (sheet : Held) (before now : ℕ) → LeadTo shared_counter before_plan m → LeadTo shared_counter behind_plan n → LeadTo shared_counter behind_tick after
    → sheet.brief ≡ (prepared shared_counter m cpu).brief
    → ((x : Step) → next_step shared_counter n (actor.Processor cpu) ≡ Some x → IsCountedBy (Some sheet) x n.world after.world before now) → before < now
unfolding on-after hw at
tick-tests m n after sheet before now led is_opened behind held counted =
    let least = (counted tick (tick-next behind_plan n is_opened refl)).least (plan-is-old m n sheet led is_opened held) in
    let stage : stage_of n.world ≡ at behind_plan = stage-then shared_counter behind_plan n is_opened in
    let last : stage_of after.world ≡ at behind_tick = stage-then shared_counter behind_tick after behind in
    let ons : Hardware → Stage → Stage → ℕ = λ h s t. sum_by (λ p. length (seated h t p)) (rescheduled_by h s tick) in
    omega (
      arith,
      least,
      ap (λ h. ons h (stage_of n.world) (stage_of after.world)) is_opened.hardware,
      ap (λ s. ons hw s (stage_of after.world)) stage,
      ap (ons hw (at behind_plan)) last,
      one-on,
    )

-- Work takes none, by a sheet that is not planned.
pub work-tests-none : (m after : Kept) (sheet : Held) (before now : ℕ) → LeadTo shared_counter behind_tick m → sheet.planned ≡ false
    → ((x : Step) → next_step shared_counter m (actor.Processor cpu) ≡ Some x → IsCountedBy (Some sheet) x m.world after.world before now) → now ≡ before
unfolding hw at
work-tests-none m after sheet before now led unplanned counted =
    let x : Step = CpuStep cpu (stretch 40) in
    let counts = counted x (work-next m led) in
    let least = counts.least (λ served. absurd (let clash : false ≡ true = sym unplanned ∙ served.planned in cc)) in
    let most = counts.most in
    let stage : stage_of m.world ≡ at behind_tick = stage-then shared_counter behind_tick m led in
    let none : rescheduled_by m.world.hardware (stage_of m.world) x ≡ [] =
    ap (λ h. rescheduled_by h (stage_of m.world) x) led.hardware ∙ (ap (λ s. rescheduled_by hw s x) stage ∙ work-reschedules-none) in
    omega (
      arith,
      least,
      most,
      ap (sum_by (λ p. length (seated m.world.hardware (stage_of after.world) p))) none,
      ap (sum_by (tried m.world.hardware (changed m.world.hardware (stage_of m.world) x))) none,
    )
