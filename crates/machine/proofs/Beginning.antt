-- The first world of a script stands ready.
use Rattle.std.specs.Prelude.{◌≡◌, ℕ, ◌<◌, List, [], ◌∷◌, length, map, replicate, Option, Some, None, slice_index, slice_index_or}
use Rattle.std.proofs.{Common.{arith, refl, sym, ap, subst, ◌∙◌, inl, inr}, lemmas.Bool.{cases_lt, false≢true}}
use Rattle.std.proofs.lemmas.List.{length-append, length-map, length-replicate, get_or-map, get_or_past, Elements.{All-nil}}
use Rattle.perf_base.specs.{declared.{numbers.{CpuNo.{CpuNo}, TaskNo.{TaskNo}}, standing.Context.{Context}}, Scripts.{Scripted, IsCovered, IsScript}}
use Rattle.perf_base.specs.declared.standing.Context.TheVariants as context
use Rattle.stage_spec.specs.{Hardware.{Hardware, hardware_of}, History.{stage_after, steps_from}}
use Rattle.stage_spec.specs.{Limits.{Limits, IsMachine, IsWithin, AreTaskNumbers, limits_of}, Replies.{seated}, Settle.{IsSettled}}
use Rattle.stage_spec.specs.Stage.{first_stage, lists_of, no_groups, place_of, task_on}
use Rattle.stage_spec.{specs.Verdict.{verdicts, judge_passes, judge_pass, task_lists}, proofs.Machines.{script_machine}}
use Rattle.stage_laws.{specs.Sound.{IsSound}, proofs.{ReachedSettled.{reached_settled}, Sound.{first_sound}}}
use Rattle.counter_match.specs.Seating.{Seated, empty_seating}
use Rattle.ring_spec.specs.Running.{empty_ring, first_record, record_of}
use Rattle.sample_ring.specs.RingLists.{OutList}
use Rattle.work_account.specs.Ends.{HaveAccounts}
use Rattle.world_spec.specs.{Agreement.{AgreesWith}, First.{first_world}, Rescheduled.{AreServed, IsRescheduled}, StageOf.{stage_of}}
use Rattle.world_spec.{specs.Value.{Totals, no_totals, is_live, is_key, entry_at, seats_at, totals_at}, proofs.Agreement.{first-agrees}}
use Rattle.world_spec.proofs.{First.{first-stage, none-live, replicated}, Moving.{leads-parts}}
use Rattle.machine.specs.{Stepped.{IsReady}, Leading.{IsWhole, LeadTo}, Totals.{AreUpTo}}

-- a stage without groups has no verdicts
first-lists : (cpus : ℕ) (declared : List TaskNo) (c : Context) → lists_of (first_stage cpus declared) c ≡ no_groups
unfolding first_stage
first-lists cpus declared c = replicated 72 (place_of c) no_groups

first-task : (cpus : ℕ) (declared : List TaskNo) (o : Option TaskNo) → task_lists (first_stage cpus declared) o ≡ no_groups
first-task cpus declared None = refl
first-task cpus declared (Some task) = first-lists cpus declared (context.Task task)

no-verdicts : (hw : Hardware) (cpus : ℕ) (declared : List TaskNo) (cpu : CpuNo) → verdicts hw (first_stage cpus declared) cpu ≡ []
unfolding verdicts judge_passes judge_pass
no-verdicts hw cpus declared cpu = rw (first-lists cpus declared (context.Processor cpu), first-task cpus declared (task_on (first_stage cpus declared) cpu)) refl

no-seats : (hw : Hardware) (declared : List TaskNo) (cpu : CpuNo) → ((seats_at (first_world hw declared) cpu).events ≡ []) × ((seats_at (first_world hw declared) cpu).seats ≡ [])
no-seats hw declared cpu =
    let f : ℕ → Seated = λ pmu. empty_seating (slice_index hw.counters pmu) in
    elim (cases_lt cpu.0 (length hw.cpu_pmus)) [
      | inl low ↦ let here = get_or-map f hw.cpu_pmus cpu.0 0 (empty_seating 0) low in (ap (λ s. s.events) here, ap (λ s. s.seats) here)
      | inr past ↦ grind (arith, get_or_past, past, length-map)
    ]

first-seated : (hw : Hardware) (cpus : ℕ) (declared : List TaskNo) (cpu : CpuNo) → seated hw (first_stage cpus declared) cpu ≡ []
first-seated hw cpus declared cpu = rw (no-verdicts hw cpus declared cpu) refl

first-served : (hw : Hardware) (declared : List TaskNo) (cpu : CpuNo) → AreServed hw (first_world hw declared) cpu
first-served hw declared cpu =
    let none = no-seats hw declared cpu in
    let stage : seated hw (stage_of (first_world hw declared)) cpu ≡ [] = ap (λ s. seated hw s cpu) (first-stage hw declared) ∙ first-seated hw (length hw.cpu_pmus) declared cpu in
    grind (arith, stage)

-- the limits of a machine without rings
abbrev limits_by : Hardware → Limits
limits_by hw = record { cpus = length hw.cpu_pmus; kinds = length hw.kind_pmus; rings = [] }

machine-by : (l : Limits) (hw : Hardware) → IsMachine l hw → IsMachine (limits_by hw) hw
machine-by l hw h = record { sound = h.sound; cpus = refl; kinds = (refl, h.kinds.1 ∙ sym h.kinds.0) }

first-settled : (hw : Hardware) (declared : List TaskNo) (cpu : CpuNo) → IsMachine (limits_by hw) hw → AreTaskNumbers declared → cpu.0 < length hw.cpu_pmus
    → IsSettled hw cpu (first_stage (length hw.cpu_pmus) declared)
unfolding stage_after first_stage
first-settled hw declared cpu machine tasks low =
    reached_settled (limits_by hw) hw declared [] machine tasks (All-nil (IsWithin (limits_by hw))) cpu (omega (arith, low, length-replicate {A = Option TaskNo} (length hw.cpu_pmus) None))

first-rescheduled : (hw : Hardware) (declared : List TaskNo) (cpu : CpuNo) → IsMachine (limits_by hw) hw → AreTaskNumbers declared → cpu.0 < length hw.cpu_pmus
    → IsRescheduled hw (first_world hw declared) cpu
first-rescheduled hw declared cpu machine tasks low = record {
  settled = subst (IsSettled hw cpu) (sym (first-stage hw declared)) (first-settled hw declared cpu machine tasks low);
  judged = record {
    standings = λ k leading has.
        absurd (false≢true (sym (none-live hw declared k) ∙ (leads-parts (is_live (first_world hw declared) k) (is_key k (entry_at (first_world hw declared) k).leader) leading).0));
    served = first-served hw declared cpu;
  };
}

first-ready : (l : Limits) (hw : Hardware) (declared : List TaskNo) → IsMachine l hw → AreTaskNumbers declared → IsReady (first_world hw declared)
first-ready l hw declared h tasks =
    let machine : IsMachine (limits_by hw) hw = machine-by l hw h in
    let idle : length (replicate {A = Option TaskNo} (length hw.cpu_pmus) None) ≡ length hw.cpu_pmus = length-replicate (length hw.cpu_pmus) None in
    record {
      machine = record { sound = h.sound; cpus = sym idle; kinds = machine.kinds };
      sound = subst (IsSound hw) (sym (first-stage hw declared)) (first_sound (limits_by hw) hw declared machine tasks);
      rescheduled = λ cpu low. first-rescheduled hw declared cpu machine tasks (omega (arith, low, idle));
      homes = λ k cpu live. absurd (false≢true (sym (none-live hw declared k) ∙ live));
    }

-- nothing occurred
first-totals : (hw : Hardware) (declared : List TaskNo) (cpu : CpuNo) → totals_at (first_world hw declared) cpu ≡ no_totals
first-totals hw declared cpu = replicated {X = Totals} (length hw.cpu_pmus) cpu.0 no_totals

zeros : (size number : ℕ) → slice_index (replicate size 0) number ≡ 0
zeros size number = replicated {X = ℕ} size number 0

none-total : (hw : Hardware) (declared : List TaskNo) (cpu : CpuNo) (most : ℕ) → AreUpTo most (totals_at (first_world hw declared) cpu)
none-total hw declared cpu most =
    subst (AreUpTo most) (sym (first-totals hw declared cpu)) (record { user = λ number. omega (arith, zeros 16 number); kernel = λ number. omega (arith, zeros 16 number) })

pub first-whole : (l : Limits) (hw : Hardware) (declared : List TaskNo) → IsMachine l hw → (outs : OutList) → AreTaskNumbers declared
    → IsWhole (record { cpus = replicate 8 0; tools = replicate 4 0; world = first_world hw declared; outs = outs })
first-whole l hw declared h outs tasks = record { cpus = refl; tools = refl; ready = first-ready l hw declared h tasks; totals = λ cpu. none-total hw declared cpu _ }

-- No act leads to a machine that has done nothing.
none-done : (n i : ℕ) → ◌≡◌ {A = ℕ} (slice_index_or (replicate n 0) i 0) 0
none-done n i = replicated {X = ℕ} n i 0

pub first-led : (s : Scripted) (outs : OutList) → IsScript s → IsCovered s → HaveAccounts outs (map empty_ring s.rings)
    → LeadTo s [] (record { cpus = replicate 8 0; tools = replicate 4 0; world = first_world (hardware_of s) s.tasks; outs = outs })
unfolding record_of steps_from
first-led s outs h covered ends =
    let machine : IsMachine (limits_of s) (hardware_of s) = script_machine s h covered in
    record {
      counted = record { cpus = λ cpu. omega arith; tools = λ tool. omega arith };
      lawful = λ before after a e. absurd (omega (arith, ap length e, length-append before (a ∷ after)));
      cpus = λ cpu. none-done 8 cpu.0;
      tools = λ tool. none-done 4 tool.0;
      hardware = refl;
      agrees = subst (λ n. AgreesWith (first_world (hardware_of s) s.tasks) (first_record (first_stage n s.tasks) s.rings)) machine.cpus (first-agrees (hardware_of s) s.tasks s.rings);
      ends = ends;
    }
