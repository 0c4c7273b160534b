-- inner
-- What a line of work does to a world: the clock and the totals of its processor go on, and each account goes along
-- them. After perf_event_update_time of kernel/events/core.c; the totals are this project's own profile.
use Rattle.std.specs.Prelude.{◌≡◌, ℕ, ◌+◌, ◌^◌, ◌<◌, ◌==◌, Bool, true, false, ◌&&◌, List, [], ◌∷◌, slice_index_or, slice_set, if◌then◌else◌}
use Rattle.std.specs.FinMap.{contains_key}
use Rattle.perf_base.specs.declared.{attr.{Attr.{Attr}, Kind.{Kind}}, lines.{Mode.{Mode}, Work.{Work}}, numbers.{CpuNo.{CpuNo}, Key.{Key}}}
use Rattle.perf_base.specs.declared.reply.Sums.{Sums}
use Rattle.perf_base.specs.declared.attr.Kind.TheVariants as kind
use Rattle.perf_base.specs.declared.lines.CpuLine.TheVariants as cpu_line
use Rattle.perf_base.specs.declared.lines.Mode.TheVariants as mode
use Rattle.stage_spec.specs.{Families.{plus}, Hardware.{Hardware}, Shares.{work_hits}}
use Rattle.stage_laws.specs.Bounds.{most_of_line, AreAtMost}
use Rattle.world_spec.specs.{Value.{World, Quiet, Totals, no_totals, is_live, instance_at, account_at, totals_at}, StageOf.{stage_of}}
use Rattle.world_spec.specs.{Kept.{IsKept, AreSmallTotals, family_sums}, Shares.{HaveRoom, work_shares}, Rescheduled.{IsJudged}}
use Rattle.world_spec.specs.Ways.{is_ready_at, is_on_at, KeepsWay}

-- Numbers with others added to them, place by place; there are as many as before.
abbrev pub add_each : List ℕ → List ℕ → List ℕ
add_each [] more = []
add_each (n ∷ numbers) [] = n ∷ numbers
add_each (n ∷ numbers) (m ∷ more) = (n + m) ∷ add_each numbers more

-- the occurrences of a stretch of work in its mode
abbrev pub add_hits : Mode → List ℕ → Totals → Totals
add_hits mode.User hits t = record t { user = add_each t.user hits }
add_hits mode.Kernel hits t = record t { kernel = add_each t.kernel hits }

-- the clock and the totals of a processor after a stretch of work there
abbrev pub metered : CpuNo → Work → Quiet → Quiet
metered cpu work q = record q {
  clocks = slice_set q.clocks cpu.0 (slice_index_or q.clocks cpu.0 0 + work.length);
  totals = slice_set q.totals cpu.0 (add_hits work.mode work.hits (slice_index_or q.totals cpu.0 no_totals));
}

-- What an instance has of it along the processor: time while it is ready and while it is on, and occurrences while it
-- is on. Those of one that samples are counted one by one, and not along totals.
abbrev pub work_given : World → CpuNo → Work → Key → Sums
work_given w cpu work k = record {
  count = if is_on_at w cpu k && (instance_at w k).attr.period == 0 then work_hits work (instance_at w k) else 0;
  enabled = if is_ready_at w cpu k then work.length else 0;
  running = if is_on_at w cpu k then work.length else 0;
}

-- Work was done on a processor: each instance was given that, and nothing else changed but clock and totals.
pub record IsWorked (w after : World) (cpu : CpuNo) (work : Work) : Type 0 where
  pub accounts : (k : Key) → is_live w k ≡ true → account_at after k ≡ record (account_at w k) { sums = plus (account_at w k).sums (work_given w cpu work k) }
  pub keys : (k : Key) → contains_key after.accounts k.0 ≡ contains_key w.accounts k.0
  pub rest : after ≡ record w { accounts = after.accounts; quiet = metered cpu work w.quiet }

-- The clock and the totals of a processor have room for it.
pub record HasMeterRoom (w : World) (cpu : CpuNo) (work : Work) : Type 0 where
  pub clock : slice_index_or w.quiet.clocks cpu.0 0 + work.length < 2 ^ 63
  pub totals : AreSmallTotals (add_hits work.mode work.hits (totals_at w cpu))

-- Work leaves the stage and all ways, and keeps the world where each family, the clock and the totals have room.
abbrev pub WorkStageLaw : Type 0
WorkStageLaw = (w after : World) (cpu : CpuNo) (work : Work) → IsWorked w after cpu work → stage_of after ≡ stage_of w

abbrev pub WorkWaysLaw : Type 0
WorkWaysLaw = (w after : World) (cpu : CpuNo) (work : Work) (k : Key) → IsWorked w after cpu work → KeepsWay w after k

abbrev pub WorkKeptLaw : Type 0
WorkKeptLaw = (hw : Hardware) (w after : World) (cpu : CpuNo) (work : Work) → IsKept hw w → IsWorked w after cpu work
    → HaveRoom w (most_of_line (cpu_line.Work work)) → HasMeterRoom w cpu work → IsKept hw after

-- A family grows by no more than one instance may, since a processor reaches one of it at most.
abbrev pub WorkGrowsLaw : Type 0
WorkGrowsLaw = (hw : Hardware) (w after : World) (cpu : CpuNo) (work : Work) (slot : ℕ) → IsKept hw w → IsWorked w after cpu work
    → AreAtMost (family_sums after slot) (plus (family_sums w slot) (most_of_line (cpu_line.Work work)))

-- Where the processor was judged, the definitions' share of an instance is its time and its occurrences along the
-- processor, whether it samples or not. So it is what one that does not sample is given, and one that does is given its
-- time alone.
abbrev pub ShareLaw : Type 0
ShareLaw = (w : World) (cpu : CpuNo) (work : Work) (k : Key) → IsKept w.hardware w → IsJudged w.hardware w cpu → is_live w k ≡ true
    → work_shares w cpu work (instance_at w k).id ≡ record (work_given w cpu work k) { count = if is_on_at w cpu k then work_hits work (instance_at w k) else 0 }

abbrev pub GivenLaw : Type 0
GivenLaw = (w : World) (cpu : CpuNo) (work : Work) (k : Key) → IsKept w.hardware w → IsJudged w.hardware w cpu → is_live w k ≡ true
    → work_given w cpu work k ≡ record (work_shares w cpu work (instance_at w k).id) {
      count = if (instance_at w k).attr.period == 0 then (work_shares w cpu work (instance_at w k).id).count else 0;
    }

-- Whether lines of work count a kind: a hardware kind and the clock. Switches and migrations occur by themselves.
abbrev pub is_metered : Kind → Bool
is_metered (kind.Hard n) = true
is_metered kind.ContextSwitches = false
is_metered kind.CpuMigrations = false
is_metered kind.TaskClock = true
is_metered kind.Dummy = false

-- The count of an event goes along totals while it is on, where lines of work count its kind and it does not sample.
abbrev pub goes_along : Attr → Bool
goes_along a = is_metered a.kind && a.period == 0

-- So the occurrences that an instance has along a processor are those of an event whose count goes along totals.
abbrev pub AlongLaw : Type 0
AlongLaw = (w : World) (cpu : CpuNo) (work : Work) (k : Key)
    → (work_given w cpu work k).count ≡ if is_on_at w cpu k && goes_along (instance_at w k).attr then work_hits work (instance_at w k) else 0
