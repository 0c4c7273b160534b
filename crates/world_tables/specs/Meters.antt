-- inner
-- The meters of processors, and the accounts that run along them. A meter is a clock with totals, as a processor's
-- counters are in the kernel; an account keeps what its meter showed at its last turn, as tstamp and prev_count are
-- kept for perf_event_update_time and x86_perf_event_update of kernel/events. That counts follow totals by kind and
-- mode is this project's own profile.
use Rattle.std.specs.Prelude.{◌≡◌, ℕ, ◌+◌, ◌^◌, ◌<◌, ◌≤◌, ◌==◌, Bool, true, false, ◌&&◌, slice_index, if◌then◌else◌}
use Rattle.perf_base.specs.declared.{attr.{Attr.{Attr}, Kind.{Kind}}, lines.Work.{Work}, numbers.CpuNo.{CpuNo}, reply.Sums.{Sums}}
use Rattle.perf_base.specs.declared.attr.Kind.TheVariants as kind
use Rattle.stage_spec.specs.{Flags.{excludes_user, excludes_kernel}, Shares.{counted_by, no_sums}}
use Rattle.world_spec.specs.{Value.{Totals, no_totals}, Metering.{add_hits}, Ways.{Way}}
use Rattle.event_times.specs.Times.{Times, fresh_times, enabled_at, running_at, turned}
use Rattle.event_counts.specs.Counts.{Counts, fresh_counts, count_at, followed}

-- what the meter of a processor shows: the lengths of its work lines added up, and its totals
pub record Metered : Type 0 where
  pub clock : ℕ
  pub totals : Totals

abbrev pub no_meter : Metered
no_meter = record { clock = 0; totals = no_totals }

-- and after a line of work
abbrev pub metered : Work → Metered → Metered
metered work m = record { clock = m.clock + work.length; totals = add_hits work.mode work.hits m.totals }

-- What an event counts along a meter: a clock its time, and a hardware kind its occurrences, but for those in a mode
-- that the event leaves out.
abbrev pub total_by : ℕ → Totals → Attr → Kind → ℕ
total_by clock totals a (kind.Hard n) = (if excludes_user a then 0 else slice_index totals.user n) + (if excludes_kernel a then 0 else slice_index totals.kernel n)
total_by clock totals a kind.ContextSwitches = 0
total_by clock totals a kind.CpuMigrations = 0
total_by clock totals a kind.TaskClock = clock
total_by clock totals a kind.Dummy = 0

abbrev pub total_of : ℕ → Totals → Attr → ℕ
total_of clock totals a = total_by clock totals a a.kind

-- the way of an instance that is just born
abbrev pub no_way : Way
no_way = record { cpu = record { 0 = 0 }; ready = false; on = false }

-- whether work lines give occurrences of a kind; those of the other kinds come one by one
abbrev pub is_metered : Kind → Bool
is_metered (kind.Hard n) = true
is_metered kind.ContextSwitches = false
is_metered kind.CpuMigrations = false
is_metered kind.TaskClock = true
is_metered kind.Dummy = false

-- a count goes along its total exactly while the instance is on, if work lines give its kind and it does not sample
abbrev pub goes_along : Attr → (on : Bool) → Bool
goes_along a on = on && (is_metered a.kind && a.period == 0)

-- What a line of work on a processor adds to an account that goes this way, by the event's attribute. The occurrences
-- of one that samples are counted one by one.
abbrev pub given : Work → Way → Attr → Sums
given work way a = record {
  count = if goes_along a way.on then counted_by work a a.kind else 0;
  enabled = if way.ready then work.length else 0;
  running = if way.on then work.length else 0;
}

abbrev pub given_on : CpuNo → Work → Way → Attr → Sums
given_on cpu work way a = if way.cpu.0 == cpu.0 then given work way a else no_sums

-- the account of one instance, and the processor along whose meter it runs
pub record Tallied : Type 0 where
  pub cpu : CpuNo
  pub times : Times
  pub counts : Counts

abbrev pub fresh_tally : ℕ → Tallied
fresh_tally period = record { cpu = record { 0 = 0 }; times = fresh_times; counts = fresh_counts period }

abbrev pub way_of : Tallied → Way
way_of t = record { cpu = t.cpu; ready = t.times.ready; on = t.times.on }

-- what the instance has counted where its meter shows this
abbrev pub sums_at : Metered → Attr → Tallied → Sums
sums_at m a t = record {
  count = count_at (total_of m.clock m.totals a) t.counts;
  enabled = enabled_at m.clock t.times;
  running = running_at m.clock t.times;
}

-- An account is in step with its meter: it was turned at no more than the meter shows, its count goes along as it
-- should, its sums stay small, and without a period there is no remainder.
pub record IsTally (m : Metered) (a : Attr) (t : Tallied) : Type 0 where
  pub begun : t.times.ready ≡ true → t.times.stamp ≤ m.clock
  pub enabled : enabled_at m.clock t.times < 2 ^ 63
  pub on_is_ready : t.times.on ≡ true → t.times.ready ≡ true
  pub period : t.counts.period ≡ a.period
  pub along : t.counts.along ≡ goes_along a t.times.on
  pub followed : t.counts.along ≡ true → t.counts.stamp ≤ total_of m.clock m.totals a
  pub counted : count_at (total_of m.clock m.totals a) t.counts < 2 ^ 63
  pub whole : a.period ≡ 0 → t.counts.left ≡ 0

-- an account that stops at one meter, and starts at another by a way
abbrev pub counts_to : (from to : ℕ) → (along : Bool) → Counts → Counts
counts_to from to along c = if c.period == 0 then followed to along (followed from false c) else c

abbrev pub tally_to : (from to : Metered) → Attr → Way → Tallied → Tallied
tally_to from to a way t = record {
  cpu = way.cpu;
  times = turned to.clock way.ready way.on (turned from.clock false false t.times);
  counts = counts_to (total_of from.clock from.totals a) (total_of to.clock to.totals a) (way.on && is_metered a.kind) t.counts;
}
