-- inner
-- The tables of events by key: entries, accounts, standings and ways; the clocks and totals of the processors; and what
-- each change does to them. This project's own profile.
use Rattle.std.specs.Prelude.{◌≡◌, ◌≢◌, ℕ, ◌+◌, ◌^◌, ◌<◌, ◌≤◌, Bool, true, List, map, replicate, Some, slice_index_or, slice_set}
use Rattle.std.specs.{FinMap.{FinMap, empty, get, contains_key, insert, remove, from_entries}, Option.{unwrap_or}, Ordering.{nat_cmp}}
use Rattle.perf_base.specs.declared.{lines.Work.{Work}, numbers.{CpuNo.{CpuNo}, Key.{Key}}, reply.Sums.{Sums}, standing.Context.{Context}}
use Rattle.perf_base.specs.declared.standing.Standing.{Standing}
use Rattle.perf_base.specs.declared.standing.Standing.TheVariants as standing
use Rattle.stage_spec.specs.{declared.instance.Instance.{Instance}, Families.{plus}, Shares.{counted_by}, Stage.{place_of}}
use Rattle.slab.specs.Slab.{Slab, entries, get as slab_get}
use Rattle.world_spec.specs.{Value.{Entry, Account, no_entry, no_account, Totals, no_totals}, Kept.{AreSmallTotals}, Metering.{add_hits}, Ways.{Way}}
use Rattle.world_tables.specs.{Meters.{Metered, IsTally, no_meter, no_way, given_on, goes_along, way_of}, Rows.{Row, Kept, account_by, meter_at}}
use Rattle.world_tables.specs.Samplers.{AreCounted}

-- the four tables, and of each processor its clock and its totals
pub record Columns : Type 0 where
  pub entries : FinMap nat_cmp Entry
  pub accounts : FinMap nat_cmp Account
  pub standings : FinMap nat_cmp Standing
  pub ways : FinMap nat_cmp Way
  pub clocks : List ℕ
  pub totals : List Totals

-- no event, and so many processors that never worked
abbrev pub no_columns : ℕ → Columns
no_columns cpus = record {
  entries = empty;
  accounts = empty;
  standings = empty;
  ways = empty;
  clocks = replicate cpus 0;
  totals = replicate cpus no_totals;
}

-- whether a key names an event, and what the tables have at it
abbrev pub is_there : Columns → Key → Bool
is_there t k = contains_key t.entries k.0

abbrev pub entry_in : Columns → Key → Entry
entry_in t k = unwrap_or (get t.entries k.0) no_entry

abbrev pub account_in : Columns → Key → Account
account_in t k = unwrap_or (get t.accounts k.0) no_account

abbrev pub standing_in : Columns → Key → Standing
standing_in t k = unwrap_or (get t.standings k.0) standing.Out

abbrev pub way_in : Columns → Key → Way
way_in t k = unwrap_or (get t.ways k.0) no_way

abbrev pub row_in : Columns → Key → Row
row_in t k = record { entry = entry_in t k; account = account_in t k; standing = standing_in t k; way = way_in t k }

-- some event of a context samples
abbrev pub SomeSamples : Columns → Context → Type 0
SomeSamples t c = (k : Key) × (is_there t k ≡ true) × (place_of (entry_in t k).context ≡ place_of c) × ((entry_in t k).instance.attr.period ≢ 0)

-- the totals of a processor
abbrev pub totals_in : Columns → CpuNo → Totals
totals_in t cpu = slice_index_or t.totals cpu.0 no_totals

-- an entry, an account, a standing and a way written
abbrev pub put_entry : Key → Entry → Columns → Columns
put_entry k e t = record t { entries = insert t.entries k.0 e }

abbrev pub put_account : Key → Account → Columns → Columns
put_account k a t = record t { accounts = insert t.accounts k.0 a }

abbrev pub put_standing : Key → Standing → Columns → Columns
put_standing k s t = record t { standings = insert t.standings k.0 s }

abbrev pub put_way : Key → Way → Columns → Columns
put_way k w t = record t { ways = insert t.ways k.0 w }

-- a change of the instance at a key
abbrev pub put_instance : Key → (Instance → Instance) → Columns → Columns
put_instance k f t = put_entry k (record (entry_in t k) { instance = f (entry_in t k).instance }) t

-- an event comes, and goes
abbrev pub put_row : Key → Row → Columns → Columns
put_row k r t = put_way k r.way (put_standing k r.standing (put_account k r.account (put_entry k r.entry t)))

abbrev pub taken : Key → Columns → Columns
taken k t = record t {
  entries = remove t.entries k.0;
  accounts = remove t.accounts k.0;
  standings = remove t.standings k.0;
  ways = remove t.ways k.0;
}

-- What a line of work on a processor adds to the account at a key.
abbrev pub given_in : Columns → CpuNo → Work → Key → Sums
given_in t cpu work k = given_on cpu work (way_in t k) (entry_in t k).instance.attr

-- Work was done on a processor: each account was given what it is given by its way, and nothing else changed but the
-- processor's clock and totals.
pub record IsWorked (t after : Columns) (cpu : CpuNo) (work : Work) : Type 0 where
  pub accounts : (k : Key) → is_there t k ≡ true → account_in after k ≡ record (account_in t k) { sums = plus (account_in t k).sums (given_in t cpu work k) }
  pub keys : (k : Key) → contains_key after.accounts k.0 ≡ contains_key t.accounts k.0
  pub rest : after ≡ record t {
    accounts = after.accounts;
    clocks = slice_set t.clocks cpu.0 (slice_index_or t.clocks cpu.0 0 + work.length);
    totals = slice_set t.totals cpu.0 (add_hits work.mode work.hits (totals_in t cpu));
  }

-- The processor's clock and totals have room for it, and so has each account that is ready, or that goes along, there.
pub record HasRoomForWork (t : Columns) (cpu : CpuNo) (work : Work) : Type 0 where
  pub clock : slice_index_or t.clocks cpu.0 0 + work.length < 2 ^ 63
  pub totals : AreSmallTotals (add_hits work.mode work.hits (totals_in t cpu))
  pub enabled : (k : Key) → is_there t k ≡ true → (way_in t k).cpu.0 ≡ cpu.0 → (way_in t k).ready ≡ true
      → (account_in t k).sums.enabled + work.length < 2 ^ 63
  pub count : (k : Key) → is_there t k ≡ true → (way_in t k).cpu.0 ≡ cpu.0 → goes_along (entry_in t k).instance.attr (way_in t k).on ≡ true
      → (account_in t k).sums.count + counted_by work (entry_in t k).instance.attr (entry_in t k).instance.attr.kind < 2 ^ 63

-- the column of one part of what a slab keeps
abbrev pub column : {X : Type 0} → (Kept → X) → Slab Kept → FinMap nat_cmp X
column f s = from_entries (map (λ e. (e.0, f e.1)) (entries s))

abbrev pub columns : List Metered → Slab Kept → Columns
columns meters s = record {
  entries = column (λ e. e.entry) s;
  accounts = column (λ e. account_by (meter_at meters e.tally.cpu) e) s;
  standings = column (λ e. e.standing) s;
  ways = column (λ e. way_of e.tally) s;
  clocks = map (λ m. m.clock) meters;
  totals = map (λ m. m.totals) meters;
}

-- There is room for all events, and for no more than keys of 16 bits name; a meter for what is no processor shows
-- nothing, each account is in step with the meter of its processor, and of each context the events that sample are
-- counted.
pub record IsTable (meters : List Metered) (spare : Metered) (counts : List ℕ) (s : Slab Kept) : Type 0 where
  pub room : 4352 ≤ s.capacity
  pub keys : s.capacity ≤ 2 ^ 16
  pub idle : spare ≡ no_meter
  pub tallies : (k : ℕ) (e : Kept) → slab_get s k ≡ Some e → IsTally (meter_at meters e.tally.cpu) e.entry.instance.attr e.tally
  pub samplers : AreCounted counts s
