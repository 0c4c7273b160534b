-- inner
-- One event with its account, as the tables show it and as they keep it. After struct perf_event of
-- kernel/events/core.c; how it is kept is this project's own profile.
use Rattle.std.specs.Prelude.{ℕ, ◌+◌, Bool, false, List, [], ◌∷◌, slice_index_or}
use Rattle.perf_base.specs.declared.{numbers.{CpuNo.{CpuNo}, Key.{Key}}, standing.{Context.{Context}, Standing.{Standing}}}
use Rattle.perf_base.specs.declared.standing.Standing.TheVariants as standing
use Rattle.stage_spec.specs.{declared.instance.Instance.{Instance}, Occurrences.{left_after}, Shares.{no_sums}}
use Rattle.world_spec.specs.{Value.{Entry, Account}, Ways.{Way}}
use Rattle.world_tables.specs.Meters.{Metered, Tallied, no_meter, no_way, fresh_tally, way_of, sums_at}

-- what the four tables have at a key
pub record Row : Type 0 where
  pub entry : Entry
  pub account : Account
  pub standing : Standing
  pub way : Way

-- an event that is just born: it has counted nothing, has a whole period before it, stands Out, and is not ready
abbrev pub fresh_row : Entry → Row
fresh_row e = record { entry = e; account = record { sums = no_sums; left = e.instance.attr.period }; standing = standing.Out; way = no_way }

-- an event as it is kept, its account by the meter of its processor
pub record Kept : Type 0 where
  pub entry : Entry
  pub tally : Tallied
  pub standing : Standing

abbrev pub fresh_kept : Entry → Kept
fresh_kept e = record { entry = e; tally = fresh_tally e.instance.attr.period; standing = standing.Out }

-- the meter of a processor; one that is not there has shown nothing
abbrev pub meter_at : List Metered → CpuNo → Metered
meter_at meters cpu = slice_index_or meters cpu.0 no_meter

-- what the tables show of an event that is kept, where the meters show this
abbrev pub account_by : Metered → Kept → Account
account_by m e = record { sums = sums_at m e.entry.instance.attr e.tally; left = e.tally.counts.left }

abbrev pub row_by : Metered → Kept → Row
row_by m e = record { entry = e.entry; account = account_by m e; standing = e.standing; way = way_of e.tally }

-- the leader of a group of its own, and a member of a leader's group
abbrev pub leader_entry : Key → Instance → Context → Bool → Entry
leader_entry k i c pinned = record { instance = i; context = c; leader = k; members = k ∷ []; pinned = pinned }

abbrev pub sibling_entry : Instance → Context → Key → Bool → Entry
sibling_entry i c leader pinned = record { instance = i; context = c; leader = leader; members = []; pinned = pinned }

-- a change of its instance
abbrev pub with_instance : (Instance → Instance) → Kept → Kept
with_instance f r = record r { entry = record r.entry { instance = f r.entry.instance } }

-- a number of occurrences
abbrev pub after_hit : ℕ → ℕ → Account → Account
after_hit n period a = record { sums = record a.sums { count = a.sums.count + n }; left = left_after n period a.left }

-- a count from 0 on again
abbrev pub without_count : Account → Account
without_count a = record a { sums = record a.sums { count = 0 } }

-- a member that leads a group of its own, among the flexible ones
abbrev pub freed_entry : Key → Entry → Entry
freed_entry k e = record e { leader = k; members = k ∷ []; pinned = false }
