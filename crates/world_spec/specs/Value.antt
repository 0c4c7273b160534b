-- inner
-- The events, groups, families and accounts of a machine as one value: tables by key, and lists of keys. After struct
-- perf_event, perf_event_context and perf_cpu_context of kernel/events/core.c; the tables are this project's own
-- profile.
use Rattle.std.specs.{Prelude.{ℕ, ◌^◌, ◌==◌, Bool, false, List, [], count_by, replicate, Option, None, slice_index_or}, Option.{unwrap_or}}
use Rattle.std.specs.{Ordering.{nat_cmp}, FinMap.{FinMap, get, contains_key}}
use Rattle.perf_base.specs.declared.{attr.Attr.{Attr}, numbers.{CpuNo.{CpuNo}, EventNo.{EventNo}, Key.{Key}, RingNo.{RingNo}, TaskNo.{TaskNo}}}
use Rattle.perf_base.specs.declared.{reply.Sums.{Sums}, standing.{Context.{Context}, Standing.{Standing}}}
use Rattle.perf_base.specs.declared.attr.CpuSel.TheVariants as cpus
use Rattle.perf_base.specs.declared.attr.Kind.TheVariants as kind
use Rattle.perf_base.specs.declared.attr.TaskSel.TheVariants as tasks
use Rattle.perf_base.specs.declared.standing.Context.TheVariants as context
use Rattle.perf_base.specs.declared.standing.Own.TheVariants as own
use Rattle.perf_base.specs.declared.standing.Standing.TheVariants as standing
use Rattle.stage_spec.specs.{declared.instance.{Instance.{Instance}, TaskStatus.{TaskStatus}}, Hardware.{Hardware}, Shares.{no_sums}}
use Rattle.stage_spec.specs.Stage.{place_of}
use Rattle.counter_match.specs.Seating.{Seated, empty_seating}

-- An instance, the context that it stands in, and the leader of its group; of a leader the members of the group, itself
-- first, and none of a sibling; and whether the group stands among the pinned ones.
pub record Entry : Type 0 where
  pub instance : Instance
  pub context : Context
  pub leader : Key
  pub members : List Key
  pub pinned : Bool

-- what an instance has counted, and how many occurrences are left of its period
pub record Account : Type 0 where
  pub sums : Sums
  pub left : ℕ

-- the leaders of the groups of a context, in the order of the groups
pub record Leaders : Type 0 where
  pub pinned : List Key
  pub flexible : List Key

-- the original in a slot, and its copies in the order of their ids
pub record Family : Type 0 where
  pub original : Option Key
  pub copies : List Key

-- how often each hardware kind occurred on a processor: in user mode and in kernel mode
pub record Totals : Type 0 where
  pub user : List ℕ
  pub kernel : List ℕ

abbrev pub no_totals : Totals
no_totals = record { user = replicate 16 0; kernel = replicate 16 0 }

-- What no group and no account shows: of each task where it stands; the task, the clock, the totals and the seats of
-- each processor; the slots that were opened, the rings that were mapped, and the id of the next instance.
pub record Quiet : Type 0 where
  pub tasks : List TaskStatus
  pub running : List (Option TaskNo)
  pub clocks : List ℕ
  pub totals : List Totals
  pub seats : List Seated
  pub used : List EventNo
  pub mapped : List RingNo
  pub next_id : ℕ

-- The machine's counters, which never change. By key the entries, the accounts and, of leaders, the standings. The
-- leaders of the eight processors' groups and then of each task's. By slot the families, what the copies that exited
-- had counted, and how many records were lost.
pub record World : Type 0 where
  pub hardware : Hardware
  pub entries : FinMap nat_cmp Entry
  pub accounts : FinMap nat_cmp Account
  pub standings : FinMap nat_cmp Standing
  pub contexts : List Leaders
  pub families : List Family
  pub folded : List Sums
  pub lost : List ℕ
  pub quiet : Quiet

-- What a key stands for that names nothing: an instance of no slot and no id, in no context.
abbrev pub no_attr : Attr
no_attr = record { kind = kind.Dummy; task = tasks.All; cpu = cpus.Any; period = 0; sample = 0; format = 0; flags = record { 0 = 0 } }

abbrev pub no_instance : Instance
no_instance = record { event = record { 0 = 256 }; copy = false; id = 0; attr = no_attr; own = own.Off; ring = None; mapped = false }

abbrev pub no_entry : Entry
no_entry = record { instance = no_instance; context = context.Processor (record { 0 = 8 }); leader = record { 0 = 2 ^ 64 }; members = []; pinned = false }

abbrev pub no_account : Account
no_account = record { sums = no_sums; left = 0 }

abbrev pub no_leaders : Leaders
no_leaders = record { pinned = []; flexible = [] }

abbrev pub no_family : Family
no_family = record { original = None; copies = [] }

-- whether a key names an instance, and what the tables have at it
abbrev pub is_live : World → Key → Bool
is_live w k = contains_key w.entries k.0

abbrev pub entry_at : World → Key → Entry
entry_at w k = unwrap_or (get w.entries k.0) no_entry

abbrev pub instance_at : World → Key → Instance
instance_at w k = (entry_at w k).instance

abbrev pub account_at : World → Key → Account
account_at w k = unwrap_or (get w.accounts k.0) no_account

abbrev pub standing_at : World → Key → Standing
standing_at w k = unwrap_or (get w.standings k.0) standing.Out

-- the leaders of a context's groups, and the family of a slot
abbrev pub leaders_of : World → Context → Leaders
leaders_of w c = slice_index_or w.contexts (place_of c) no_leaders

abbrev pub family_of : World → EventNo → Family
family_of w e = slice_index_or w.families e.0 no_family

-- the totals and the seats of a processor
abbrev pub totals_at : World → CpuNo → Totals
totals_at w cpu = slice_index_or w.quiet.totals cpu.0 no_totals

abbrev pub seats_at : World → CpuNo → Seated
seats_at w cpu = slice_index_or w.quiet.seats cpu.0 (empty_seating 0)

-- whether two keys are the same, and how often a key stands in a list
abbrev pub is_key : Key → Key → Bool
is_key k j = j.0 == k.0

abbrev pub times : Key → List Key → ℕ
times k keys = count_by (is_key k) keys
