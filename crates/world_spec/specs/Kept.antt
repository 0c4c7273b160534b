-- inner
-- What holds of a world at any time, also while the instances of one line come or go one by one. After what
-- kernel/events/core.c keeps of its groups, contexts and inherited events; the counting is this project's own profile.
use Rattle.std.specs.Prelude.{◌≡◌, ℕ, ◌^◌, ◌<◌, ◌≤◌, ◌==◌, Bool, true, false, not, ◌&&◌, IsTrue, List, [], ◌∷◌, ◌++◌, length, map, filter, Option, Some, None, slice_index, slice_index_or, if◌then◌else◌}
use Rattle.std.specs.{FinMap.{contains_key}, List.{AllPairs, sum_by}}
use Rattle.perf_base.specs.{Scripts.{IsKind}, declared.{attr.Kind.{Kind}, numbers.{CpuNo.{CpuNo}, EventNo.{EventNo}, Key.{Key}}, reply.Sums.{Sums}}}
use Rattle.perf_base.specs.{declared.standing.Context.{Context}, Contexts.{context_of}}
use Rattle.perf_base.specs.declared.standing.Context.TheVariants as context
use Rattle.stage_spec.specs.{Checks.{has_unknown_sample}, Families.{plus}, Fits.{fits}, Hardware.{Hardware, is_software, mask_of, counters_of}}
use Rattle.stage_spec.specs.{Limits.{HasShape}, Opening.{is_used, is_other_pmu}, Reading.{is_error}, Shares.{no_sums}, Stage.{place_of}}
use Rattle.stage_laws.specs.Sound.{AreRunning}
use Rattle.counter_match.specs.Seating.{Seated, IsSound, empty_seating}
use Rattle.world_spec.specs.Value.{World, Leaders, Family, Totals, no_leaders, no_family, no_totals, is_live, entry_at, instance_at, account_at, is_key, times}
use Rattle.world_spec.specs.StageOf.{after_first, stage_of}

-- Of a key, what no command, switch, tick or stretch of work changes: whether it names an instance, and of that its id,
-- its slot, whether it is a copy, what it counts, where it stands, its leader, the members where it leads, and in which
-- list.
pub record Post : Type 0 where
  pub live : Bool
  pub id : ℕ
  pub event : EventNo
  pub copy : Bool
  pub kind : Kind
  pub context : Context
  pub leader : Key
  pub members : List Key
  pub pinned : Bool

abbrev pub post_at : World → Key → Post
post_at w k = record {
  live = is_live w k;
  id = (instance_at w k).id;
  event = (instance_at w k).event;
  copy = (instance_at w k).copy;
  kind = (instance_at w k).attr.kind;
  context = (entry_at w k).context;
  leader = (entry_at w k).leader;
  members = (entry_at w k).members;
  pinned = (entry_at w k).pinned;
}

-- whether a key leads a group
abbrev pub leads : (Key → Post) → Key → Bool
leads at k = (at k).live && is_key k (at k).leader

-- the keys of a slot's original: one or none
abbrev pub in_option : Option Key → List Key
in_option None = []
in_option (Some k) = k ∷ []

abbrev pub once_if : Bool → ℕ
once_if b = if b then 1 else 0

-- an instance is the original or a copy in a slot
abbrev pub is_original_in : (Key → Post) → ℕ → Key → Bool
is_original_in at slot k = (at k).live && (at k).event.0 == slot && not (at k).copy

abbrev pub is_copy_in : (Key → Post) → ℕ → Key → Bool
is_copy_in at slot k = (at k).live && (at k).event.0 == slot && (at k).copy

-- it is a member of the group of a leader
abbrev pub is_member_of : (Key → Post) → Key → Key → Bool
is_member_of at leader k = (at k).live && is_key leader (at k).leader

-- it leads a group in the context of a place, among the pinned or the flexible ones
abbrev pub leads_in : (Key → Post) → ℕ → Bool → Key → Bool
leads_in at place pinned k = leads at k && place_of (at k).context == place && (if (at k).pinned then pinned else not pinned)

-- A key stands once where its instance lives, and nowhere else: in its slot's family, in its leader's group and, where
-- it leads, in one of the lists of its context. Keys that name nothing stand nowhere.
pub record AreLinked (at : Key → Post) (contexts : List Leaders) (families : List Family) : Type 0 where
  pub originals : (k : Key) (slot : ℕ) → times k (in_option (slice_index_or families slot no_family).original) ≡ once_if (is_original_in at slot k)
  pub copies : (k : Key) (slot : ℕ) → times k (slice_index_or families slot no_family).copies ≡ once_if (is_copy_in at slot k)
  pub members : (k leader : Key) → times k (at leader).members ≡ once_if (is_member_of at leader k)
  pub pinned : (k : Key) (place : ℕ) → times k (slice_index_or contexts place no_leaders).pinned ≡ once_if (leads_in at place true k)
  pub flexible : (k : Key) (place : ℕ) → times k (slice_index_or contexts place no_leaders).flexible ≡ once_if (leads_in at place false k)

-- The members of a group begin with the leader, are 8 at most, and stand in its context.
pub record AreGrouped (at : Key → Post) : Type 0 where
  pub led : (k : Key) → (at k).live ≡ true → leads at (at k).leader ≡ true
  pub together : (k : Key) → (at k).live ≡ true → (at (at k).leader).context ≡ (at k).context
  pub leader_first : (k : Key) → leads at k ≡ true → (at k).members ≡ k ∷ after_first (at k).members
  pub small : (k : Key) → length (at k).members ≤ 8

-- Ids were drawn, and no two instances have one. Slots are below 256, and of an original's slot is known that it was
-- used.
pub record AreNumbered (at : Key → Post) (next_id : ℕ) : Type 0 where
  pub first : 1 ≤ next_id
  pub drawn : (k : Key) → (at k).live ≡ true → (1 ≤ (at k).id) × ((at k).id < next_id)
  pub once : (j k : Key) → (at j).live ≡ true → (at k).live ≡ true → (at j).id ≡ (at k).id → j ≡ k
  pub slots : (k : Key) → (at k).live ≡ true → (at k).event.0 < 256
  pub places : (k : Key) → (at k).live ≡ true → place_of (at k).context < 72

-- the context is a task's
abbrev pub is_of_task : Context → Bool
is_of_task (context.Processor cpu) = false
is_of_task (context.Task task) = true

-- A context has at most one instance of a family. A copy stands in a task's context, and its original, in another one,
-- is there. So a processor reaches at most one.
pub record AreApart (at : Key → Post) : Type 0 where
  pub one_each : (j k : Key) → (at j).live ≡ true → (at k).live ≡ true → (at j).event.0 ≡ (at k).event.0 → place_of (at j).context ≡ place_of (at k).context → j ≡ k
  pub copies : (k : Key) → (at k).live ≡ true → (at k).copy ≡ true → is_of_task (at k).context ≡ true
  pub original : (k : Key) → (at k).live ≡ true → (at k).copy ≡ true
      → (j : Key) × (is_original_in at (at k).event.0 j ≡ true) × (is_of_task (at j).context ≡ true)

-- The hardware members of a group, whatever their states, are of one PMU and fit on its counters together.
abbrev pub kinds_in : (Key → Post) → Key → List Kind
kinds_in at leader = map (λ k. (at k).kind) (at leader).members

pub record AreFitting (hw : Hardware) (kinds : List Kind) : Type 0 where
  pub fit : IsTrue (fits (map (mask_of hw) (filter (λ k. not (is_software k)) kinds)))
  pub one_pmu : AllPairs (λ k other. is_other_pmu hw k other ≡ false) kinds

-- what a family has counted: its live instances, and its copies that exited
abbrev pub keys_of : Family → List Key
keys_of f = in_option f.original ++ f.copies

abbrev pub plus_keys : (Key → Sums) → List Key → Sums
plus_keys sums [] = no_sums
plus_keys sums (k ∷ keys) = plus (sums k) (plus_keys sums keys)

abbrev pub family_sums : World → ℕ → Sums
family_sums w slot = plus (plus_keys (λ k. (account_at w k).sums) (keys_of (slice_index_or w.families slot no_family))) (slice_index_or w.folded slot no_sums)

-- Each processor has totals of 16 kinds in each mode.
pub record HaveTotals (cpus : ℕ) (totals : List Totals) : Type 0 where
  pub size : length totals ≡ cpus
  pub user : (cpu : ℕ) → length (slice_index_or totals cpu no_totals).user ≡ 16
  pub kernel : (cpu : ℕ) → length (slice_index_or totals cpu no_totals).kernel ≡ 16

-- Each total of a processor stays small.
pub record AreSmallTotals (totals : Totals) : Type 0 where
  pub user : (number : ℕ) → slice_index totals.user number < 2 ^ 63
  pub kernel : (number : ℕ) → slice_index totals.kernel number < 2 ^ 63

-- Counts and times of a family, clocks, totals, lost counts and ids stay small. No instance ran longer than it was
-- enabled, nor did any that exited, so running times stay small too.
pub record AreSmall (w : World) : Type 0 where
  pub counts : (slot : ℕ) → (family_sums w slot).count < 2 ^ 63
  pub times : (slot : ℕ) → (family_sums w slot).enabled < 2 ^ 63
  pub ran : (k : Key) → (account_at w k).sums.running ≤ (account_at w k).sums.enabled
  pub folded_ran : (slot : ℕ) → (slice_index_or w.folded slot no_sums).running ≤ (slice_index_or w.folded slot no_sums).enabled
  pub clocks : (cpu : ℕ) → slice_index_or w.quiet.clocks cpu 0 < 2 ^ 63
  pub totals : (cpu : ℕ) → AreSmallTotals (slice_index_or w.quiet.totals cpu no_totals)
  pub lost : (slot : ℕ) → slice_index_or w.lost slot 0 < 2 ^ 63
  pub ids : w.quiet.next_id < 2 ^ 63

-- Only a leader is in error; sample bits are known; a hardware kind is one of the machine's; the slot of an original
-- was used; and each original stands in the context that its attribute names.
pub record AreLawful (w : World) : Type 0 where
  pub errors : (k : Key) → is_live w k ≡ true → is_error (instance_at w k).own ≡ true → is_key k (entry_at w k).leader ≡ true
  pub samples : (k : Key) → is_live w k ≡ true → has_unknown_sample (instance_at w k).attr ≡ false
  pub kinds : (k : Key) → is_live w k ≡ true → IsKind (length w.hardware.kind_pmus) (instance_at w k).attr.kind
  pub used : (k : Key) → is_live w k ≡ true → (instance_at w k).copy ≡ false → is_used (stage_of w) (instance_at w k).event ≡ true
  pub placed : (k : Key) → is_live w k ≡ true → (instance_at w k).copy ≡ false → (entry_at w k).context ≡ context_of (instance_at w k).attr

-- The copies of a family stand by rising ids, and those of all families are 4,096 at most.
abbrev pub copies_in : List Family → ℕ
copies_in families = sum_by (λ f. length f.copies) families

pub record HaveCopies (at : Key → Post) (families : List Family) : Type 0 where
  pub rising : (slot : ℕ) → AllPairs (λ j k. (at j).id < (at k).id) (slice_index_or families slot no_family).copies
  pub few : copies_in families ≤ 4096

-- The seats of each processor are over the counters of its PMU: each event that is seated is on a counter of its mask,
-- and no counter serves two.
pub record AreSeated (hw : Hardware) (seats : List Seated) : Type 0 where
  pub counters : (cpu : CpuNo) → cpu.0 < length seats → (slice_index_or seats cpu.0 (empty_seating 0)).counters ≡ counters_of hw cpu
  pub sound : (cpu : CpuNo) → cpu.0 < length seats → IsSound (slice_index_or seats cpu.0 (empty_seating 0))

-- The tables have the same keys, and the lists their lengths.
pub record HaveTables (w : World) : Type 0 where
  pub accounts : (k : Key) → contains_key w.accounts k.0 ≡ is_live w k
  pub standings : (k : Key) → contains_key w.standings k.0 ≡ is_live w k
  pub families : length w.families ≡ 256
  pub folded : length w.folded ≡ 256
  pub lost : length w.lost ≡ 256
  pub clocks : length w.quiet.clocks ≡ length w.quiet.running
  pub totals : HaveTotals (length w.quiet.running) w.quiet.totals
  pub seats : length w.quiet.seats ≡ length w.quiet.running

-- what a world's type keeps
pub record IsKept (hw : Hardware) (w : World) : Type 0 where
  pub tables : HaveTables w
  pub shape : HasShape hw (stage_of w)
  pub running : AreRunning (stage_of w)
  pub linked : AreLinked (post_at w) w.contexts w.families
  pub copies : HaveCopies (post_at w) w.families
  pub grouped : AreGrouped (post_at w)
  pub numbered : AreNumbered (post_at w) w.quiet.next_id
  pub apart : AreApart (post_at w)
  pub fitting : (k : Key) → AreFitting hw (kinds_in (post_at w) k)
  pub lawful : AreLawful w
  pub seated : AreSeated hw w.quiet.seats
  pub small : AreSmall w
