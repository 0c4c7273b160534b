-- inner
-- Which instances a stretch of work, or one occurrence of a software kind, is given to one by one, and what that does.
-- After perf_swevent_event and __perf_event_overflow of kernel/events/core.c; the order is this project's own profile.
use Rattle.std.specs.Prelude.{◌≡◌, ℕ, ◌+◌, ◌^◌, ◌<◌, ◌≤◌, ◌==◌, Bool, true, false, not, ◌&&◌, List, length, map, filter, flat_map, count_by, slice_index_or}
use Rattle.std.specs.List.{fold}
use Rattle.perf_base.specs.declared.numbers.{CpuNo.{CpuNo}, Key.{Key}}
use Rattle.stage_spec.specs.{declared.instance.Instance.{Instance}, Occurrences.{overflows}, Shares.{work_hits}, Verdict.{on_instances}}
use Rattle.world_spec.specs.{Value.{World, is_live, entry_at, instance_at, account_at}, StageOf.{stage_of}}
use Rattle.world_spec.specs.{Kept.{post_at, family_sums, AreLinked}, Metering.{goes_along}, Shares.{soft_hits}}
use Rattle.world_spec.specs.{Ways.{is_on_at}, Working.{is_on, keys_by_pass}}
use Rattle.world_spec.specs.Changes as change
use Rattle.work_account.specs.declared.{happening.Happening.{Happening}, overflowing.{Hit.{Hit}, Overflow.{Overflow}}, samples.Stretch.{Stretch}}
use Rattle.work_account.specs.declared.happening.Happening.TheVariants as happening

-- what an instance that is on counts of it
abbrev pub occurs : Happening → Instance → ℕ
occurs (happening.Work work) i = work_hits work i
occurs (happening.Soft occurring) i = soft_hits occurring i

-- Whether an instance that is on is given it one by one: of work one that samples, as the others count along totals,
-- and of an occurrence each that counts it.
abbrev pub samples : Instance → Bool
samples i = not (i.attr.period == 0)

abbrev pub is_hit_by : Happening → Instance → Bool
is_hit_by (happening.Work work) i = samples i
is_hit_by (happening.Soft occurring) i = not (soft_hits occurring i == 0)

abbrev pub takes : Happening → World → Key → Bool
takes x w k = is_hit_by x (instance_at w k) && is_on w k

-- what an instance is hit by, and so those among some keys that take it
abbrev pub hit_at : Happening → World → Key → Hit
hit_at x w k = record { key = k; occurrences = occurs x (instance_at w k) }

abbrev pub hits_among : Happening → World → List Key → List Hit
hits_among x w keys = map (hit_at x w) (filter (takes x w) keys)

-- the members of some groups, group by group
abbrev pub members_at : World → Key → List Key
members_at w k = (entry_at w k).members

abbrev pub all_members : World → List Key → List Key
all_members w leaders = flat_map (members_at w) leaders

-- whether a hit is of the family of a slot
abbrev pub is_of : World → ℕ → Hit → Bool
is_of w slot h = (instance_at w h.key).event.0 == slot

-- a world after some hits, one after the other, and how often the period of each was over
abbrev pub hit_one : World → Hit → World
hit_one w h = change.hit h.key h.occurrences w

unfoldable pub hit_all : List Hit → World → World
hit_all hits w = fold hit_one w hits

abbrev pub overflow_of : World → Hit → Overflow
overflow_of w h = record { key = h.key; count = overflows h.occurrences (instance_at w h.key).attr.period (account_at w h.key).left }

-- what the instances on a processor that sample are hit by in a stretch of work, and their overflows
abbrev pub hits_by : World → Stretch → List Hit
hits_by w line = hits_among (happening.Work line.work) w (keys_by_pass w line.cpu)

abbrev pub overflows_of : World → Stretch → List Overflow
overflows_of w line = map (overflow_of w) (hits_by w line)

-- Instances may be hit: each is live, does not count along totals where it is on, and is the only one of its family;
-- the family has room.
pub record MayHit (w : World) (h : Hit) : Type 0 where
  pub live : is_live w h.key ≡ true
  pub alone : (cpu : CpuNo) → is_on_at w cpu h.key ≡ true → goes_along (instance_at w h.key).attr ≡ false
  pub counts : (family_sums w (instance_at w h.key).event.0).count + h.occurrences < 2 ^ 63

pub record MayHitAll (w : World) (hits : List Hit) : Type 0 where
  pub each : (place : ℕ) (none : Hit) → place < length hits → MayHit w (slice_index_or hits place none)
  pub one_each : (slot : ℕ) → count_by (is_of w slot) hits ≤ 1
  pub linked : AreLinked (post_at w) w.contexts w.families

-- how many instances with a period are on there
abbrev pub sampling_on : World → CpuNo → ℕ
sampling_on w cpu = count_by samples (on_instances w.hardware (stage_of w) cpu)
