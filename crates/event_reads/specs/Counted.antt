-- inner
-- What each family of a world has counted and lost, and the words of a member of a group read. After
-- __perf_event_read_value and perf_read_group of kernel/events/core.c.
use Rattle.std.specs.Prelude.{ℕ, List, slice_index_or}
use Rattle.perf_base.specs.declared.{numbers.{EventNo.{EventNo}, Key.{Key}}, reply.Sums.{Sums}}
use Rattle.stage_spec.specs.Reading.{words_of_member}
use Rattle.world_spec.specs.{Kept.{family_sums}, Value.{World, instance_at}}

abbrev pub sums_in : World → EventNo → Sums
sums_in w e = family_sums w e.0

abbrev pub lost_in : World → EventNo → ℕ
lost_in w e = slice_index_or w.lost e.0 0

abbrev pub words_of_key : ℕ → World → Key → List ℕ
words_of_key format w k = words_of_member format (sums_in w (instance_at w k).event) (instance_at w k).id (lost_in w (instance_at w k).event)
