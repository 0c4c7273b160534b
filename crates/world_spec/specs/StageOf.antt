-- inner
-- The stage that a world stands for: each key is renamed to its instance. This project's own profile.
use Rattle.std.specs.Prelude.{List, [], ◌∷◌, map}
use Rattle.perf_base.specs.declared.numbers.Key.{Key}
use Rattle.stage_spec.specs.Stage.{Stage, Group, Lists}
use Rattle.world_spec.specs.Value.{World, Leaders, entry_at, instance_at}

-- the members of a group after the leader
abbrev pub after_first : List Key → List Key
after_first [] = []
after_first (k ∷ keys) = keys

-- the group of a leader
abbrev pub group_at : World → Key → Group
group_at w k = record { leader = instance_at w k; siblings = map (instance_at w) (after_first (entry_at w k).members) }

-- the groups of a context
abbrev pub lists_at : World → Leaders → Lists
lists_at w l = record { pinned = map (group_at w) l.pinned; flexible = map (group_at w) l.flexible }

abbrev pub stage_of : World → Stage
stage_of w = record {
  running = w.quiet.running;
  tasks = w.quiet.tasks;
  contexts = map (lists_at w) w.contexts;
  used = w.quiet.used;
  mapped = w.quiet.mapped;
  next_id = w.quiet.next_id;
}
