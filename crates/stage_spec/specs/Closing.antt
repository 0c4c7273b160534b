-- believed
-- What becomes of groups when events go, after perf_group_detach of kernel/events/core.c, where add_event_to_groups
-- puts siblings behind the flexible groups too.
use Rattle.std.specs.Prelude.{Bool, true, false, not, List, [], ◌∷◌, ◌++◌, map, filter, flat_map}
use Rattle.perf_base.specs.declared.numbers.EventNo.{EventNo}
use Rattle.stage_spec.specs.{declared.instance.Instance.{Instance}, Stage.{Stage, Group, alone, Lists, is_of_family}}

-- those of some instances that stay
abbrev pub staying : (Instance → Bool) → List Instance → List Instance
staying goes instances = filter (λ i. not (goes i)) instances

-- the group without the siblings that go, and nothing where its leader goes
abbrev pub kept_group : (Instance → Bool) → Group → List Group
kept_group goes g = elim (goes g.leader) [ true ↦ [] | false ↦ record g { siblings = staying goes g.siblings } ∷ [] ]

-- where its leader goes, each sibling that stays, as a group of its own
abbrev pub freed_groups : (Instance → Bool) → Group → List Group
freed_groups goes g = elim (goes g.leader) [ true ↦ map alone (staying goes g.siblings) | false ↦ [] ]

-- the groups of a context without the instances that go; siblings of a leader that goes come last among the flexible
-- groups, in the order in which they joined
abbrev pub without : (Instance → Bool) → Lists → Lists
without goes l = record {
  pinned = flat_map (kept_group goes) l.pinned;
  flexible = flat_map (kept_group goes) l.flexible ++ flat_map (freed_groups goes) (l.pinned ++ l.flexible);
}

-- closing an event takes away the original and its copies
unfoldable pub closed : EventNo → Stage → Stage
closed e s = record s { contexts = map (without (is_of_family e)) s.contexts }
