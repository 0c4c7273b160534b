-- believed
-- What an attribute's flags say, after struct perf_event_attr of perf_event_open(2).
use Rattle.std.specs.Prelude.{Bool}
use Rattle.perf_base.specs.declared.attr.Attr.{Attr}
use Rattle.perf_base.specs.Flags as flags

-- the event is off at first
abbrev pub is_disabled : Attr → Bool
is_disabled a = flags.is_disabled a.flags

-- tasks that are forked later are counted too
abbrev pub is_inherited : Attr → Bool
is_inherited a = flags.is_inherited a.flags

-- its group is to be on whenever that is possible
abbrev pub is_pinned : Attr → Bool
is_pinned a = flags.is_pinned a.flags

-- its group is to be the only hardware group on its processor
abbrev pub is_exclusive : Attr → Bool
is_exclusive a = flags.is_exclusive a.flags

-- occurrences in user mode, and in kernel mode, are left out
abbrev pub excludes_user : Attr → Bool
excludes_user a = flags.excludes_user a.flags

abbrev pub excludes_kernel : Attr → Bool
excludes_kernel a = flags.excludes_kernel a.flags
