-- believed
-- What a group's standing says, after the states of kernel/events/core.c: on is PERF_EVENT_STATE_ACTIVE.
use Rattle.std.specs.Prelude.{Bool, true, false}
use Rattle.perf_base.specs.declared.standing.Standing.{Standing, TheVariants.{Out, On, Refused}}

abbrev pub stands_on : Standing → Bool
stands_on Out = false
stands_on On = true
stands_on (Refused cause) = false

abbrev pub stands_refused : Standing → Bool
stands_refused Out = false
stands_refused On = false
stands_refused (Refused cause) = true
