-- believed
-- What ENABLE, DISABLE, RESET and PERIOD do, after the ioctls of perf_event_open(2), perf_event_enable, disable and
-- reset and perf_event_period of kernel/events/core.c. That DISABLE clears an error is this project's own profile.
use Rattle.std.specs.Prelude.{ℕ, ◌^◌, ◌==◌, Bool, true, false, not, ◌||◌, bit_and, List, [], ◌∷◌, map, Option, Some, None, if◌then◌else◌}
use Rattle.std.specs.List.{list_any}
use Rattle.perf_base.specs.declared.{numbers.EventNo.{EventNo}, standing.Own.{Own}, reasons.Reason.{Reason}}
use Rattle.perf_base.specs.declared.standing.Own.TheVariants as own
use Rattle.perf_base.specs.declared.reasons.Reason.TheVariants as reason
use Rattle.stage_spec.specs.declared.instance.Instance.{Instance}
use Rattle.stage_spec.specs.Stage.{Stage, Group, members_of, is_original, is_open, original_of, group_of, change_each}
use Rattle.stage_spec.specs.Refusals.{first_of, holds_of}

-- the events whose families a command reaches: the one named, or each member of its group
abbrev pub slots_of : Option Group → List EventNo
slots_of None = []
slots_of (Some g) = map (λ i. i.event) (members_of g)

abbrev pub targets : Stage → EventNo → (group : Bool) → List EventNo
targets s e true = slots_of (group_of s e)
targets s e false = e ∷ []

-- whether an instance is one of them or a copy of one
abbrev pub is_reached : List EventNo → Instance → Bool
is_reached events i = list_any (λ e. i.event.0 == e.0) events

-- ENABLE takes an event that is off or in error to ready, and DISABLE takes each to off.
abbrev pub enabled : Own → Own
enabled own.Off = own.Ready
enabled own.Ready = own.Ready
enabled (own.Error cause) = own.Ready

abbrev pub disabled : Own → Own
disabled own.Off = own.Off
disabled own.Ready = own.Off
disabled (own.Error cause) = own.Off

-- each instance that a command reaches has its own state changed
unfoldable pub command_each : (Own → Own) → List EventNo → Stage → Stage
command_each f events s = change_each (λ i. if is_reached events i then record i { own = f i.own } else i) s

-- PERIOD sets the original's period; live copies keep theirs.
unfoldable pub with_period : EventNo → ℕ → Stage → Stage
with_period e period s = change_each (λ i. if is_original e i then record i { attr = record i.attr { period = period } } else i) s

-- ENABLE, DISABLE, RESET, CLOSE and WHY are refused where the event is not open.
abbrev pub closed_refusal : Stage → EventNo → Option Reason
closed_refusal s e = first_of ((reason.NoEvent, not (is_open s e)) ∷ [])

-- PERIOD is refused also where the event does not sample, and where the period is 0 or has its highest bit set.
abbrev pub period_refusal : Stage → EventNo → ℕ → Option Reason
period_refusal s e period = first_of ((reason.NoEvent, not (is_open s e))
    ∷ (reason.NotSampling, holds_of (λ i. i.attr.period == 0) (original_of s e))
    ∷ (reason.ZeroPeriod, period == 0 || not (bit_and period (2 ^ 63) == 0)) ∷ [])
