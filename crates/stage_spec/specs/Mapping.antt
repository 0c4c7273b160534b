-- believed
-- What mapping a ring and redirecting an event's output do, after mmap and PERF_EVENT_IOC_SET_OUTPUT of
-- perf_event_open(2), perf_mmap and perf_event_set_output of kernel/events/core.c. That a ring is mapped at most once
-- is this project's own profile.
use Rattle.std.specs.Prelude.{◌==◌, Bool, true, false, not, ◌&&◌, [], ◌∷◌, ◌++◌, Option, Some, None, is_some, is_none, if◌then◌else◌}
use Rattle.std.specs.List.{list_any}
use Rattle.perf_base.specs.declared.{numbers.{EventNo.{EventNo}, RingNo.{RingNo}}, reasons.Reason.{Reason}}
use Rattle.perf_base.specs.declared.reasons.Reason.TheVariants as reason
use Rattle.stage_spec.specs.{declared.instance.Instance.{Instance}, Flags.{is_inherited}, Places.{is_any_cpu, is_same_cpu, is_same_task}}
use Rattle.stage_spec.specs.{Stage.{Stage, is_original, is_open, original_of, change_each}, Refusals.{first_of, holds_of, holds_of_both}}

-- the ring that an event writes to
abbrev pub ring_of_instance : Option Instance → Option RingNo
ring_of_instance None = None
ring_of_instance (Some i) = i.ring

abbrev pub ring_of : Stage → EventNo → Option RingNo
ring_of s e = ring_of_instance (original_of s e)

-- the stage with an original's ring set, by a mapping of its own or by another's
abbrev pub set_ring : EventNo → Option RingNo → Bool → Stage → Stage
set_ring e ring owner s = change_each (λ i. if is_original e i then record i { ring = ring; mapped = owner } else i) s

unfoldable pub mapped_to : EventNo → RingNo → Stage → Stage
mapped_to e ring s = record (set_ring e (Some ring) true s) { mapped = s.mapped ++ ring ∷ [] }

-- an earlier output is replaced
unfoldable pub output_to : EventNo → EventNo → Stage → Stage
output_to e f s = set_ring e (ring_of s f) false s

-- An inherited event on any processor can't be mapped, nor an event that has a ring, nor a ring that was mapped before.
abbrev pub map_refusal : Stage → EventNo → RingNo → Option Reason
map_refusal s e ring = first_of ((reason.NoEvent, not (is_open s e))
    ∷ (reason.Inherit, holds_of (λ i. is_inherited i.attr && is_any_cpu i.attr.cpu) (original_of s e))
    ∷ (reason.HasRing, is_some (ring_of s e))
    ∷ (reason.Busy, list_any (λ r. r.0 == ring.0) s.mapped) ∷ [])

-- An event can't be redirected to itself, to one on another processor, from any processor to one of another task, away
-- from a mapping of its own, nor to an event without a ring.
abbrev pub output_refusal : Stage → EventNo → EventNo → Option Reason
output_refusal s e f = first_of ((reason.NoEvent, not (is_open s e && is_open s f))
    ∷ (reason.SameEvent, e.0 == f.0)
    ∷ (reason.OtherCpu, holds_of_both (λ i j. not (is_same_cpu i.attr.cpu j.attr.cpu)) (original_of s e) (original_of s f))
    ∷ (reason.OtherContext, holds_of_both (λ i j. is_any_cpu i.attr.cpu && is_any_cpu j.attr.cpu && not (is_same_task i.attr.task j.attr.task)) (original_of s e) (original_of s f))
    ∷ (reason.HasRing, holds_of (λ i. i.mapped) (original_of s e))
    ∷ (reason.NoRing, is_none (ring_of s f)) ∷ [])
