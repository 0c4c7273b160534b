-- inner
-- Which instances count on a processor, by the keys of a world. After ctx_sched_in and perf_event_update_time of
-- kernel/events/core.c.
use Rattle.std.specs.Prelude.{◌≡◌, Bool, true, ◌&&◌, List, map, filter, flat_map}
use Rattle.perf_base.specs.{declared.numbers.{CpuNo.{CpuNo}, Key.{Key}}, Standings.{stands_on}}
use Rattle.stage_spec.specs.{Effective.{effective, is_ready}, Hardware.{Hardware}, Shares.{ready_instances}, Verdict.{on_instances}}
use Rattle.stage_laws.specs.Narrowing.{has_context}
use Rattle.world_spec.specs.{Value.{World, is_live, entry_at, instance_at, standing_at, times}, StageOf.{stage_of}, Kept.{IsKept, once_if}}
use Rattle.world_spec.specs.{Listings.{pass_leaders}, Rescheduled.{IsJudged}}

-- An instance is ready by its leader's own state and its own one, and on where its group stands on, too.
abbrev pub is_effective : World → Key → Bool
is_effective w k = is_ready (effective (instance_at w (entry_at w k).leader).own (instance_at w k).own)

abbrev pub is_on : World → Key → Bool
is_on w k = is_effective w k && stands_on (standing_at w (entry_at w k).leader)

-- the leaders of a processor's groups in pass order, and of these the ones whose groups stand on
abbrev pub leaders_by_pass : World → CpuNo → List Key
leaders_by_pass w cpu = flat_map (λ keys. keys) (pass_leaders w cpu)

abbrev pub leaders_on : World → CpuNo → List Key
leaders_on w cpu = filter (λ k. stands_on (standing_at w k)) (leaders_by_pass w cpu)

-- all that a processor reaches, in pass order
abbrev pub keys_by_pass : World → CpuNo → List Key
keys_by_pass w cpu = flat_map (λ k. (entry_at w k).members) (leaders_by_pass w cpu)

-- the ready members of a group that is on, and the members of a group that are effectively ready
abbrev pub ready_in : World → Key → List Key
ready_in w leader = filter (λ k. is_ready (instance_at w k).own) (entry_at w leader).members

abbrev pub effective_in : World → Key → List Key
effective_in w leader = filter (λ k. is_ready (effective (instance_at w leader).own (instance_at w k).own)) (entry_at w leader).members

-- Where a processor was judged, the instances that are on are the ready members of the groups that stand on, in pass
-- order.
abbrev pub OnLaw : Type 0
OnLaw = (hw : Hardware) (w : World) (cpu : CpuNo) → IsKept hw w → IsJudged hw w cpu
    → on_instances hw (stage_of w) cpu ≡ map (instance_at w) (flat_map (ready_in w) (leaders_on w cpu))

-- Those that are ready on it, on or not, are the effectively ready members of its groups.
abbrev pub ReadyLaw : Type 0
ReadyLaw = (hw : Hardware) (w : World) (cpu : CpuNo) → IsKept hw w
    → ready_instances (stage_of w) cpu ≡ map (instance_at w) (flat_map (effective_in w) (leaders_by_pass w cpu))

-- Of the keys that a processor reaches, those that are on are the stage's where it was judged, and those that are
-- effectively ready are the stage's. A key stands once among them where its context is on the processor, and else not.
abbrev pub OnKeysLaw : Type 0
OnKeysLaw = (hw : Hardware) (w : World) (cpu : CpuNo) → IsKept hw w → IsJudged hw w cpu
    → on_instances hw (stage_of w) cpu ≡ map (instance_at w) (filter (is_on w) (keys_by_pass w cpu))

abbrev pub ReadyKeysLaw : Type 0
ReadyKeysLaw = (hw : Hardware) (w : World) (cpu : CpuNo) → IsKept hw w
    → ready_instances (stage_of w) cpu ≡ map (instance_at w) (filter (is_effective w) (keys_by_pass w cpu))

abbrev pub ReachedKeysLaw : Type 0
ReachedKeysLaw = (hw : Hardware) (w : World) (cpu : CpuNo) (k : Key) → IsKept hw w → is_live w k ≡ true
    → times k (keys_by_pass w cpu) ≡ once_if (has_context (stage_of w) cpu (entry_at w k).context)
