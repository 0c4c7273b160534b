-- How many instances are hit.
use Rattle.std.specs.Prelude.{◌≡◌, Bool, true, false, ◌&&◌, cond, List, [], ◌∷◌, length, map, filter, count_by}
use Rattle.std.proofs.Common.{arith, refl, sym, ap, ◌∙◌}
use Rattle.perf_base.specs.declared.{lines.Work.{Work}, numbers.{CpuNo.{CpuNo}, Key.{Key}}}
use Rattle.stage_laws.proofs.{Counts.{count-cons}, Totals.{as_number}}
use Rattle.world_spec.specs.{Value.{World, instance_at}, Kept.{IsKept}, Rescheduled.{IsJudged}, Working.{is_on, keys_by_pass}}
use Rattle.world_spec.proofs.Along.{on-keys}
use Rattle.work_account.specs.Visits.{samples, takes, hit_at, hits_among, sampling_on}
use Rattle.work_account.specs.declared.happening.Happening.TheVariants as happening

-- those that sample among those that are on
hit-count : (w : World) (work : Work) (keys : List Key)
    → length (hits_among (happening.Work work) w keys) ≡ count_by samples (map (instance_at w) (filter (is_on w) keys))
hit-count w work [] = refl
hit-count w work (k ∷ keys) = one (samples (instance_at w k)) refl (is_on w k) (hit-count w work keys)
  where
    one : (s : Bool) → samples (instance_at w k) ≡ s → (on : Bool)
        → length (hits_among (happening.Work work) w keys) ≡ count_by samples (map (instance_at w) (filter (is_on w) keys))
        → length (map (hit_at (happening.Work work) w) (cond (s && on) (k ∷ filter (takes (happening.Work work) w) keys) (filter (takes (happening.Work work) w) keys)))
        ≡ count_by samples (map (instance_at w) (cond on (k ∷ filter (is_on w) keys) (filter (is_on w) keys)))
    one true is true more = omega (arith, more, count-cons samples (instance_at w k) (map (instance_at w) (filter (is_on w) keys)), ap as_number is)
    one true is false more = more
    one false is true more = omega (arith, more, count-cons samples (instance_at w k) (map (instance_at w) (filter (is_on w) keys)), ap as_number is)
    one false is false more = more

pub hits-on : (w : World) (cpu : CpuNo) (work : Work) → IsKept w.hardware w → IsJudged w.hardware w cpu
    → length (hits_among (happening.Work work) w (keys_by_pass w cpu)) ≡ sampling_on w cpu
hits-on w cpu work h judged = hit-count w work (keys_by_pass w cpu) ∙ ap (count_by samples) (sym (on-keys w.hardware w cpu h judged))
