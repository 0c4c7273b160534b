-- What a shared machine knows of its script decides which calls may be made.
use Rattle.std.{specs.Prelude.{◌≡◌, ◌↔◌, Bool, IsTrue, [], length}, proofs.Common.{sym, ap, subst, ◌∙◌}}
use Rattle.perf_base.specs.Scripts.{Scripted, IsScript}
use Rattle.stage_spec.specs.Limits.{Limits, limits_of}
use Rattle.shared_object.specs.Histories.{SharedId}
use Rattle.perf_share.specs.{Calls.{Fits, FitsIn}, Sharing.{IsSharing}, declared.{call.Call.{Call}, fitting.CallLimits.{CallLimits}}}

pub sharing : (id : SharedId Scripted) (limits : CallLimits) (s : Scripted) → IsScript s → s.rings ≡ [] → limits.cpus ≡ s.cpus → limits.kinds ≡ length s.kinds → id.key ≡ s → IsSharing id limits
sharing id limits s h none cpus kinds is = record {
  script = subst IsScript (sym is) h;
  no_rings = ap (λ (k : Scripted). k.rings) is ∙ none;
  cpus = cpus ∙ sym (ap (λ (k : Scripted). k.cpus) is);
  kinds = kinds ∙ sym (ap (λ (k : Scripted). length k.kinds) is);
}

-- the limits of its script
limits-are : (id : SharedId Scripted) (limits : CallLimits) → IsSharing id limits → ◌≡◌ {A = Limits} (record { cpus = limits.cpus; kinds = limits.kinds; rings = [] }) (limits_of id.key)
limits-are id limits h = λ i. record { cpus = h.cpus i; kinds = h.kinds i; rings = sym h.no_rings i }

pub fits-by : (id now : SharedId Scripted) (limits : CallLimits) (c : Call) (r : Bool) → IsSharing id limits → id ≡ now
    → (IsTrue r ↔ FitsIn (record { cpus = limits.cpus; kinds = limits.kinds; rings = [] }) c) → (IsTrue r ↔ Fits now.key c)
fits-by id now limits c r h is decides =
    subst (λ (k : SharedId Scripted). (IsTrue r ↔ Fits k.key c)) is (subst (λ (l : Limits). (IsTrue r ↔ FitsIn l c)) (limits-are id limits h) decides)
