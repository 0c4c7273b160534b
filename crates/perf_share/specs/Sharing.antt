-- inner
-- What a shared machine knows of its script. This project's own profile.
use Rattle.std.specs.Prelude.{◌≡◌, [], length}
use Rattle.perf_base.specs.Scripts.{Scripted, IsScript}
use Rattle.shared_object.specs.Histories.{SharedId}
use Rattle.perf_share.specs.declared.fitting.CallLimits.{CallLimits}

-- Its script has no rings, and as many processors and kinds as it knows.
pub record IsSharing (id : SharedId Scripted) (limits : CallLimits) : Type 0 where
  pub script : IsScript id.key
  pub no_rings : id.key.rings ≡ []
  pub cpus : limits.cpus ≡ id.key.cpus
  pub kinds : limits.kinds ≡ length id.key.kinds
