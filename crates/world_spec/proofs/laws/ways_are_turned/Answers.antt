use Rattle.world_spec.proofs.Ways.{way-is, still-turned}
use Rattle.world_spec.proofs.laws.ways_are_turned.Goals as goal

pub returns : goal.returns
returns c = record { way = way-is; still = still-turned }
