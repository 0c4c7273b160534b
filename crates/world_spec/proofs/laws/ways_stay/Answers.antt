use Rattle.world_spec.proofs.Ways.{other-ways, period-ways, ring-ways, own-ways, standing-ways, place-ways}
use Rattle.world_spec.proofs.laws.ways_stay.Goals as goal

pub returns : goal.returns
returns c = record { other = other-ways; period = period-ways; ring = ring-ways; own = own-ways; standing = standing-ways; placed = place-ways }
