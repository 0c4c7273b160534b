use Rattle.world_spec.proofs.{Listings.{one-in_context, one-on_processor}, Reaching.{one-reached}}
use Rattle.world_spec.proofs.laws.processors_reach_one.Goals as goal

pub returns : goal.returns
returns c = record { one = one-reached; reached = one-on_processor; context = one-in_context }
