use Rattle.world_spec.proofs.{Families.{group-members}, Listings.{context-is, is-numbered, passes-are}}
use Rattle.world_spec.proofs.laws.stages_are_listed.Goals as goal

pub returns : goal.returns
returns c = record { passes = passes-are; members = group-members; context = context-is; numbered = is-numbered }
