use Rattle.ring_spec.proofs.Rings.{account_of-push}
use Rattle.ring_spec.proofs.laws.account_grows_by_events.Goals as goal

pub returns : goal.returns
returns c = account_of-push
