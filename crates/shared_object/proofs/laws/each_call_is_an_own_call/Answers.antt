use Rattle.shared_object.proofs.Owning.{each-call-is-own}
use Rattle.shared_object.proofs.laws.each_call_is_an_own_call.Goals as goal

pub returns : goal.returns
returns g c = each-call-is-own g.O.Sequential.after g.O.Sequential.legal
