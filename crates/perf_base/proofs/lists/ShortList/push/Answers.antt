use Rattle.perf_base.proofs.Padding.{IsPadded-push}
use Rattle.perf_base.proofs.lists.ShortList.push.Goals as goal

pub invariant_of-self : goal.invariant_of-self
invariant_of-self g c = IsPadded-push _ _ _ _ _ _ c.self.invariant c.self.view_is c.requires
