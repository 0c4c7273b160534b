use Rattle.std.proofs.Common.{sym, subst, ◌∙◌}
use Rattle.perf_base.specs.Masks.{IsMask}
use Rattle.event_open.proofs.Demanding.{hard-mask}
use Rattle.event_open.proofs.demands.Demands.demand.Goals as goal

pub push-requires-clause-mask : goal.push-requires-clause-mask
push-requires-clause-mask c =
    subst (IsMask 16) (sym c.mask_of.ensures.mask)
    (hard-mask c.args.pmus.now c.args.kind c.mask_of.ensures.sound c.requires.kind
    (λ zero. c.mask_of.ensures.none.0 (c.mask_of.ensures.mask ∙ zero)) (sym c.is_software.ensures ∙ c.if-not-is_software.true))
