use Rattle.std.proofs.Common.{◌≡◌, ◌∙◌, true, ap}
use Rattle.perf_base.specs.declared.standing.Own.TheVariants as own
use Rattle.world_spec.{specs.Value.{is_live, entry_at, instance_at, is_key}, proofs.{Moving.{leads-parts}, Tables.{live-written}}}
use Rattle.cpu_sched.proofs.failing.fail.Goals as goal

pub set_standing-requires : goal.set_standing-requires
set_standing-requires c =
    let live : is_live c.args.world.now c.args.leader ≡ true = (leads-parts (is_live c.args.world.now c.args.leader) (is_key c.args.leader (entry_at c.args.world.now c.args.leader).leader) c.requires).0 in
    ap (λ w. is_live w c.args.leader) c.set_own.ensures.world
    ∙ (live-written c.args.world.now c.args.leader (record (entry_at c.args.world.now c.args.leader) { instance = record (instance_at c.args.world.now c.args.leader) { own = own.Error c.in-Refused.cause } }) live c.args.leader ∙ live)
