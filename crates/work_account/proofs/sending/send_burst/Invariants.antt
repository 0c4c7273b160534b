use Rattle.std.proofs.Common.{◌≡◌, ◌-◌}
use Rattle.world_spec.specs.Value.{instance_at}
use Rattle.work_account.specs.{Ends.{AreTogether, HaveSpace}, Sampling.{asks, HasInstance, ends_of, send_times}}
use Rattle.work_account.proofs.sending.send_burst.Given as goal

abbrev pub invariant-loop : goal.invariant-loop
invariant-loop l = record {
  rest : l.world ≡ record l.fn.world { lost = l.world.lost };
  numbers : l.outs.numbers ≡ l.fn.outs.numbers;
  together : AreTogether l.rings l.outs;
  space : HaveSpace (HasInstance l.fn.world) (l.count - l.counter) (ends_of l.outs l.world);
  left : send_times (l.count - l.counter) (instance_at l.fn.world l.sample.origin).event l.sample.ring (asks l.sample) (ends_of l.outs l.world)
      ≡ send_times l.count (instance_at l.fn.world l.sample.origin).event l.sample.ring (asks l.sample) (ends_of l.fn.outs l.fn.world);
}
