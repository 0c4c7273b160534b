use Rattle.std.specs.Prelude.{◌≡◌, All, List, take}
use Rattle.perf_base.specs.declared.acts.Act.{Act}
use Rattle.work_account.specs.Ends.{AreTogether}
use Rattle.machine.specs.{Leading.{LeadTo}, Readers.{AreTrailing, HasTaken}}
use Rattle.machine.proofs.machine.Machine.take_rest.Given as goal

-- It seats nobody, so no call here names a ledger of tests. A body that does has the name of its pick
-- and the pick in the place of these lines.

abbrev pub invariant-loop-ring : goal.invariant-loop-ring
invariant-loop-ring l = record {
  led : (acts : List Act) → LeadTo l.script acts l.fn.self → LeadTo l.script acts l.self;
  taken : (acts : List Act) → LeadTo l.script acts l.fn.self → All (λ r. HasTaken l.script acts l.ins r.0) (take l.ring-index l.script.rings);
  world : l.self.world ≡ l.fn.self.world;
  together : AreTogether l.rings l.self.outs;
  trailing : AreTrailing l.self.outs l.ins;
}
