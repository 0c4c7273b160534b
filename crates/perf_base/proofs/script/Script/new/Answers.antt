use Rattle.perf_base.proofs.Kept.{IsScript-empty}
use Rattle.perf_base.proofs.script.Script.new.Goals as goal

pub invariant_of-result : goal.invariant_of-result
invariant_of-result c =
    rw (c.new.ensures.items, c.new-2.ensures.items, c.new-3.ensures.items, c.new-4.ensures.items, c.new-5.ensures.items, c.new-6.ensures.items, c.new-7.ensures.items, c.new-8.ensures.items, c.new-9.ensures.items, c.new-10.ensures.items, c.new-11.ensures.items, c.new-12.ensures.items, c.new-13.ensures.items, c.new-14.ensures.items, c.new-15.ensures.items, c.new-16.ensures.items, c.new-17.ensures.items, c.new-18.ensures.items) (IsScript-empty c.args.cpus c.requires.0 c.requires.1)
