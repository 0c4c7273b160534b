use Rattle.std.proofs.Common.{rules}
use Rattle.std.proofs.Common.{arith, ◌<◌, length}
use Rattle.stage_spec.specs.Tight.{masks_of}
use Rattle.counter_match.proofs.Growth.{IsExtended-trans, IsClosedAt-extended, IsClosedAt-more}
use Rattle.counter_match.proofs.search.Search.look_at.Goals as goal

pub loop-counter-preserved : goal.loop-counter-preserved
loop-counter-preserved g c =
    let i = c.loop-counter.invariant in
    let reached : c.args.position < length c.loop-counter.self.queue.items = omega (arith, i.extended.longer, c.requires.position) in
    record {
      search = c.look.ensures.search;
      extended = IsExtended-trans c.args.self.now.queue.items c.loop-counter.self.queue.items c.look.new.self.queue.items i.extended c.look.ensures.extended;
      closed = IsClosedAt-more c.args.position c.loop-counter.counter (masks_of c.args.events.now) c.args.seats.now c.look.new.self.queue.items
          (IsClosedAt-extended c.args.position c.loop-counter.counter (masks_of c.args.events.now) c.args.seats.now c.loop-counter.self.queue.items c.look.new.self.queue.items reached c.look.ensures.extended i.closed)
          (c.look.ensures.held c.if-look.false);
      counted = omega (arith, c.look.ensures.step, i.counted);
    }

pub loop-counter-init : goal.loop-counter-init
loop-counter-init g c = search rules
