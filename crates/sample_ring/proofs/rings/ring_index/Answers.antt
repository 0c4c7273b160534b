use Rattle.std.proofs.{Common.{eqb, eq-eqb, length, sym, arith}, lemmas.List.Sums.{position_or_len_is}}
use Rattle.perf_base.specs.declared.numbers.RingNo.{RingNo}
use Rattle.sample_ring.proofs.rings.ring_index.Goals as goal

pub returns-then-number-ring : goal.returns-then-number-ring
returns-then-number-ring c =
    let d : RingNo = record { 0 = 0 } in
    sym (position_or_len_is (λ (r : RingNo). eqb r.0 c.args.ring.0) c.args.numbers.now c.loop-place.place d (omega arith) (λ k h. c.loop-place.invariant k d h) (λ h. eq-eqb _ _ c.if-number-ring.true))

pub returns : goal.returns
returns c =
    let d : RingNo = record { 0 = 0 } in
    sym (position_or_len_is (λ (r : RingNo). eqb r.0 c.args.ring.0) c.args.numbers.now (length c.args.numbers.now) d (omega arith) (λ k h. c.loop-place.invariant k d (omega arith)) (λ h. absurd (omega arith)))
