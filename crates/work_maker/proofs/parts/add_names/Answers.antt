use Rattle.std.proofs.Common.{◌≡◌, ℕ, ◌+◌, ◌<◌, All, sym, ap, subst, arith, ◌∙◌}
use Rattle.perf_base.specs.declared.{numbers.{RingNo.{RingNo}, TaskNo.{TaskNo}}, lines.ReaderLine.{ReaderLine}}
use Rattle.perf_base.specs.Scripts.{IsReaderLine, with_task, with_reader}
use Rattle.work_maker.{specs.Rounds.{made_task, made_ring, made_reader}, proofs.ForEach.{all_for_each, for_each-more}}
use Rattle.work_maker.proofs.MadeLines.{ring_fits, reader_fits}
use Rattle.work_maker.{specs.Building.{declared}, proofs.States.{two_added, declared-more}}
use Rattle.work_maker.proofs.parts.add_names.Goals as goal

pub add_task-requires-clause-rises : goal.add_task-requires-clause-rises
add_task-requires-clause-rises c =
    let n = c.loop-number.number in
    subst (λ s. All (λ t. t.0 < n) s.tasks) (sym c.loop-number.invariant) (all_for_each (λ (t : TaskNo). t.0 < n) made_task n (λ k l. l))

pub add_ring-requires-clause-line : goal.add_ring-requires-clause-line
add_ring-requires-clause-line c = ring_fits c.loop-number.number c.loop-number-test.true

pub add_ring-requires-clause-rises : goal.add_ring-requires-clause-rises
add_ring-requires-clause-rises c =
    let n = c.loop-number.number in
    let e : c.add_task.new.self ≡ with_task (declared n) (made_task n) = c.in_ok-add_task.ensures.ok ∙ ap (λ s. with_task s (made_task n)) c.loop-number.invariant in
    subst (λ s. All (λ r. r.0.0 < n) s.rings) (sym e) (all_for_each (λ (r : RingNo × ℕ). r.0.0 < n) made_ring n (λ k l. l))

pub add_reader-requires-clause-line : goal.add_reader-requires-clause-line
add_reader-requires-clause-line c =
    let n = c.loop-number.number in
    subst (λ s. IsReaderLine s.rings (made_reader n)) (sym (two_added n c.loop-number.script c.add_task.new.self c.add_ring.new.self c.loop-number.invariant c.in_ok-add_task.ensures.ok c.in_ok-add_ring.ensures.ok)) (subst (λ rings. IsReaderLine rings (made_reader n)) (for_each-more made_ring n) (reader_fits (n + 1) n (omega arith)))

pub add_reader-requires-clause-rises : goal.add_reader-requires-clause-rises
add_reader-requires-clause-rises c =
    let n = c.loop-number.number in
    subst (λ s. All (λ r. r.ring.0 < n) s.readers) (sym (two_added n c.loop-number.script c.add_task.new.self c.add_ring.new.self c.loop-number.invariant c.in_ok-add_task.ensures.ok c.in_ok-add_ring.ensures.ok)) (all_for_each (λ (r : ReaderLine). r.ring.0 < n) made_reader n (λ k l. l))

pub loop-number-preserved : goal.loop-number-preserved
loop-number-preserved c =
    let n = c.loop-number.number in
    c.in_ok-add_reader.ensures.ok
    ∙ ap (λ s. with_reader s (made_reader n)) (two_added n c.loop-number.script c.add_task.new.self c.add_ring.new.self c.loop-number.invariant c.in_ok-add_task.ensures.ok c.in_ok-add_ring.ensures.ok)
    ∙ declared-more n
