use Rattle.std.proofs.{Common.{arith, ◌≡◌, ℕ, ◌+◌, ◌<◌, ◌∙◌, [], All, List, length, map, ap, sym, subst, slice_index_or}, lemmas.List.{length-append, length-map}}
use Rattle.perf_base.specs.declared.numbers.EventNo.{EventNo}
use Rattle.perf_base.specs.declared.numbers.Key.{Key}
use Rattle.stage_laws.specs.Briefs.{GroupBrief, JudgedBrief}
use Rattle.cpu_sched.specs.{Briefs.{ProcessorBrief, seen, events_in, IsGroupBrief}, Plans.{told_by, tried_by}}
use Rattle.cpu_sched.proofs.{Parted.{pass-sound, size-next, size-within, slots-parts}, Served.{slots}}
use Rattle.cpu_sched.proofs.Planned.{Begins, after_pass, begins, first_judged, judged-all, judged-next, judged-none, pass-planned, pass-tried, plan-is}
use Rattle.cpu_sched.proofs.plan.make_plan.Goals as goal

abbrev slots_in : EventNo → List (GroupBrief Key) → ℕ
slots_in e gs = slots e (events_in gs)

pub plan_pass-so_far-requires-clause-sound : goal.plan_pass-so_far-requires-clause-sound
plan_pass-so_far-requires-clause-sound g c =
    let b : ProcessorBrief = c.args.brief.now in
    subst (λ gs. All (IsGroupBrief c.loop-pass.into-inside.seats.counters) gs) (sym c.pass.ensures.groups)
    (subst (λ n. All (IsGroupBrief n) (slice_index_or b.passes c.loop-pass.pass [])) (sym c.loop-pass.invariant.counters)
    (pass-sound (IsGroupBrief b.counters) b.passes c.loop-pass.pass c.pass.ensures.sound.groups))

pub plan_pass-so_far-requires-clause-once : goal.plan_pass-so_far-requires-clause-once
plan_pass-so_far-requires-clause-once g c =
    let b : ProcessorBrief = c.args.brief.now in
    let low : c.loop-pass.pass < length b.passes = omega (arith, c.loop-pass-test.true, c.pass.ensures.sound.four) in
    λ e. omega (
      arith,
      c.pass.ensures.sound.once e,
      c.loop-pass.invariant.once e,
      ap (slots_in e) c.pass.ensures.groups,
      size-next (slots_in e) (slots-parts e) b.passes c.loop-pass.pass low,
      size-within (slots_in e) (slots-parts e) b.passes (c.loop-pass.pass + 1),
    )

pub plan_pass-so_far-requires-clause-room : goal.plan_pass-so_far-requires-clause-room
plan_pass-so_far-requires-clause-room g c =
    let b : ProcessorBrief = c.args.brief.now in
    let low : c.loop-pass.pass < length b.passes = omega (arith, c.loop-pass-test.true, c.pass.ensures.sound.four) in
    omega (
      arith,
      c.pass.ensures.sound.few,
      c.loop-pass.invariant.len,
      c.loop-pass.invariant.capacity,
      length-map c.pass.result.now seen,
      ap length c.pass.ensures.groups,
      size-next length length-append b.passes c.loop-pass.pass low,
      size-within length length-append b.passes (c.loop-pass.pass + 1),
    )

pub loop-pass-init : goal.loop-pass-init
loop-pass-init g c = record {
  begins = subst (λ js. Begins js (told_by c.clear.new.self.items) c.new-into-inside.result.events c.new-so_far.result) (sym (judged-none c.args.brief.now))
      (begins (told_by c.clear.new.self.items) c.new-into-inside.result.events c.new-so_far.result (ap told_by c.clear.ensures.items) (ap (λ s. s.events) c.new-into-inside.ensures) c.new-so_far.ensures);
  counters = ap (λ s. s.counters) c.new-into-inside.ensures ∙ c.counters.ensures.counters;
  once = λ e. omega (arith, ap (λ s. slots e s.events) c.new-into-inside.ensures);
  len = c.clear.ensures.len;
  capacity = omega (arith, c.into.invariant, c.clear.ensures.capacity);
  least = omega (arith, ap (λ s. length s.events) c.new-into-inside.ensures);
  most = omega arith;
}

pub loop-pass-preserved : goal.loop-pass-preserved
loop-pass-preserved g c =
    let b : ProcessorBrief = c.args.brief.now in
    let groups : List (GroupBrief Key) = map seen c.pass.result.now in
    let before : List (JudgedBrief Key) = first_judged b c.loop-pass.pass in
    let low : c.loop-pass.pass < length b.passes = omega (arith, c.loop-pass-test.true, c.pass.ensures.sound.four) in
    let next : after_pass before groups ≡ first_judged b (c.loop-pass.pass + 1) = ap (after_pass before) c.pass.ensures.groups ∙ sym (judged-next b c.loop-pass.pass low) in
    record {
      begins = subst (λ js. Begins js (told_by c.plan_pass-so_far.new.verdicts.items) c.plan_pass-so_far.new.seats.events c.plan_pass-so_far.result) next
          (pass-planned before (told_by c.loop-pass.into-inside.verdicts.items) (told_by c.plan_pass-so_far.new.verdicts.items) c.loop-pass.into-inside.seats.events c.plan_pass-so_far.new.seats.events
          c.loop-pass.so_far c.plan_pass-so_far.result groups c.loop-pass.invariant.begins c.plan_pass-so_far.ensures.standings c.plan_pass-so_far.ensures.events c.plan_pass-so_far.ensures.so_far);
      counters = c.plan_pass-so_far.ensures.counters ∙ c.loop-pass.invariant.counters;
      once = λ e. omega (
        arith,
        c.plan_pass-so_far.ensures.once e,
        c.loop-pass.invariant.once e,
        ap (slots_in e) c.pass.ensures.groups,
        size-next (slots_in e) (slots-parts e) b.passes c.loop-pass.pass low,
      );
      len = omega (
        arith,
        c.plan_pass-so_far.ensures.len,
        c.loop-pass.invariant.len,
        length-map c.pass.result.now seen,
        ap length c.pass.ensures.groups,
        size-next length length-append b.passes c.loop-pass.pass low,
      );
      capacity = omega (arith, c.plan_pass-so_far.ensures.capacity, c.loop-pass.invariant.capacity);
      least = omega (arith, c.plan_pass-so_far.ensures.least, c.loop-pass.invariant.least);
      most = omega (
        arith,
        c.plan_pass-so_far.ensures.most,
        c.loop-pass.invariant.most,
        pass-tried before (told_by c.loop-pass.into-inside.verdicts.items) c.loop-pass.into-inside.seats.events c.loop-pass.so_far groups c.loop-pass.invariant.begins,
        ap tried_by next,
      );
    }

pub invariant_of-into : goal.invariant_of-into
invariant_of-into g c = c.loop-pass.invariant.capacity

pub returns-clause-plan : goal.returns-clause-plan
returns-clause-plan g c =
    plan-is c.args.brief.now c.loop-pass.pass (told_by c.loop-pass.into-inside.verdicts.items) c.loop-pass.into-inside.seats c.loop-pass.so_far
    (omega (arith, c.loop-pass-test.false, c.counters.ensures.sound.four)) c.loop-pass.invariant.begins c.loop-pass.invariant.counters

pub returns-clause-least : goal.returns-clause-least
returns-clause-least g c = c.loop-pass.invariant.least

pub returns-clause-most : goal.returns-clause-most
returns-clause-most g c =
    omega (
      arith,
      c.loop-pass.invariant.most,
      ap tried_by (judged-all c.args.brief.now c.loop-pass.pass (omega (arith, c.loop-pass-test.false, c.counters.ensures.sound.four))),
    )
