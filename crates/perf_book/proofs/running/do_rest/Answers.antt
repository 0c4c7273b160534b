use Rattle.std.proofs.{Common.{◌≤◌, arith, subst, sym, ap, ◌∙◌, inl, inr}, lemmas.Bool.{cases_eq}}
use Rattle.machine.specs.Leading.{HasLine}
use Rattle.perf_book.{specs.Plans.{actor_at}, proofs.Left.{all-done, still-none}}
use Rattle.perf_book.proofs.running.do_rest.Goals as goal

pub loop-place-preserved : goal.loop-place-preserved
loop-place-preserved g c = record {
  script = c.do_rest_of.ensures.script ∙ c.loop-place.invariant.script;
  none = λ place low. (
    c.do_rest_of.ensures.sound,
    elim (cases_eq place c.loop-place.place) [
      | inl e ↦ λ line. c.do_rest_of.ensures.none (subst (HasLine c.do_rest_of.new.book.script c.do_rest_of.new.book.machine) (ap actor_at e ∙ sym c.actor_at.ensures) line)
      | inr off ↦
          let before = c.loop-place.invariant.none place (omega (arith, low, off)) in
          still-none c.loop-place.book c.do_rest_of.new.book (actor_at place) before.0 c.do_rest_of.ensures.sound c.do_rest_of.ensures.script c.do_rest_of.ensures.grows before.1
    ],
  );
  sheet = c.do_rest_of.ensures.sheet;
}

pub returns-clause-complete : goal.returns-clause-complete
returns-clause-complete g c =
    let past : 12 ≤ c.loop-place.place = c.loop-place-test.false in
    all-done c.loop-place.book (c.loop-place.invariant.none 0 (omega (arith, past))).0 (λ place low. (c.loop-place.invariant.none place (omega (arith, low, past))).1)

pub returns-clause-sound : goal.returns-clause-sound
returns-clause-sound g c = let past : 12 ≤ c.loop-place.place = c.loop-place-test.false in (c.loop-place.invariant.none 0 (omega (arith, past))).0
