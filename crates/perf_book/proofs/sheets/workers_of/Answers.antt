use Rattle.std.proofs.Common.{rules}
use Rattle.std.proofs.Common.{◌≡◌, ℕ, suc, ◌+◌, ◌-◌, ◌++◌, List, arith, map, reverse, subst, sym}
use Rattle.perf_base.specs.{declared.acts.Actor.{Actor}, Scripts.{Scripted}}
use Rattle.perf_book.{specs.Plans.{turn_in, workers_below, workers_of}, proofs.Turns.{one-more}}
use Rattle.perf_book.proofs.sheets.workers_of.Goals as goal

pub loop-place-preserved : goal.loop-place-preserved
loop-place-preserved c =
    let s : Scripted = c.args.script.now in
    let place : ℕ = c.loop-place.place in
    let turns : List (Actor × ℕ) = map turn_in c.loop-place.workers.items in
    let before : suc (11 - place) ≡ 12 - place = omega (arith, c.loop-place-test.true) in
    let after : 11 - place ≡ 12 - (place + 1) = omega arith in
    let told : workers_below s (suc (11 - place)) ++ reverse turns ≡ workers_of s =
    subst (λ (n : ℕ). workers_below s n ++ reverse turns ≡ workers_of s) (sym before) c.loop-place.invariant.turns in
    let more = one-more s (11 - place) turns (workers_of s) c.actor_at-actor.result c.count_of.result c.actor_at-actor.ensures c.count_of.ensures told in
    record {
      ready = c.add_worker.ensures.ready;
      turns = subst (λ (n : ℕ). workers_below s n ++ reverse (map turn_in c.add_worker.new.workers.items) ≡ workers_of s) after
          (subst (λ (ts : List (Actor × ℕ)). workers_below s (11 - place) ++ reverse ts ≡ workers_of s) (sym c.in_ok-add_worker.ensures.added) more);
    }

pub loop-place-init : goal.loop-place-init
loop-place-init c = search rules
