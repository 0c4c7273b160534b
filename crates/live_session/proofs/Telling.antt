-- An answer that was written and not flushed.
use Rattle.std.specs.Prelude.{◌≡◌, ℕ, ◌≤◌, List, [], ◌∷◌, Option, Result, Ok, Err, OnErr, length, take}
use Rattle.std.proofs.Common.{arith, ap, inl, inr, refl, subst, sym}
use Rattle.perf_io.specs.{declared.outside.Failed.{Failed}, Outside.{Adds, Rose, SinkShows}, Wrote.{Wrote, WroteFront}}
use Rattle.perf_io.proofs.Wrote.{Rose-before}

whole-front : (xs : List ℕ) → take (length xs) xs ≡ xs
whole-front [] = refl
whole-front (x ∷ xs) = ap (λ (ys : List ℕ). x ∷ ys) (whole-front xs)

module _ {K : Type 0} {shows : SinkShows K} where
  pub flush-failed : (before between after : K) (wrote flushed : Result (Unit {0}) Failed) (text : List ℕ) → wrote ≡ Ok tt → Wrote shows before between wrote text
      → OnErr flushed (Rose shows.last_fault (shows.faults between) (shows.faults after)) → shows.held after ≡ shows.held between → OnErr flushed (WroteFront shows before after text)
  flush-failed before between after wrote (Ok u) text was w rose held = tt
  flush-failed before between after wrote (Err e) text was w rose held =
      let w : Wrote shows before between (Ok tt) text = subst (λ (r : Result (Unit {0}) Failed). Wrote shows before between r text) was w in (
        Rose-before shows.last_fault (shows.faults before) (shows.faults between) (shows.faults after) w.count rose,
        (length text, omega arith, rw (whole-front text, held) w.written),
      )
