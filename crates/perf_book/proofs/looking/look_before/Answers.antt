use Rattle.std.proofs.Common.{rules}
use Rattle.std.{specs.Prelude.{◌≡◌, ℕ, ◌+◌, List, [], map}, proofs.Common.{arith, refl, sym, subst, append-nil, inl, inr}}
use Rattle.perf_base.specs.declared.acts.{Act.{Act}, Actor.{Actor}}
use Rattle.machine.specs.Readers.{loads_of}
use Rattle.perf_book.{specs.Book.{AreLooksOf, loads_by}, proofs.Loads.{none-more}}
use Rattle.perf_book.proofs.looking.look_before.Goals as goal

-- an actor that makes no looks
abbrev MakesNone : List Act → List ℕ → Actor → Type 0
MakesNone before loads who = AreLooksOf who before [] × (loads ≡ map (λ n. n + loads_by who) loads)

pub returns-in-Tool : goal.returns-in-Tool
returns-in-Tool c =
    let before : List Act = c.args.order.now.items in
    let loads : List ℕ = loads_of c.args.machine.now.outs in
    let none : MakesNone before loads c.args.actor = elim c.in-Tool.is [
      | inl tool ↦ subst (MakesNone before loads) (sym tool.1) (refl, none-more loads)
      | inr other ↦ elim other [
        | inl reader ↦ subst (MakesNone before loads) (sym reader.1) (refl, none-more loads)
        | inr watcher ↦ subst (MakesNone before loads) (sym watcher) (refl, none-more loads)
      ]
    ] in
    record {
      led = c.requires.led;
      looks = ([], none.0, sym (append-nil before), omega arith);
      loads = none.1;
      together = c.requires.together;
      world = refl;
      filled = omega arith;
      capacity = refl;
    }

pub returns-in-Processor-clause-loads : goal.returns-in-Processor-clause-loads
returns-in-Processor-clause-loads c = search rules
