-- An order under way stays so.
use Rattle.std.{specs.Prelude.{◌≡◌, List, [], ◌∷◌, ◌++◌}, proofs.Common.{sym, subst}}
use Rattle.perf_base.specs.{declared.acts.{Act.{Act}, Actor.{Actor}}, Scripts.{Scripted}}
use Rattle.perf_base.specs.declared.acts.Act.TheVariants as act
use Rattle.perf_base.specs.declared.acts.Actor.TheVariants as actor
use Rattle.machine.specs.Leading.{Kept, HasLine, act_of}
use Rattle.ring_laws.proofs.Shapes.{shaped-cpu, shaped-tool}
use Rattle.perf_book.specs.{Book.{AreLooksOf}, Running.{IsUnderWay}}

-- by what an actor sees, and its line
pub under-way : (s : Scripted) (m : Kept) (a : Actor) (order looks : List Act) → HasLine s m a → IsUnderWay order → AreLooksOf a order looks → IsUnderWay (order ++ (looks ++ act_of a ∷ []))
under-way s m (actor.Processor cpu) order looks line h are = shaped-cpu order looks cpu h.0 h.1 are
under-way s m (actor.Tool tool) order looks line h are =
    subst (λ (l : List Act). IsUnderWay (order ++ (l ++ act.Tool tool ∷ []))) (sym are) (shaped-tool order tool h.0 h.1)
under-way s m (actor.Reader ring) order looks line h are = absurd line
under-way s m actor.Watcher order looks line h are = absurd line

pub grown-under-way : (s : Scripted) (m : Kept) (a : Actor) (order grown : List Act) → HasLine s m a → IsUnderWay order
    → (looks : List Act) × AreLooksOf a order looks × (grown ≡ order ++ (looks ++ act_of a ∷ [])) → IsUnderWay grown
grown-under-way s m a order grown line h more = subst IsUnderWay (sym more.2) (under-way s m a order more.0 line h more.1)
