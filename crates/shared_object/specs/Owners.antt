-- inner
-- Whose the calls of a history are.
use Rattle.std.specs.Prelude.{◌≡◌, ℕ, ◌<◌, true, List, length, Contains}
use mathlib.Core.Option.{some}
use lib.ListN.{get_elem?}
use Rattle.atomic_table.specs.{Seated.{TableId}, Table.{State}}
use Rattle.shared_object.specs.{Histories.{PassView, AreAll}, Views.{Slot, pass_view}, Rule.{IsKept}, declared.view.View.{View}}

module _ {O K C R : Type 0} where
  -- each of these is a pass of the table as it stands (this project's own profile)
  abbrev pub ArePasses : TableId → State (Slot O C R) (View K C R) → List (PassView K C R) → Type 0
  ArePasses id s passes =
      (p : PassView K C R) → Contains passes p → (seat : ℕ) × (v : View K C R) × (get_elem? s.views seat ≡ some v) × (v.is_pass ≡ true) × (p ≡ pass_view id v)

module _ {O K C R : Type 0} (after : K → O → List (C × R) → Type 0) (legal : K → List (C × R) → Type 0) where
  -- Where some passes are all that there are, each call of the history is an own call of one of them: none was made by
  -- a pass that was hidden (this project's own profile).
  abbrev pub EachCallIsOwn : Type 0
  EachCallIsOwn =
      (key : K) (id : TableId) (s : State (Slot O C R) (View K C R)) (k : IsKept after legal key s) (passes : List (PassView K C R)) → ArePasses id s passes → AreAll passes
      → (place : ℕ) → place < length k.log → (p : PassView K C R) × Contains passes p × Contains p.own place
