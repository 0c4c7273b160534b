-- Where all passes are known, each call is an own call of one of them.
use Rattle.std.proofs.Common.{◌≡◌, ◌≢◌, ℕ, zero, suc, ◌+◌, ◌<◌, true, List, [], ◌∷◌, ◌++◌, length, Contains, sym, ap, ◌∙◌, subst, ⊎_elim, length-append, arith}
use mathlib.Core.Option.{some, some-injective}
use lib.ListN.{get_elem?}
use Rattle.atomic_table.specs.{Seated.{TableId}, Table.{State}}
use Rattle.shared_object.proofs.Names.{equal_unless}
use Rattle.shared_object.specs.{declared.view.View.{View}, Histories.{PassView, AreAll}, Views.{Slot, pass_view}, Rule.{IsPartIn, AreNamed}, Owners.{ArePasses, EachCallIsOwn}}

module _ {O K C R : Type 0} (id : TableId) (s : State (Slot O C R) (View K C R)) (count : ℕ) (h : AreNamed s.views count) (passes : List (PassView K C R)) (known : ArePasses id s passes) (all : AreAll passes) where
  -- a known pass has this name
  abbrev IsKnown : List ℕ → Type 0
  IsKnown name = (p : PassView K C R) × Contains passes p × (p.name ≡ name)

  -- a pass of this name is the view's
  same-view : (seat : ℕ) (v : View K C R) → get_elem? s.views seat ≡ some v → v.is_pass ≡ true → (p : PassView K C R) → Contains passes p → p.name ≡ v.name → p ≡ pass_view id v
  same-view seat v at of_pass p among name =
      let k = known p among in
      let one : k.0 ≢ seat → ⊥ = λ other. h.apart k.0 seat k.1 v other k.2 at k.3 of_pass (sym (ap (λ (z : PassView K C R). z.name) k.4) ∙ name) in
      let is : k.0 ≡ seat = equal_unless k.0 seat one in
      k.4 ∙ ap (pass_view id) (some-injective k.1 v (sym k.2 ∙ ap (get_elem? s.views) is ∙ at))

  each-known : (fuel seat : ℕ) (v : View K C R) → get_elem? s.views seat ≡ some v → v.is_pass ≡ true → length v.name < fuel → IsKnown v.name
  each-known zero seat v at of_pass few = absurd (omega (arith, few))
  each-known (suc fuel) seat v at of_pass few =
      ⊎_elim (λ (e : v.name ≡ []). (all.first.0, all.first.1, all.first.2 ∙ sym e))
      (λ (p : IsPartIn s.views v).
      let up : IsKnown p.parent.name = each-known fuel p.seat p.parent p.at p.of_pass (omega (arith, few, ap length p.name, length-append p.parent.name (p.number ∷ []))) in
      let is : up.0 ≡ pass_view id p.parent = same-view p.seat p.parent p.at p.of_pass up.0 up.1 up.2 in
      let part = all.parts up.0 up.1 p.number (omega (arith, p.before, ap (λ (z : PassView K C R). z.parted) is)) in
      (part.0, part.1, part.2 ∙ ap (λ (l : List ℕ). l ++ p.number ∷ []) up.2 ∙ sym p.name)) (h.parts seat v at of_pass)

pub each-call-is-own : {O K C R : Type 0} (after : K → O → List (C × R) → Type 0) (legal : K → List (C × R) → Type 0) → EachCallIsOwn after legal
each-call-is-own after legal key id s k passes known all place few =
    let o = k.names.owned place few in
    let one = each-known id s (length k.log) k.names passes known all (length o.owner.name + 1) o.seat o.owner o.at o.of_pass (omega arith) in
    let is = same-view id s (length k.log) k.names passes known all o.seat o.owner o.at o.of_pass one.0 one.1 one.2 in
    (one.0, one.1, subst (λ (z : PassView _ _ _). Contains z.own place) (sym is) o.own)
