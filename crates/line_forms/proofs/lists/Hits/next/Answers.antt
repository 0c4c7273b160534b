use Rattle.std.{proofs.{Common.{◌∷◌, sym, ap, ◌∙◌}, lemmas.Option.{same_Some}}}
use Rattle.line_forms.{specs.{Words.{left}, Lists.{hit_in, all_in}}, proofs.{Loops.{first_given}, Fronts.{hit_parts, hits_over}}}
use Rattle.line_forms.proofs.lists.Hits.next.Goals as goal

pub returns-in_default : goal.returns-in_default
returns-in_default c = sym c.self.view_is ∙ hits_over _ c.in_default.ensures c.self.invariant

pub invariant_of-result : goal.invariant_of-result
invariant_of-result c =
    let next = hit_parts _ _ _ c.in-Some.ensures in
    (first_given hit_in _ _ _ next.1 c.self.invariant).others

pub returns : goal.returns
returns c =
    let next = hit_parts _ _ _ c.in-Some.ensures in
    let first = first_given hit_in _ _ _ next.1 c.self.invariant in
    let is = same_Some _ _ (sym first.gives ∙ next.2) in
    sym c.self.view_is ∙ (first.all ∙ ap (λ h. h ∷ all_in hit_in (left c.in-Some.words)) is)
