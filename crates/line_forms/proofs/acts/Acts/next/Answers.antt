use Rattle.std.{proofs.{Common.{◌∷◌, All, sym, ap, subst, ◌∙◌}, lemmas.{Option.{same_Some}, List.Elements.{All-head, All-tail}}}}
use Rattle.script_spec.specs.Acts.{IsActInRange}
use Rattle.line_forms.{specs.{Words.{left}, Lists.{all_in}, Acts.{act_in}}, proofs.Loops.{none_given, first_given}}
use Rattle.line_forms.proofs.acts.Acts.next.Goals as goal

pub returns-in_default : goal.returns-in_default
returns-in_default c = sym c.self.view_is ∙ none_given act_in _ c.in_default.ensures

pub returns-in_default-in_range : goal.returns-in_default-in_range
returns-in_default-in_range c =
    let first = first_given act_in _ _ _ c.in-Some.ensures c.self.invariant.0 in
    let all = subst (All IsActInRange) (sym c.self.view_is ∙ first.all) c.requires in
    absurd (c.in_default-in_range.ensures first.first first.gives (All-head IsActInRange _ _ all))

pub invariant_of-result : goal.invariant_of-result
invariant_of-result c =
    let first = first_given act_in _ _ _ c.in-Some.ensures c.self.invariant.0 in
    let all = subst (All IsActInRange) (sym c.self.view_is ∙ first.all) c.requires in
    (first.others, (λ t. All-tail IsActInRange _ _ all, λ others. c.self.invariant.1.1 (subst (All IsActInRange) (sym c.self.view_is) c.requires)))

pub returns : goal.returns
returns c =
    let first = first_given act_in _ _ _ c.in-Some.ensures c.self.invariant.0 in
    let all = subst (All IsActInRange) (sym c.self.view_is ∙ first.all) c.requires in
    let is = same_Some _ _ (sym first.gives ∙ c.in-Some-in_range.ensures.0) in
    (sym c.self.view_is ∙ (first.all ∙ ap (λ a. a ∷ all_in act_in (left c.in-Some.words)) is), c.in-Some-in_range.ensures.1, All-tail IsActInRange _ _ all)
