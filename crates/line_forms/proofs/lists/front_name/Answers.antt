use Rattle.std.{proofs.Common.{ℕ, ◌≡◌, true, sym, subst, take, ◌∙◌}, specs.List.{list_all}}
use Rattle.line_forms.{specs.Leaves.{is_name_byte}, proofs.Fronts.{bytes_in_front, name_in_front}}
use Rattle.line_forms.proofs.lists.front_name.Goals as goal

pub are_name-requires : goal.are_name-requires
are_name-requires c = subst (λ (n : ℕ). list_all is_name_byte (take n c.args.text.now) ≡ true) (sym c.name_length-length.ensures.count) (bytes_in_front c.args.text.now)

pub returns-then-are_name : goal.returns-then-are_name
returns-then-are_name c = name_in_front c.args.text.now _ c.name_length-length.ensures.count c.if-length-text.true c.if-text-length-eq61.true (sym c.are_name.ensures ∙ c.if-are_name.true)
