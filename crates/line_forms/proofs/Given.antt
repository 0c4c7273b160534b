-- What is read of a line, by the forms of a line.
use Rattle.std.{proofs.{Common.{◌≡◌, ℕ, List, Option, Some, None, option_map, sym, ap, ◌∙◌}, lemmas.Option.{same_Some, none-some}}, specs.Prelude.{IfSome}}
use Rattle.script_spec.specs.Forms.{Version, Form, IsOfForm}
use Rattle.line_forms.{specs.Reading.{form_at}, proofs.Laws.{form-takes, form-again}}

pub is_of_form : {X : Type 0} (view : X → Form) (r : Option X) (v : Version) (ws own : List (List ℕ)) → ws ≡ own → option_map view r ≡ form_at v ws → IfSome r (λ f. IsOfForm v own (view f))
is_of_form view (Some x) v ws own e h = form-takes v own (view x) (ap (form_at v) (sym e) ∙ sym h)
is_of_form view None v ws own e h = tt

pub is_the_only_form : {X : Type 0} (view : X → Form) (r : Option X) (v : Version) (ws own : List (List ℕ)) → ws ≡ own → option_map view r ≡ form_at v ws → IfSome r (λ f. (g : Form) → IsOfForm v own g → g ≡ view f)
is_the_only_form view (Some x) v ws own e h = λ g is. same_Some g (view x) (sym (form-again v own g is) ∙ (ap (form_at v) (sym e) ∙ sym h))
is_the_only_form view None v ws own e h = tt

pub none_is_of_none : {X : Type 0} (view : X → Form) (r : Option X) (v : Version) (ws own : List (List ℕ)) → ws ≡ own → option_map view r ≡ form_at v ws → r ≡ None → (g : Form) → IsOfForm v own g → ⊥
none_is_of_none view (Some x) v ws own e h n = absurd cc
none_is_of_none view None v ws own e h n = λ g is. none-some g (h ∙ (ap (form_at v) e ∙ form-again v own g is))
