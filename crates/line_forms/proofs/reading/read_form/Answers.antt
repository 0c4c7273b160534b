use Rattle.line_forms.{specs.Forms.{form_of}, proofs.Given.{is_of_form, is_the_only_form, none_is_of_none}}
use Rattle.line_forms.proofs.reading.read_form.Goals as goal

pub returns-clause-ok : goal.returns-clause-ok
returns-clause-ok c = is_of_form form_of c.form_of_words.result _ _ _ c.of.ensures c.form_of_words.ensures

pub returns-clause-one : goal.returns-clause-one
returns-clause-one c = is_the_only_form form_of c.form_of_words.result _ _ _ c.of.ensures c.form_of_words.ensures

pub returns-clause-none : goal.returns-clause-none
returns-clause-none c = none_is_of_none form_of c.form_of_words.result _ _ _ c.of.ensures c.form_of_words.ensures
