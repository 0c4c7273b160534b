use Rattle.line_forms.proofs.Sequences.{spelled_sound, spelled_exact}
use Rattle.line_forms.proofs.acts.spelled_act.Goals as goal

pub returns-clause-sound : goal.returns-clause-sound
returns-clause-sound c = spelled_sound _ _ _ c.spelled.ensures

pub returns-clause-exact : goal.returns-clause-exact
returns-clause-exact c = spelled_exact _ _ _ c.spelled.ensures
