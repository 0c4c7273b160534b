use Rattle.script_spec.proofs.More.{script_more}
use Rattle.script_spec.proofs.laws.script_grows_by_forms.Goals as goal

pub returns : goal.returns
returns c = script_more
