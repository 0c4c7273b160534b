use Rattle.perf_base.specs.declared.reasons.SReason.TheVariants as reason
use Rattle.line_forms.specs.Forms.{form_of}
use Rattle.script_read.proofs.{Beginning.{sound_state}, Lifting.{asks_iff, blames_more}, Following.{follows_more}, Lined.{both_then, err_then}}
use Rattle.script_read.proofs.progress.later_form.Goals as goal

pub take-requires-clause-sound : goal.take-requires-clause-sound
take-requires-clause-sound c = sound_state c.requires.behind.0 c.args.state.now c.requires.behind.1

pub returns-clause-ok : goal.returns-clause-ok
returns-clause-ok c = both_then c.take.result _ _ _ (λ added section forms h. record {
  asks = λ q. (asks_iff forms c.args.state.now (form_of c.args.form.now) q h).0 (added.0 q);
  behind = follows_more forms (form_of c.args.form.now) c.args.state.now c.take.new.self h c.use_invariant.ensures (added.0 reason.Place) (added.0 reason.Range) added.1 section;
}) c.take.ensures.ok c.take.ensures.section

pub returns-clause-bad : goal.returns-clause-bad
returns-clause-bad c = err_then c.take.result _ _ (λ e bad forms h. blames_more forms c.args.state.now (form_of c.args.form.now) e h bad) c.take.ensures.bad
