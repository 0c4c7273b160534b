use Rattle.live_session.proofs.Journal.{journal-law}
use Rattle.live_session.proofs.laws.a_journal_has_these_answers.Goals as goal

pub returns : goal.returns
returns c = journal-law
