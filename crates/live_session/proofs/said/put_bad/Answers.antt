use Rattle.live_session.proofs.said.put_bad.Goals as goal

pub returns-clause-wrote : goal.returns-clause-wrote
returns-clause-wrote g c = rw (c.as_bytes.ensures.value, c.printed.ensures) at c.put_texts.ensures.wrote
