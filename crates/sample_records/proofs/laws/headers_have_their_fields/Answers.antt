use Rattle.sample_records.proofs.HeaderBytes.{header_law}
use Rattle.sample_records.proofs.laws.headers_have_their_fields.Goals as goal

pub returns : goal.returns
returns c = header_law
