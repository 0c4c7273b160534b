use Rattle.perf_book.proofs.Conserved.{conserved}
use Rattle.perf_book.proofs.laws.records_are_conserved.Goals as goal

pub returns : goal.returns
returns c = λ s order ring. conserved s order ring
