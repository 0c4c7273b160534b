use Rattle.perf_ask.proofs.Asking.{one-asked}
use Rattle.perf_ask.proofs.asked.words_ask_one_thing.Goals as goal

pub returns : goal.returns
returns c = λ words a b h k. one-asked words a b h k
