use Rattle.std.proofs.Common.{Some}
use Rattle.shared_object.proofs.turn.serve.Given as goal

abbrev pub ghosts-store_count : goal.ghosts-store_count
ghosts-store_count g a = record { entry = Some (a.call.now, a.reply.now) }
