use Rattle.std.proofs.Common.{◌≡◌, take}
use Rattle.cpu_sched.specs.{Adopting.{with_standings, told_standings}, Plans.{told_by}}
use Rattle.cpu_sched.proofs.adopting.tell_standings.Given as goal

abbrev pub invariant-loop-told : goal.invariant-loop-told
invariant-loop-told l = l.world ≡ with_standings (told_standings (told_by (take l.told-index l.verdicts)) l.fn.world.standings) l.fn.world
