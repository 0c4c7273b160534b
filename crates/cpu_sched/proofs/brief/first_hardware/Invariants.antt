use Rattle.std.proofs.Common.{◌≡◌, true, All, take}
use Rattle.cpu_sched.proofs.brief.first_hardware.Given as goal

abbrev pub invariant-loop-place : goal.invariant-loop-place
invariant-loop-place l = All (λ g. g.software ≡ true) (take l.place l.groups)
