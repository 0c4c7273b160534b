-- inner
-- What stands behind the turn of a shared machine. This project's own profile.
use Rattle.std.specs.Prelude.{◌≡◌, List, []}
use Rattle.perf_base.specs.{declared.reply.Reply.{Reply}, Scripts.{Scripted, IsCovered, IsScript}}
use Rattle.work_account.specs.Ends.{AreTogether}
use Rattle.machine.specs.Given.{IsLedBy}
use Rattle.perf_share.specs.{Calls.{AreLegal, steps_in}, declared.{call.Call.{Call}, served.Served.{Served}}}

-- The machine is as after these calls: it was made for a script without rings, the calls as given lines lead to it, its
-- rings are those of its ends, none, and the calls are legal.
pub record IsAfter (s : Scripted) (served : Served) (calls : List (Call × Reply)) : Type 0 where
  pub script : IsScript s
  pub covered : IsCovered s
  pub no_rings : s.rings ≡ []
  pub led : IsLedBy s (steps_in calls) served.machine
  pub together : AreTogether served.rings served.machine.outs
  pub legal : AreLegal s calls
