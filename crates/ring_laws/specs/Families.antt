-- inner
-- On a sound stage each instance's event is open. This project's own profile.
use Rattle.stage_spec.specs.{Hardware.{Hardware}, Stage.{Stage}}
use Rattle.stage_laws.specs.Sound.{IsSound}
use Rattle.ring_spec.specs.Agreement.{AreFamiliesOpen}

abbrev pub FamiliesOpenLaw : Type 0
FamiliesOpenLaw = (hw : Hardware) (s : Stage) → IsSound hw s → AreFamiliesOpen s
