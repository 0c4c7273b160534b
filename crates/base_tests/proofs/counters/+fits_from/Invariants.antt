use Rattle.std.proofs.Common.{◌-◌, length}
use Rattle.base_tests.proofs.counters.+fits_from.Given as goal

abbrev pub decreases-fits_from : goal.decreases-fits_from
decreases-fits_from l = length l.masks.now - l.place
