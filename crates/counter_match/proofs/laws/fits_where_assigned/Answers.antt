use Rattle.counter_match.proofs.Fitting.{assignment_of, fits-IsAssignment}
use Rattle.counter_match.proofs.laws.fits_where_assigned.Goals as goal

pub returns : goal.returns
returns c masks = (assignment_of masks, λ h. fits-IsAssignment masks h.0 h.1)
