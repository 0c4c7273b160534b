use Rattle.std.proofs.Common.{◌≡◌, ◌≢◌, ℕ, List, All, ◌++◌}
use Rattle.shared_object.proofs.share.Share.call.Given as goal

abbrev pub invariant-loop : goal.invariant-loop
invariant-loop g l =
    (goal.iterator-loop g).can_next l.iterator' × (goal.iterator-loop g).is_finite l.iterator'
    × (others : List ℕ) × All (λ word. word ≢ 0) others × (l.pass ≡ record l.fn.pass { found = l.fn.pass.found ++ others })
