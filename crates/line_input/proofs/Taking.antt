-- Bytes that are taken by one call after another.
use Rattle.std.proofs.Common.{ℕ, List, ◌++◌, Option, Some, None, sym, ap, ◌∙◌, append_assoc}
use Rattle.perf_io.specs.Outside.{Takes}

pub Takes-then : (a b c : Option (List ℕ)) (x y : List ℕ) → Takes a b x → Takes b c y → Takes a c (x ++ y)
Takes-then None b c x y p q = tt
Takes-then (Some a) None c x y p q = absurd p
Takes-then (Some a) (Some b) None x y p q = absurd q
Takes-then (Some a) (Some b) (Some c) x y p q = p ∙ (ap (λ t. x ++ t) q ∙ sym (append_assoc x y c))
