-- Bytes that are added by one write after another.
use Rattle.std.proofs.{Common.{ℕ, ◌+◌, List, take, drop, ◌∙◌, Option, Some, None, append_assoc}, Math.Seq.{take-add}}
use Rattle.perf_io.specs.Outside.{Adds}

-- the first i are added and then n more, so the first i + n are
pub Adds-more : (a b c : Option (List ℕ)) (i n : ℕ) (piece : List ℕ) → Adds a b (take i piece) → Adds b c (take n (drop i piece)) → Adds a c (take (i + n) piece)
Adds-more None b c i n piece first more = tt
Adds-more (Some held) None c i n piece first more = absurd first
Adds-more (Some held) (Some longer) None i n piece first more = absurd more
Adds-more (Some held) (Some longer) (Some longest) i n piece first more =
    rw take-add (more ∙ rw (first, append_assoc))
