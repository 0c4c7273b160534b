-- Short lists in an array: the empty one, one with an entry more, and what is read of one.
use Rattle.std.specs.Prelude.{slice_get, Some, ◌≡◌, ℕ, ◌-◌, ◌+◌, ◌<◌, List, length, take, drop, replicate}
use Rattle.std.proofs.Common.{arith, ◌∙◌, sym, ap, set, length-set, length-take, get_or}
use Rattle.std.proofs.lemmas.{List.{length-take-le, drop-set-lt, drop-replicate, drop-drop, length-replicate, get_or-take}, Option.{slice_get-get_or}}
use Rattle.perf_base.specs.Padded.{IsPadded}

-- no place of an empty list is in use
pub IsPadded-none : {X : Type 0} (room : ℕ) (filling : X) (places : List X) → places ≡ replicate room filling → IsPadded room filling places 0
IsPadded-none room filling places e = grind (arith, length-replicate)

-- one place more is in use
pub IsPadded-more : {X : Type 0} (room : ℕ) (filling : X) (places : List X) (used : ℕ) (x : X)
    → IsPadded room filling places used → used < room → IsPadded room filling (set places used x) (used + 1)
IsPadded-more room filling places used x h l =
    record {
      whole = length-set places used x ∙ h.whole;
      within = omega arith;
      unused = let lt : used < used + 1 = omega arith in
          rw drop-set-lt (sym (drop-drop 1 used places) ∙ (ap (drop 1) h.unused ∙ (drop-replicate 1 (room - used) filling ∙ ap (λ n. replicate n filling) (omega arith))));
    }

-- as many places are in use as the list is long
pub length-IsPadded : {X : Type 0} (room : ℕ) (filling : X) (places : List X) (used : ℕ) → IsPadded room filling places used → length (take used places) ≡ used
length-IsPadded room filling places used h = grind (arith, length-take-le)

-- so it is where the list in use is known under another name
pub IsPadded-push : {X : Type 0} (room : ℕ) (filling : X) (places : List X) (used : ℕ) (x : X) (xs : List X)
    → IsPadded room filling places used → take used places ≡ xs → length xs < room → IsPadded room filling (set places used x) (used + 1)
IsPadded-push room filling places used x xs h e l =
    let n : length (take used places) ≡ used = length-IsPadded room filling places used h in
    let m : length (take used places) ≡ length xs = ap length e in
    let lt : used < room = omega arith in
    IsPadded-more room filling places used x h lt

-- what a place within the list in use reads
pub slice_get-take : {X : Type 0} (used : ℕ) (places : List X) (i : ℕ) (d : X) → i < length (take used places) → slice_get (take used places) i ≡ Some (get_or places i d)
slice_get-take used places i d within = grind (arith, length-take, slice_get-get_or, get_or-take)

pub ruleset paddings = (IsPadded-none, length-IsPadded, slice_get-take)
