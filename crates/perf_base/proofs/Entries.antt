-- What holds of each entry of a list, from the front on.
use Rattle.std.proofs.{Common.{ℕ, ◌+◌, ◌<◌, ◌≤◌, All, List, length, get_or, take}, lemmas.List.{take_more, take_all, Elements.{All-push}}}

-- one entry more
pub all_more : {X : Type 0} (P : X → Type 0) (xs : List X) (i : ℕ) (d : X) → i < length xs → All P (take i xs) → P (get_or xs i d) → All P (take (i + 1) xs)
all_more P xs i d l h p = rw (take_more xs i d l) (All-push P (take i xs) (get_or xs i d) h p)

-- all of them
pub all_done : {X : Type 0} (P : X → Type 0) (xs : List X) (i : ℕ) → length xs ≤ i → All P (take i xs) → All P xs
all_done P xs i l h = rw (take_all i xs l) at h
