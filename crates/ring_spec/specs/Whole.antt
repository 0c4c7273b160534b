-- inner
-- Lists of words that are cut into blocks, each of which says its size in its first word.
use Rattle.std.specs.{Prelude.{◌≡◌, ℕ, ◌*◌, ◌/◌, ◌%◌, ◌^◌, List, [], ◌∷◌, length, All}, List.{concat}}

-- the size field of a word, its bits 48 to 63: a number of bytes (perf_event_open(2), struct perf_event_header)
abbrev pub size_field : ℕ → ℕ
size_field word = word / 2 ^ 48 % 2 ^ 16

-- a block has a first word, whose size field is eight times the number of the block's words (perf_event_open(2))
abbrev pub IsBlock : List ℕ → Type 0
IsBlock [] = ⊥
IsBlock (first ∷ others) = size_field first ≡ 8 * length (first ∷ others)

-- the words can be cut into blocks (this project's own profile)
abbrev pub IsWhole : List ℕ → Type 0
IsWhole words = (blocks : List (List ℕ)) × All IsBlock blocks × (concat blocks ≡ words)
