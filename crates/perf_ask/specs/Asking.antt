-- believed
-- What the words behind the program's name ask for. This project's own profile.
use Rattle.std.specs.Prelude.{◌≡◌, ◌≤◌, ⊤, ℕ, List, [], ◌∷◌, codes, decimal, flat_map}
use Rattle.script_spec.specs.Forms.{AreBytes, byte_text}
use Rattle.perf_ask.specs.declared.asked.Asked.{Asked}
use Rattle.perf_ask.specs.declared.asked.Asked.TheVariants as asked

-- how many rounds a made script may have
abbrev pub AreRounds : ℕ → Type 0
AreRounds n = (1 ≤ n) × (n ≤ 1000)

-- a slot of an event, and how often a watcher looks at it
abbrev pub IsWatching : ℕ × ℕ → Type 0
IsWatching w = (w.0 ≤ 255) × (1 ≤ w.1) × (w.1 ≤ 65536)

-- The words ask for this. Numbers stand in decimal without leading zeros, and bytes as two hexadecimal digits each.
abbrev pub Asks : List (List ℕ) → Asked → Type 0
Asks words asked.Replay = words ≡ codes "replay" ∷ []
Asks words asked.Run = words ≡ codes "run" ∷ []
Asks words asked.Stat = words ≡ codes "stat" ∷ []
Asks words (asked.Make n) = AreRounds n × (words ≡ codes "make" ∷ decimal n ∷ [])
Asks words (asked.MadeScript n) = AreRounds n × (words ≡ codes "make" ∷ decimal n ∷ codes "script" ∷ [])
Asks words (asked.Watch w) = IsWatching w × (words ≡ codes "watch" ∷ decimal w.0 ∷ decimal w.1 ∷ [])
Asks words (asked.Attr bytes) = AreBytes bytes × (words ≡ codes "attr" ∷ flat_map byte_text bytes ∷ [])

-- Words ask for at most one thing.
abbrev pub OneAskedLaw : Type 0
OneAskedLaw = (words : List (List ℕ)) (a b : Asked) → Asks words a → Asks words b → a ≡ b

-- the words that the program knows
abbrev pub AreKnown : List (List ℕ) → Type 0
AreKnown words = (a : Asked) × Asks words a

-- A script is read, and its own order done. Any other script that is read is run by threads.
abbrev pub DoesOrder : Asked → Type 0
DoesOrder asked.Replay = ⊤
DoesOrder asked.Stat = ⊤
DoesOrder a = ⊥

-- A script is read.
abbrev pub ReadsScript : Asked → Type 0
ReadsScript asked.Run = ⊤
ReadsScript (asked.Watch w) = ⊤
ReadsScript a = DoesOrder a

-- Memory is taken: only the line of an attribute takes none.
abbrev pub TakesMemory : Asked → Type 0
TakesMemory (asked.Attr bytes) = ⊥
TakesMemory a = ⊤
