-- believed
-- The number and the note of each answer of the top call. This project's own profile.
use Rattle.std.specs.Prelude.{ℕ, List, [], ◌++◌, codes, decimal}
use Rattle.perf_base.specs.Reasons.{script_word}
use Rattle.perf_ask.specs.declared.status.Status.{Status}
use Rattle.perf_ask.specs.declared.status.Status.TheVariants as status

-- the number with which the program ends
abbrev pub number_of : Status → ℕ
number_of status.Done = 0
number_of (status.BadScript line reason) = 1
number_of (status.BadOrder index ring last head given) = 1
number_of status.TooLong = 1
number_of status.ReadFault = 2
number_of status.WriteFault = 3
number_of status.NoMemory = 4
number_of status.Usage = 5

-- the two halves of the note of an order that can't be
abbrev pub act_note : ℕ → ℕ → ℕ → List ℕ
act_note index ring last = codes "perf_run: act " ++ decimal index ++ (codes ": ring " ++ decimal ring) ++ (codes " last " ++ decimal last)

abbrev pub places_note : ℕ → ℕ → List ℕ
places_note head given = codes " head " ++ decimal head ++ (codes " given " ++ decimal given) ++ codes "\n"

-- the note, one line; there is none when all was done
abbrev pub note_of : Status → List ℕ
note_of status.Done = []
note_of (status.BadScript line reason) = codes "perf_run: line " ++ decimal line ++ codes ": " ++ script_word reason ++ codes "\n"
note_of (status.BadOrder index ring last head given) = act_note index ring.0 last ++ places_note head given
note_of status.TooLong = codes "perf_run: script longer than 4194304 bytes\n"
note_of status.ReadFault = codes "perf_run: read fault\n"
note_of status.WriteFault = codes "perf_run: write fault\n"
note_of status.NoMemory = codes "perf_run: no memory\n"
note_of status.Usage = codes "perf_run: usage: run, replay, make N, make N script\n"
