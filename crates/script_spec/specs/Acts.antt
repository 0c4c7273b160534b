-- believed
-- How acts are written. This project's own profile.
use Rattle.std.specs.{Prelude.{ℕ, ◌^◌, ◌<◌, List, ◌∷◌, ◌++◌, codes, decimal}, List.{flat_map}}
use Rattle.perf_base.specs.declared.acts.Act.{Act}
use Rattle.perf_base.specs.declared.acts.Act.TheVariants as act

-- the next line of a processor or of a tool by its number, or that a ring's tail was seen at a place
abbrev pub act_text : Act → List ℕ
act_text (act.Processor cpu) = codes "p" ++ decimal cpu.0
act_text (act.Tool tool) = codes "t" ++ decimal tool.0
act_text (act.Seen ring place) = codes "s" ++ decimal ring.0 ++ codes "=" ++ decimal place

-- acts in a row, a space before each
abbrev pub acts_text : List Act → List ℕ
acts_text acts = flat_map (λ a. 32 ∷ act_text a) acts

-- processors 0 to 7, tools 0 to 3, rings 0 to 15, and places of 64 bits
abbrev pub IsActInRange : Act → Type 0
IsActInRange (act.Processor cpu) = cpu.0 < 8
IsActInRange (act.Tool tool) = tool.0 < 4
IsActInRange (act.Seen ring place) = (ring.0 < 16) × (place < 2 ^ 64)
