-- inner
-- The acts that words say. This project's own profile.
use Rattle.std.specs.Prelude.{ℕ, List, [], ◌∷◌, Option, Some, None, ◌==◌, option_map, if◌then◌else◌}
use Rattle.perf_base.specs.declared.acts.Act.{Act}
use Rattle.perf_base.specs.declared.acts.Act.TheVariants as act
use Rattle.script_spec.specs.Forms.{Form}
use Rattle.script_spec.specs.Forms as form
use Rattle.line_forms.specs.{Words.{◌>>=◌, cut}, Leaves.{number}, Lists.{each_word}}

unfoldable pub seen_in : List ℕ → Option Act
seen_in text = do
  back ← (cut 61 text).1
  ring ← number 10 20 (cut 61 text).0
  place ← number 10 20 back
  Some (act.Seen (record { 0 = ring }) place)

abbrev pub processor_in : List ℕ → Option Act
processor_in text = option_map (λ n. act.Processor (record { 0 = n })) (number 10 20 text)

abbrev pub tool_in : List ℕ → Option Act
tool_in text = option_map (λ n. act.Tool (record { 0 = n })) (number 10 20 text)

unfoldable pub act_in : List ℕ → Option Act
act_in [] = None
act_in (letter ∷ text) =
    if letter == 112 then processor_in text else
    if letter == 116 then tool_in text else
    if letter == 115 then seen_in text else None

abbrev pub order_at : List (List ℕ) → Option Form
order_at words = option_map form.Order (each_word act_in words)
