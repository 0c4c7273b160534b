-- inner
-- What the words of a line under a tool give, behind its first. This project's own profile.
use Rattle.std.specs.Prelude.{ℕ, List, [], codes, Option, Some, None, option_map}
use Rattle.script_spec.specs.Forms.{Opening, Asked, ToolForm}
use Rattle.script_spec.specs.Forms as form
use Rattle.line_forms.specs.{Words.{◌>>=◌, strip, next_of, end_of}, Leaves.{decimal_at, name_at, decimal_or, number_if, flags_if}}
use Rattle.line_forms.specs.{Shapes.{at_end, one_number, two_numbers, slot_and_group}, Lists.{bytes_in}}

-- where an event is opened, behind the word of its kind
unfoldable pub place_at : ℕ → List (List ℕ) → Option (Opening × List (List ℕ))
place_at slot words = do
  task ← decimal_or (codes "task=") (codes "all") words
  cpu ← decimal_or (codes "cpu=") (codes "any") task.1
  Some (record { slot = slot; task = task.0; cpu = cpu.0; leader = (number_if (codes "leader=") 10 20 cpu.1).0 }, (number_if (codes "leader=") 10 20 cpu.1).1)

unfoldable pub asked_at : List (List ℕ) → Option Asked
asked_at words =
    let period = number_if (codes "period=") 10 20 words in
    let sample = number_if (codes "sample=") 16 16 period.1 in
    let format = number_if (codes "format=") 16 16 sample.1 in
    let flags = flags_if format.1 in
    at_end flags.1 (record { period = period.0; sample = sample.0; format = format.0; flags = flags.0 })

unfoldable pub open_kind_at : List (List ℕ) → Option ToolForm
open_kind_at words = do
  slot ← decimal_at [] words
  n ← name_at (codes "kind=") slot.1
  place ← place_at slot.0 n.1
  asked ← asked_at place.1
  Some (form.OpenKind place.0 n.0 asked)

-- where an event is opened by bytes, and their digits
unfoldable pub attr_place_at : List (List ℕ) → Option (Opening × List ℕ)
attr_place_at words = do
  slot ← decimal_at [] words
  word ← next_of slot.1
  text ← strip (codes "attr=") word.0
  place ← place_at slot.0 word.1
  e ← end_of place.1
  Some (place.0, text)

unfoldable pub open_attr_at : List (List ℕ) → Option ToolForm
open_attr_at words = do
  place ← attr_place_at words
  bytes ← bytes_in place.1
  Some (form.OpenAttr place.0 bytes)

abbrev pub first_or : {A : Type 0} → Option A → Option A → Option A
first_or (Some x) other = Some x
first_or None other = other

abbrev pub open_at : List (List ℕ) → Option ToolForm
open_at words = first_or (open_kind_at words) (open_attr_at words)

abbrev pub enable_at : List (List ℕ) → Option ToolForm
enable_at words = option_map (λ x. form.Enable x.0 x.1) (slot_and_group words)

abbrev pub disable_at : List (List ℕ) → Option ToolForm
disable_at words = option_map (λ x. form.Disable x.0 x.1) (slot_and_group words)

abbrev pub reset_at : List (List ℕ) → Option ToolForm
reset_at words = option_map (λ x. form.Reset x.0 x.1) (slot_and_group words)

abbrev pub period_at : List (List ℕ) → Option ToolForm
period_at words = option_map (λ x. form.Period x.0 x.1) (two_numbers words)

unfoldable pub read_at : List (List ℕ) → Option ToolForm
read_at words = do
  slot ← decimal_at [] words
  at_end (number_if (codes "size=") 10 20 slot.1).1 (form.Read slot.0 (number_if (codes "size=") 10 20 slot.1).0)

abbrev pub map_at : List (List ℕ) → Option ToolForm
map_at words = option_map (λ x. form.Map x.0 x.1) (two_numbers words)

abbrev pub output_at : List (List ℕ) → Option ToolForm
output_at words = option_map (λ x. form.Output x.0 x.1) (two_numbers words)

abbrev pub close_at : List (List ℕ) → Option ToolForm
close_at words = option_map form.Close (one_number words)

abbrev pub why_at : List (List ℕ) → Option ToolForm
why_at words = option_map form.Why (one_number words)

abbrev pub seats_at : List (List ℕ) → Option ToolForm
seats_at words = option_map form.Seats (one_number words)
