-- inner
-- How many acts an order has, and how many rings a script. This project's own profile, after its limits on scripts.
use Rattle.std.specs.Prelude.{◌≡◌, ◌+◌, ◌≤◌, List, length, count_by, sum_by}
use Rattle.perf_base.specs.{declared.acts.Act.{Act}, Scripts.{Scripted, IsScript, line_count}}
use Rattle.stage_spec.specs.Order.{IsCounted}
use Rattle.ring_laws.specs.Growing.{is_look, is_cpu_act, does_line}

-- An order in which no actor has more acts than lines does no more lines than the script has, of processors and of all.
abbrev pub CountedCpusLaw : Type 0
CountedCpusLaw = (s : Scripted) (order : List Act) → IsCounted s order → count_by is_cpu_act order ≤ sum_by length s.cpu_lines

abbrev pub CountedLinesLaw : Type 0
CountedLinesLaw = (s : Scripted) (order : List Act) → IsCounted s order → count_by does_line order ≤ line_count s

-- each act is a look or does a line
abbrev pub LengthsLaw : Type 0
LengthsLaw = (order : List Act) → length order ≡ count_by is_look order + count_by does_line order

-- The rings of a script rise and are below 16, so they are at most 16.
abbrev pub FewRingsLaw : Type 0
FewRingsLaw = (s : Scripted) → IsScript s → length s.rings ≤ 16
