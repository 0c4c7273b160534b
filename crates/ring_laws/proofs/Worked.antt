-- Small orders and records for which the laws can be seen to say what is meant.
use Rattle.std.{specs.Prelude.{◌≡◌, ℕ, [], ◌∷◌}, proofs.Common.{arith, refl}}
use Rattle.perf_base.specs.declared.acts.Act.{Act}
use Rattle.perf_base.specs.declared.lines.Mode.TheVariants as mode
use Rattle.perf_base.specs.declared.acts.Act.TheVariants as act
use Rattle.ring_spec.specs.Records.{Record, Sample}
use Rattle.report_spec.specs.Answers.{IsRunShaped, taken_from}
use Rattle.ring_laws.{specs.Growing.{EndsWithLine}, proofs.Shapes.{shaped-none, shaped-tool, shaped-cpu}}

abbrev tool_act : Act
tool_act = act.Tool (record { 0 = 0 })

abbrev cpu_act : Act
cpu_act = act.Processor (record { 0 = 0 })

abbrev seen : ℕ → ℕ → Act
seen ring place = act.Seen (record { 0 = ring }) place

-- Two looks by rising rings stand before a processor's act, and the order ends with a line.
two_looks : IsRunShaped (tool_act ∷ seen 0 16 ∷ seen 1 16 ∷ cpu_act ∷ []) × EndsWithLine (tool_act ∷ seen 0 16 ∷ seen 1 16 ∷ cpu_act ∷ [])
two_looks =
    let opened = shaped-tool [] (record { 0 = 0 }) shaped-none.0 shaped-none.1 in
    shaped-cpu (tool_act ∷ []) (seen 0 16 ∷ seen 1 16 ∷ []) (record { 0 = 0 }) opened.0 opened.1 (omega arith, omega arith, (omega arith, omega arith, tt))

-- A look before a tool's act, by rings that fall, and at the place seen last: no run makes these.
look_before_a_tool : IsRunShaped (cpu_act ∷ seen 0 16 ∷ tool_act ∷ []) → ⊥
look_before_a_tool h = (h (cpu_act ∷ []) (tool_act ∷ []) (seen 0 16) refl).stands

rings_fall : IsRunShaped (cpu_act ∷ seen 1 16 ∷ seen 0 16 ∷ cpu_act ∷ []) → ⊥
rings_fall h = omega (arith, (h (cpu_act ∷ []) (seen 0 16 ∷ cpu_act ∷ []) (seen 1 16) refl).rises)

place_seen_twice : IsRunShaped (seen 0 16 ∷ cpu_act ∷ seen 0 16 ∷ []) → ⊥
place_seen_twice h = omega (arith, (h (seen 0 16 ∷ cpu_act ∷ []) [] (seen 0 16) refl).above)

-- Of records of 16 bytes, those that end at or before the tail are taken.
abbrev record_of_16 : Record
record_of_16 = Sample mode.User (7 ∷ [])

one_of_three : taken_from 16 0 (record_of_16 ∷ record_of_16 ∷ record_of_16 ∷ []) ≡ record_of_16 ∷ []
unfolding taken_from
one_of_three = refl

none_by_a_part : taken_from 15 0 (record_of_16 ∷ []) ≡ []
unfolding taken_from
none_by_a_part = refl
