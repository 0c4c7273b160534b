-- That a look of an order is the first that is not lawful, and how that is computed.
use Rattle.std.specs.Prelude.{◌≡◌, ℕ, List, [], take, slice_get, Some}
use Rattle.perf_base.specs.{declared.{numbers.RingNo.{RingNo}, acts.Act.{Act}}, Scripts.{Scripted}}
use Rattle.perf_base.specs.declared.acts.Act.TheVariants as act
use Rattle.stage_spec.specs.{Hardware.{hardware_of}, Stage.{first_stage}, Fits.{fits, fits_beside, fits_below}}
use Rattle.stage_spec.specs.{Tight.{tight_set, tight_after, shortest_unfit, unfit_after}, Verdict.{judge, judge_pass, judge_passes, verdicts}}
use Rattle.stage_spec.specs.{Settle.{settle_pass, settle, settle_each, settle_all}, Opening.{open_refusal, opened}}
use Rattle.stage_spec.specs.{Commands.{command_each, with_period}, Mapping.{mapped_to, output_to}, Closing.{closed}, Switching.{switched}}
use Rattle.stage_spec.specs.{Rotation.{rotated}, Forks.{copies_from, copy_groups, forked}, Exits.{exited}, Reading.{read_words}}
use Rattle.stage_spec.specs.{History.{stage_step, steps_from, history, opening_stage}, Shares.{share}, Occurrences.{left_after, overflows}}
use Rattle.report_spec.specs.Answers.{taken_from}
use Rattle.ring_spec.{specs.Running.{Running, first_record}, proofs.Running.{kept-first}}
use Rattle.worked_theorems.proofs.Unlawful.{IsUnlawfulLook, RunLooks, AllLooks, EndsUnlawful, run_looks, unlawful_look}

-- The looks of some acts of a script, one by one, and something said of the end. Where this is unfolded, so is all that
-- it computes with.
unfoldable pub Walked : (s : Scripted) → (Running → Type 0) → List Act → Type 0
unfolding RunLooks first_stage fits fits_beside fits_below tight_set tight_after shortest_unfit unfit_after judge judge_pass judge_passes verdicts settle_pass settle settle_each settle_all open_refusal opened command_each with_period mapped_to output_to closed switched rotated copies_from copy_groups forked exited read_words stage_step steps_from share left_after overflows taken_from
Walked s End acts = RunLooks (hardware_of s) End (first_record (opening_stage s) s.rings) (history s acts)

-- The looks before that one, and that one.
abbrev pub Looked : (s : Scripted) (number : ℕ) (ring : RingNo) (last head given : ℕ) → Type 0
Looked s number ring last head given = Walked s (EndsUnlawful ring last head given) (take number s.order)

pub walked : (s : Scripted) (End : Running → Type 0) (acts : List Act) → Walked s End acts → AllLooks (hardware_of s) (opening_stage s) s.rings End [] (history s acts)
unfolding Walked
walked s End acts g =
    run_looks (hardware_of s) (opening_stage s) s.rings End [] (first_record (opening_stage s) s.rings) (kept-first (hardware_of s) (opening_stage s) s.rings) (history s acts) g

pub looked : (s : Scripted) (number : ℕ) (ring : RingNo) (last head given : ℕ) → slice_get s.order number ≡ Some (act.Seen ring given)
    → Looked s number ring last head given → IsUnlawfulLook s number ring last head given
unfolding Walked
looked s number ring last head given look g = unlawful_look s number ring last head given look g
