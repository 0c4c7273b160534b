use Rattle.std.proofs.{Common.{arith, ap, ◌≡◌, ◌-◌, ◌/◌, ◌<◌, drop, length, length-drop, sym, take, ◌∙◌}, lemmas.Bool.{eqb-true, Decides.{nat_tests}}}
use Rattle.std.proofs.lemmas.List.{take_all}
use Rattle.report.proofs.{Told.{first_cut_at}, SummedUp.{no_records}}
use Rattle.report.proofs.records.record_count.Goals as goal

pub loop-rest-preserved : goal.loop-rest-preserved
loop-rest-preserved c =
    let i = c.loop-rest.invariant in
    let rest = c.loop-rest.rest.now in
    let k = c.clamp.result in
    let some : 0 < length rest = grind (arith, nat_tests, c.is_empty.ensures, c.loop-rest-test.true) in
    let behind : length (drop k rest) ≡ length rest - k = length-drop k rest in
    let whole : take (length rest - k) (drop k rest) ≡ drop k rest = take_all (length rest - k) (drop k rest) (omega (arith, behind)) in
    let cut = first_cut_at rest c.from-size.result k some (c.from-size.ensures ∙ ap (λ n. n / 8) c.header_of.ensures.size) c.clamp.ensures in
    record { counted = rw whole (omega (arith, i.counted, ap length cut)); few = rw whole (omega (arith, i.few, behind, some, c.clamp.ensures)) }

pub returns : goal.returns
returns c =
    let none : length c.loop-rest.rest.now ≡ 0 = eqb-true (length c.loop-rest.rest.now) 0 (sym c.is_empty.ensures ∙ c.loop-rest-test.false) in
    omega (arith, c.loop-rest.invariant.counted, no_records c.loop-rest.rest.now none)
