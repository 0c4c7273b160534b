use Rattle.std.{proofs.Common.{◌≡◌, ◌≢◌, false, take, refl, sym, ap, ◌∙◌, arith, rules}, specs.Int.{bit_at}}
use Rattle.perf_io.proofs.Wrote.{wrote_nothing, wrote_text}
use Rattle.script_print.proofs.FlagNames.{all_flags, names_text, names_each, all_names, piece_set, some_set, piece_unset, some_unset}
use Rattle.script_print.proofs.{Loops.{state_more, state_exit}, flags.put_flags.Goals.{then-is_set+in_ok-put_two, else-is_set}}
use Rattle.script_print.proofs.flags.put_flags.Goals as goal

pub loop-flag-init : goal.loop-flag-init
loop-flag-init g c = record { written = record { wrote = wrote_text (sym ((names_each c.args.flags.0).nil false)) wrote_nothing; flushed = refl }; comma = refl }

pub returns-in_err-put_two-clause-wrote : goal.returns-in_err-put_two-clause-wrote
returns-in_err-put_two-clause-wrote g c =
    let set : bit_at c.args.flags.0 c.loop-flag.flag ≡ 1 = search rules in
    let piece = piece_set c.args.flags.0 _ c.loop-flag.flag c.loop-flag.comma.now c.name_of.result.now c.loop-flag-test.true set c.loop-flag.invariant.comma c.name_of.ensures in
    wrote_text (all_names c.args.flags.0) (state_exit (names_each c.args.flags.0) false all_flags c.loop-flag.flag c.loop-flag.flag c.loop-flag-test.true c.loop-flag.invariant.written.wrote c.from_residual.ensures.0 (wrote_text piece c.in_err-put_two.ensures.wrote))

pub loop-flag-preserved : goal.loop-flag-preserved
loop-flag-preserved g c =
    elim c.if-is_set.branch [
      | then-is_set+in_ok-put_two w ↦
          let set : bit_at c.args.flags.0 c.loop-flag.flag ≡ 1 = search rules in
          let piece = piece_set c.args.flags.0 _ c.loop-flag.flag c.loop-flag.comma.now w.name_of.result.now c.loop-flag-test.true set c.loop-flag.invariant.comma w.name_of.ensures in
          record { written = rw w.sink-is (record { wrote = (state_more (names_each c.args.flags.0) false all_flags c.loop-flag.flag c.loop-flag.flag c.loop-flag-test.true c.loop-flag.invariant.written.wrote (wrote_text piece w.in_ok-put_two.ensures.wrote)); flushed = (search rules) }); comma = rw (w.comma-is, some_set c.args.flags.0 c.loop-flag.flag c.loop-flag-test.true set) refl }
      | else-is_set w ↦
          let unset : bit_at c.args.flags.0 c.loop-flag.flag ≢ 1 = search rules in
          record { written = rw w.sink-is (record { wrote = (state_more (names_each c.args.flags.0) false all_flags c.loop-flag.flag c.loop-flag.flag c.loop-flag-test.true c.loop-flag.invariant.written.wrote (wrote_text (piece_unset c.args.flags.0 _ c.loop-flag.flag c.loop-flag-test.true unset) wrote_nothing)); flushed = c.loop-flag.invariant.written.flushed }); comma = rw (w.comma-is, some_unset c.args.flags.0 c.loop-flag.flag c.loop-flag-test.true unset) c.loop-flag.invariant.comma }
    ]

pub returns-clause-wrote : goal.returns-clause-wrote
returns-clause-wrote g c =
    let seven : c.loop-flag.flag ≡ 7 = omega (arith, c.loop-flag-test.false, c.loop-flag.auto.flag-end) in
    wrote_text (ap (λ i. names_text c.args.flags.0 false (take i all_flags)) seven ∙ all_names c.args.flags.0) c.loop-flag.invariant.written.wrote
