use Rattle.std.proofs.Common.{arith, ◌≡◌, ◌∙◌, [], ◌∷◌, ap, sym, subst, slice_index_or}
use Rattle.perf_base.specs.declared.numbers.CpuNo.{CpuNo}
use Rattle.stage_spec.specs.Hardware.{counters_of}
use Rattle.world_spec.specs.{Listings.{pass_leaders}, Value.{World}}
use Rattle.cpu_sched.specs.{After.{turned_brief, turned_groups}, Briefs.{brief_seen, briefs_at, present_brief, IsBrief}}
use Rattle.cpu_sched.proofs.{Bounded.{present-sound}, Passing.{pass-leads}, Turned.{live-items, turned-sound}}
use Rattle.cpu_sched.proofs.brief.with_turns.Goals as goal

pub turn-requires : goal.turn-requires
turn-requires c =
    live-items c.args.world.now c.args.cpu c.take_pass-3.new.briefs.items (slice_index_or (pass_leaders c.args.world.now c.args.cpu) 2 []) c.take_pass-3.ensures.taken
    (pass-leads c.args.world.now.hardware c.args.world.now c.args.cpu 2 c.take_pass-3.ensures.kept)

pub turn-requires-2 : goal.turn-requires-2
turn-requires-2 c =
    live-items c.args.world.now c.args.cpu c.take_pass-4.new.briefs.items (slice_index_or (pass_leaders c.args.world.now c.args.cpu) 3 []) c.take_pass-4.ensures.taken
    (pass-leads c.args.world.now.hardware c.args.world.now c.args.cpu 3 c.take_pass-4.ensures.kept)

pub invariant_of-into : goal.invariant_of-into
invariant_of-into c =
    let w : World = c.args.world.now in
    let cpu : CpuNo = c.args.cpu in
    let number : c.counters-into-inside.result ≡ counters_of w.hardware cpu = c.counters-into-inside.ensures.number ∙ ap (λ hw. counters_of hw cpu) c.pmus.ensures.pmus in
    let view : brief_seen c.counters-into-inside.result c.take_pass.new.briefs.items c.take_pass-2.new.briefs.items c.turn.new.groups.items c.turn-2.new.groups.items ≡ turned_brief w cpu =
    λ i. record {
      counters = number i;
      passes = c.take_pass.ensures.taken i ∷ c.take_pass-2.ensures.taken i ∷ (c.turn.ensures.groups ∙ ap (turned_groups w) c.take_pass-3.ensures.taken) i
          ∷ (c.turn-2.ensures.groups ∙ ap (turned_groups w) c.take_pass-4.ensures.taken) i ∷ [];
    } in
    let sound : IsBrief (present_brief w cpu) =
    present-sound w cpu c.take_pass.ensures.kept (omega (arith, number, c.counters-into-inside.ensures.range.0)) (omega (arith, number, c.counters-into-inside.ensures.range.1))
    c.take_pass.ensures.sound c.take_pass-2.ensures.sound c.take_pass-3.ensures.sound c.take_pass-4.ensures.sound in
    let turned : IsBrief (turned_brief w cpu) =
    turned-sound w (counters_of w.hardware cpu) (briefs_at w cpu (slice_index_or (pass_leaders w cpu) 0 [])) (briefs_at w cpu (slice_index_or (pass_leaders w cpu) 1 []))
    (briefs_at w cpu (slice_index_or (pass_leaders w cpu) 2 [])) (briefs_at w cpu (slice_index_or (pass_leaders w cpu) 3 [])) sound in (
      subst IsBrief (sym view) turned,
      omega (arith, c.take_pass.ensures.capacity, c.into.invariant.1),
      omega (arith, c.take_pass-2.ensures.capacity, c.into.invariant.2),
      omega (arith, c.turn.ensures.capacity, c.take_pass-3.ensures.capacity, c.into.invariant.3),
      omega (arith, c.turn-2.ensures.capacity, c.take_pass-4.ensures.capacity, c.into.invariant.4),
    )
