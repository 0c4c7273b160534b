use Rattle.std.proofs.{Common.{arith, ◌≡◌, ◌+◌, ◌∙◌, ◌++◌, [], ◌∷◌, List, All, ap, sym, subst, take, slice_index_or}, lemmas.List.{take_all}}
use Rattle.std.proofs.lemmas.List.Elements.{All-append}
use Rattle.perf_base.specs.declared.numbers.{CpuNo.{CpuNo}, Key.{Key}}
use Rattle.stage_spec.specs.Hardware.{counters_of}
use Rattle.stage_laws.specs.Briefs.{GroupBrief}
use Rattle.world_spec.specs.Value.{World}
use Rattle.cpu_sched.{specs.Briefs.{briefs_at, IsGroupBrief}, proofs.Bounded.{briefs-append}}
use Rattle.cpu_sched.proofs.brief.take_keys.Goals as goal
use Rattle.perf_world.proofs.Turning.{take-next}

pub add_eligible-requires-clause-leads : goal.add_eligible-requires-clause-leads
add_eligible-requires-clause-leads c = c.requires.leads c.loop-leader.leader-index (record { 0 = 0 }) c.loop-leader-test.true

pub add_eligible-requires-clause-room : goal.add_eligible-requires-clause-room
add_eligible-requires-clause-room c =
    omega (arith, c.loop-leader.invariant.len, c.loop-leader.invariant.capacity, c.clear.ensures.capacity, c.requires.room, c.requires.few, c.loop-leader-test.true)

pub loop-leader-preserved : goal.loop-leader-preserved
loop-leader-preserved c =
    let w : World = c.args.world.now in
    let cpu : CpuNo = c.args.cpu in
    let keys : List Key = c.args.keys.now in
    let done : List Key = take c.loop-leader.leader-index keys in
    let k : Key = slice_index_or keys c.loop-leader.leader-index (record { 0 = 0 }) in
    let P : GroupBrief Key → Type 0 = IsGroupBrief (counters_of w.hardware cpu) in
    let more : briefs_at w cpu done ++ briefs_at w cpu (k ∷ []) ≡ briefs_at w cpu (take (c.loop-leader.leader-index + 1) keys) =
    sym (briefs-append w cpu done (k ∷ [])) ∙ ap (briefs_at w cpu) (sym (take-next keys c.loop-leader.leader-index (record { 0 = 0 }) c.loop-leader-test.true)) in
    record {
      taken = c.add_eligible.ensures.added ∙ (ap (λ bs. bs ++ briefs_at w cpu (k ∷ [])) c.loop-leader.invariant.taken ∙ more);
      sound = subst (All P) more (All-append P (briefs_at w cpu done) (briefs_at w cpu (k ∷ [])) c.loop-leader.invariant.sound c.add_eligible.ensures.sound);
      len = omega (arith, c.loop-leader.invariant.len, c.add_eligible.ensures.len);
      capacity = c.add_eligible.ensures.capacity ∙ c.loop-leader.invariant.capacity;
    }

pub returns-clause-taken : goal.returns-clause-taken
returns-clause-taken c = c.loop-leader.invariant.taken ∙ ap (briefs_at c.args.world.now c.args.cpu) (take_all c.loop-leader.leader-index c.args.keys.now c.loop-leader-test.false)

pub returns-clause-sound : goal.returns-clause-sound
returns-clause-sound c =
    subst (λ keys. All (IsGroupBrief (counters_of c.args.world.now.hardware c.args.cpu)) (briefs_at c.args.world.now c.args.cpu keys))
    (take_all c.loop-leader.leader-index c.args.keys.now c.loop-leader-test.false) c.loop-leader.invariant.sound
