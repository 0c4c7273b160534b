use Rattle.std.proofs.{Common.{arith, ◌≡◌, ℕ, ◌++◌, ◌∙◌, [], ◌∷◌, List, length, map, ap, sym, take, slice_index_or}, lemmas.Bool.{false≢true}}
use Rattle.std.proofs.lemmas.List.{length-map, length-take, take_all}
use Rattle.perf_base.specs.declared.numbers.{CpuNo.{CpuNo}, Key.{Key}}
use Rattle.stage_laws.specs.Briefs.{GroupBrief}
use Rattle.world_spec.specs.{Listings.{pass_leaders}, Value.{World}}
use Rattle.cpu_sched.{specs.{declared.group_brief.GroupBrief.{GroupBrief as Stored}, Briefs.{seen, briefs_at}}, proofs.Bounded.{briefs-split}}
use Rattle.cpu_sched.proofs.Passing.{leads-at}
use Rattle.cpu_sched.proofs.brief.is_pass.Goals as goal
use Rattle.world_spec.proofs.Tables.{same_number}
use Rattle.world_spec.proofs.Coming.{number_true}

pub meet-requires-clause-leads : goal.meet-requires-clause-leads
meet-requires-clause-leads c =
    leads-at c.args.world.now.hardware c.args.world.now c.args.cpu c.args.pass c.loop-leader.leader-index (record { 0 = 0 }) c.leaders-keys.result.now c.leaders-keys.ensures.kept
    c.leaders-keys.ensures.leaders c.loop-leader-test.true

-- another group is met
pub returns-in-None : goal.returns-in-None
returns-in-None c =
    let w : World = c.args.world.now in
    let cpu : CpuNo = c.args.cpu in
    let keys : List Key = c.leaders-keys.result.now in
    let i : ℕ = c.loop-leader.leader-index in
    let split : (rest : List (GroupBrief Key)) × (briefs_at w cpu keys ≡ briefs_at w cpu (take i keys) ++ (briefs_at w cpu (slice_index_or keys i (record { 0 = 0 }) ∷ []) ++ rest)) =
    briefs-split w cpu keys i (record { 0 = 0 }) c.loop-leader-test.true in (
      λ h. absurd (false≢true h),
      λ e. absurd (c.in-None.ensures.none split.0 (e
          ∙ (ap (briefs_at w cpu) (sym c.leaders-keys.ensures.leaders)
          ∙ (split.1 ∙ ap (λ bs. bs ++ (briefs_at w cpu (slice_index_or keys i (record { 0 = 0 }) ∷ []) ++ split.0)) (sym c.loop-leader.invariant.same))))),
    )

-- all leaders are met
pub returns : goal.returns
returns c =
    let w : World = c.args.world.now in
    let cpu : CpuNo = c.args.cpu in
    let groups : List Stored = c.args.groups.now in
    let keys : List Key = c.leaders-keys.result.now in
    let met : ℕ = c.loop-leader.met in
    let all : take c.loop-leader.leader-index keys ≡ keys = take_all c.loop-leader.leader-index keys c.loop-leader-test.false in
    let same : map seen (take met groups) ≡ briefs_at w cpu (slice_index_or (pass_leaders w cpu) c.args.pass []) =
    c.loop-leader.invariant.same ∙ ap (briefs_at w cpu) (all ∙ c.leaders-keys.ensures.leaders) in (
      λ h.
          let number : met ≡ length groups = number_true met (length groups) h in
          ap (map seen) (sym (take_all met groups (omega (arith, number)))) ∙ same,
      λ e. same_number met (length groups) (omega (
        arith,
        ap length (e ∙ sym same),
        length-map groups seen,
        length-map (take met groups) seen,
        length-take met groups,
        c.loop-leader.invariant.met,
      )),
    )
