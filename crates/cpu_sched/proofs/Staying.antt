-- What rescheduling leaves: all that is not of the processor, and that other processors stand as they stood.
use Rattle.std.specs.Prelude.{◌≡◌, ◌≢◌, ◌<◌, ◌≤◌, Bool, true, false, List, [], ◌∷◌, map, filter, flat_map, Option, Some, None, slice_index_or, slice_set}
use Rattle.std.proofs.{Common.{arith, refl, sym, ap, ◌∙◌, inl, inr}, lemmas.{Bool.{cases_eq, false≢true}, List.{get_or-set_other}}}
use Rattle.perf_base.specs.declared.{numbers.{CpuNo.{CpuNo}, Key.{Key}, TaskNo.{TaskNo}}, standing.{Context.{Context}, Standing.{Standing}}}
use Rattle.perf_base.specs.declared.standing.Context.TheVariants as context
use Rattle.perf_base.specs.declared.standing.Standing.TheVariants as standing
use Rattle.stage_spec.specs.{declared.instance.Instance.{Instance}, Hardware.{Hardware}, Stage.{Group, is_task}}
use Rattle.stage_spec.specs.Verdict.{is_eligible, passes}
use Rattle.stage_laws.{specs.{Narrowing.{has_context}, Standings.{brief_of}, Sound.{AreRunning}}, proofs.Counts.{count-append}}
use Rattle.counter_match.specs.Seating.{empty_seating}
use Rattle.world_spec.specs.{Kept.{post_at, leads, once_if, is_member_of, IsKept}, Listings.{pass_leaders}}
use Rattle.world_spec.specs.{Rescheduled.{IsUntouched, pinned_leaders, fail_by, fail_group, fail_groups}, StageOf.{after_first, group_at, stage_of}}
use Rattle.world_spec.specs.Value.{World, is_live, entry_at, instance_at, standing_at, seats_at, is_key, times}
use Rattle.world_spec.proofs.{Failing.{failed_instance, are-failed, failed-rest, AllLead, failed-posts}, GoneLeaderStage.{map-within}}
use Rattle.world_spec.proofs.{Keys.{key-is, is_key-true, times-cons}, Listings.{passes-are, reached_leaders, reached-context, reached-leading}}
use Rattle.world_spec.proofs.{Moving.{leads-parts}, Standing.{left-untouched}}
use Rattle.cpu_sched.specs.{Judging.{retold}, Resched.{StaysBut}}
use Rattle.world_spec.proofs.Along.{once-both}
use Rattle.world_spec.proofs.Coming.{number_true}
use Rattle.stage_laws.proofs.Tasks.{is_task-some}

-- the pinned leaders of a processor are some that it reaches
pinned-reached : (w : World) (cpu : CpuNo) (q : Key) → times q (pinned_leaders w cpu) ≤ times q (reached_leaders w cpu)
pinned-reached w cpu q = grind (arith, count-append)

pinned-lead : (hw : Hardware) (w : World) (cpu : CpuNo) → IsKept hw w → AllLead w (pinned_leaders w cpu)
pinned-lead hw w cpu h q some = reached-leading hw w h cpu q (omega (arith, some, pinned-reached w cpu q))

-- Two processors have no context in common.
one-processor : (w : World) (cpu other : CpuNo) (c : Context) → AreRunning (stage_of w) → has_context (stage_of w) cpu c ≡ true → has_context (stage_of w) other c ≡ true → cpu.0 ≡ other.0
one-processor w cpu other (context.Processor n) h first second = sym (number_true n.0 cpu.0 first) ∙ number_true n.0 other.0 second
one-processor w cpu other (context.Task task) h first second = grind (arith, is_task-some)

-- groups that go to error change entries and standings
one-shape : (s : Standing) (w : World) (k : Key) → fail_by s k w ≡ record w { entries = (fail_by s k w).entries; standings = (fail_by s k w).standings }
one-shape standing.Out w k = refl
one-shape standing.On w k = refl
one-shape (standing.Refused cause) w k = refl

fail-shape : (keys : List Key) (w : World) → fail_groups keys w ≡ record w { entries = (fail_groups keys w).entries; standings = (fail_groups keys w).standings }
fail-shape [] w = refl
fail-shape (k ∷ keys) w = grind (arith, one-shape, fail-shape keys (fail_group w k))

own-by : (s : Standing) (i j : Instance) → j ≡ failed_instance s i → j ≡ record i { own = j.own }
own-by standing.Out i j is = is ∙ ap (λ x. record i { own = x }) (sym (ap (λ x. x.own) is))
own-by standing.On i j is = is ∙ ap (λ x. record i { own = x }) (sym (ap (λ x. x.own) is))
own-by (standing.Refused cause) i j is = is ∙ ap (λ x. record i { own = x }) (sym (ap (λ x. x.own) is))

own-only : (keys : List Key) (w : World) (q : Key) → instance_at (fail_groups keys w) q ≡ record (instance_at w q) { own = (instance_at (fail_groups keys w) q).own }
own-only keys w q = elim (cases_eq (times q keys) 0) [
  | inl none ↦ own-by standing.Out (instance_at w q) (instance_at (fail_groups keys w) q) ((are-failed keys w).other_instances q none)
  | inr more ↦ own-by (standing_at w q) (instance_at w q) (instance_at (fail_groups keys w) q) ((are-failed keys w).instances q (omega (arith, more)))
]

-- What is told of the worlds before, after all groups were told, and after those that were refused went to error.
pub record Course (hw : Hardware) (v w x : World) (cpu : CpuNo) : Type 0 where
  pub kept : IsKept hw w
  pub told : w ≡ retold cpu v w
  pub others : (k : Key) → has_context (stage_of v) cpu (entry_at v k).context ≡ false → standing_at w k ≡ standing_at v k
  pub failed : x ≡ fail_groups (pinned_leaders w cpu) w

-- a key elsewhere is none of the pinned leaders
away : (hw : Hardware) (v w x : World) (cpu : CpuNo) → Course hw v w x cpu → (q : Key) → has_context (stage_of v) cpu (entry_at v q).context ≡ false → times q (pinned_leaders w cpu) ≡ 0
away hw v w x cpu c q off = elim (cases_eq (times q (pinned_leaders w cpu)) 0) [
  | inl none ↦ none
  | inr more ↦
      absurd (false≢true (sym off
      ∙ (sym (ap (λ (y : World). has_context (stage_of y) cpu (entry_at y q).context) c.told)
      ∙ reached-context hw w c.kept cpu q (omega (arith, more, pinned-reached w cpu q)))))
]

instance-away : (hw : Hardware) (v w x : World) (cpu : CpuNo) → Course hw v w x cpu → (q : Key) → has_context (stage_of v) cpu (entry_at v q).context ≡ false → instance_at x q ≡ instance_at v q
instance-away hw v w x cpu c q off =
    ap (λ (y : World). instance_at y q) c.failed
    ∙ ((are-failed (pinned_leaders w cpu) w).other_instances q (away hw v w x cpu c q off) ∙ ap (λ (y : World). instance_at y q) c.told)

standing-away : (hw : Hardware) (v w x : World) (cpu : CpuNo) → Course hw v w x cpu → (q : Key) → has_context (stage_of v) cpu (entry_at v q).context ≡ false → standing_at x q ≡ standing_at v q
standing-away hw v w x cpu c q off =
    ap (λ (y : World). standing_at y q) c.failed ∙ ((are-failed (pinned_leaders w cpu) w).other_standings q (away hw v w x cpu c q off) ∙ c.others q off)

posts-stay : (hw : Hardware) (v w x : World) (cpu : CpuNo) → Course hw v w x cpu → post_at x ≡ post_at v
posts-stay hw v w x cpu c = ap post_at c.failed ∙ (failed-posts (pinned_leaders w cpu) w (pinned-lead hw w cpu c.kept) ∙ ap post_at c.told)

quiet-stays : (hw : Hardware) (v w x : World) (cpu : CpuNo) → Course hw v w x cpu → x.quiet ≡ record v.quiet { seats = slice_set v.quiet.seats cpu.0 (seats_at w cpu) }
quiet-stays hw v w x cpu c = ap (λ (y : World). y.quiet) c.failed ∙ ((failed-rest (pinned_leaders w cpu) w).1 ∙ ap (λ (y : World). y.quiet) c.told)

contexts-stay : (hw : Hardware) (v w x : World) (cpu : CpuNo) → Course hw v w x cpu → x.contexts ≡ v.contexts
contexts-stay hw v w x cpu c = ap (λ (y : World). y.contexts) c.failed ∙ ((failed-rest (pinned_leaders w cpu) w).0 ∙ ap (λ (y : World). y.contexts) c.told)

seats-stay : (hw : Hardware) (v w x : World) (cpu : CpuNo) → Course hw v w x cpu → (other : CpuNo) → other.0 ≢ cpu.0 → seats_at x other ≡ seats_at v other
seats-stay hw v w x cpu c other apart =
    ap (λ q. slice_index_or q.seats other.0 (empty_seating 0)) (quiet-stays hw v w x cpu c) ∙ get_or-set_other v.quiet.seats cpu.0 other.0 (seats_at w cpu) (empty_seating 0) apart

pub stays-but : (hw : Hardware) (v w x : World) (cpu : CpuNo) → Course hw v w x cpu → StaysBut cpu v x
stays-but hw v w x cpu c =
    let quiet : x.quiet ≡ record v.quiet { seats = slice_set v.quiet.seats cpu.0 (seats_at w cpu) } = quiet-stays hw v w x cpu c in
    let seats : slice_set v.quiet.seats cpu.0 (seats_at w cpu) ≡ x.quiet.seats = sym (ap (λ q. q.seats) quiet) in
    let shape : x ≡ record w { entries = x.entries; standings = x.standings } =
    c.failed
    ∙ (fail-shape (pinned_leaders w cpu) w
    ∙ sym (λ i. record w { entries = (c.failed i).entries; standings = (c.failed i).standings })) in
    record {
      world = shape
          ∙ (ap (λ (y : World). record y { entries = x.entries; standings = x.standings }) c.told
          ∙ ap (λ s. record v { entries = x.entries; standings = x.standings; quiet = record v.quiet { seats = s } }) seats);
      live = λ k. ap (λ at. (at k).live) (posts-stay hw v w x cpu c);
      entries = λ k.
          let posts : post_at x ≡ post_at v = posts-stay hw v w x cpu c in
          let own : instance_at x k ≡ record (instance_at v k) { own = (instance_at x k).own } =
          ap (λ (y : World). instance_at y k) c.failed
          ∙ (own-only (pinned_leaders w cpu) w k
          ∙ (λ i. record (instance_at (c.told i) k) { own = (instance_at (sym c.failed i) k).own })) in
          λ i. record {
            instance = own i;
            context = (posts i k).context;
            leader = (posts i k).leader;
            members = (posts i k).members;
            pinned = (posts i k).pinned;
          };
      own = λ k off. ap (λ i. i.own) (instance-away hw v w x cpu c k off);
      standings = λ k off. standing-away hw v w x cpu c k off;
      seats = seats-stay hw v w x cpu c;
    }

-- Another processor stands as it stood.
not-here : (hw : Hardware) (v : World) (cpu other : CpuNo) → IsKept hw v → other.0 ≢ cpu.0 → (q : Key) → has_context (stage_of v) other (entry_at v q).context ≡ true
    → has_context (stage_of v) cpu (entry_at v q).context ≡ false
not-here hw v cpu other h apart q has = grind (arith, one-processor)

-- a sibling stands in its leader's context
sibling-there : (hw : Hardware) (v : World) (other : CpuNo) (q j : Key) → IsKept hw v → leads (post_at v) q ≡ true → 1 ≤ times j (after_first (entry_at v q).members)
    → has_context (stage_of v) other (entry_at v q).context ≡ true → has_context (stage_of v) other (entry_at v j).context ≡ true
sibling-there hw v other q j h lead some has =
    let more : 1 ≤ once_if (is_member_of (post_at v) q j) =
    omega (arith, some, h.linked.members j q, ap (times j) (h.grouped.leader_first q lead), times-cons j q (after_first (entry_at v q).members)) in
    let member : (is_live v j ≡ true) × (is_key q (entry_at v j).leader ≡ true) = leads-parts (is_live v j) (is_key q (entry_at v j).leader) (once-both (is_member_of (post_at v) q j) more) in
    let leader : (entry_at v j).leader ≡ q = key-is (entry_at v j).leader q (is_key-true q (entry_at v j).leader member.1) in
    ap (has_context (stage_of v) other) (sym (h.grouped.together j member.0) ∙ ap (λ k. (entry_at v k).context) leader) ∙ has

-- groups of lists of leaders
each-pass : (f g : Key → Group) (ps : List (List Key)) → ((q : Key) → 1 ≤ times q (flat_map (λ keys. keys) ps) → f q ≡ g q) → map (map f) ps ≡ map (map g) ps
each-pass f g [] same = refl
each-pass f g (p ∷ ps) same =
    let first : map f p ≡ map g p = map-within f g p (λ q some. same q (omega (arith, some, count-append (is_key q) p (flat_map (λ keys. keys) ps)))) in
    let rest : map (map f) ps ≡ map (map g) ps = each-pass f g ps (λ q some. same q (omega (arith, some, count-append (is_key q) p (flat_map (λ keys. keys) ps)))) in
    λ i. first i ∷ rest i

group-elsewhere : (hw : Hardware) (v w x : World) (cpu other : CpuNo) → Course hw v w x cpu → IsKept hw v → other.0 ≢ cpu.0 → (q : Key) → leads (post_at v) q ≡ true
    → has_context (stage_of v) other (entry_at v q).context ≡ true → group_at x q ≡ group_at v q
group-elsewhere hw v w x cpu other c h apart q lead has =
    let leader : instance_at x q ≡ instance_at v q = instance-away hw v w x cpu c q (not-here hw v cpu other h apart q has) in
    let siblings : map (instance_at x) (after_first (entry_at x q).members) ≡ map (instance_at v) (after_first (entry_at v q).members) =
    ap (λ at. map (instance_at x) (after_first (at q).members)) (posts-stay hw v w x cpu c)
    ∙ map-within (instance_at x) (instance_at v) (after_first (entry_at v q).members) (λ j some.
    instance-away hw v w x cpu c j (not-here hw v cpu other h apart j (sibling-there hw v other q j h lead some has))) in
    λ i. record { leader = leader i; siblings = siblings i }

pub others-stay : (hw : Hardware) (v w x : World) (cpu other : CpuNo) → Course hw v w x cpu → IsKept hw v → other.0 < 8 → other.0 ≢ cpu.0 → IsUntouched hw v x other
others-stay hw v w x cpu other c h low apart =
    let posts : post_at x ≡ post_at v = posts-stay hw v w x cpu c in
    let running : x.quiet.running ≡ v.quiet.running = ap (λ q. q.running) (quiet-stays hw v w x cpu c) in
    let lists : pass_leaders x other ≡ pass_leaders v other =
    λ i. pass_leaders (record v { contexts = contexts-stay hw v w x cpu c i; quiet = record v.quiet { running = running i } }) other in
    let groups : map (map (group_at x)) (pass_leaders v other) ≡ map (map (group_at v)) (pass_leaders v other) =
    search (each-pass, group-elsewhere, reached-leading, reached-context) in
    let same : passes (stage_of x) other ≡ passes (stage_of v) other = passes-are x other ∙ (ap (map (map (group_at x))) lists ∙ (groups ∙ sym (passes-are v other))) in
    let has : (k : Key) → has_context (stage_of x) other (entry_at x k).context ≡ has_context (stage_of v) other (entry_at v k).context =
    λ k. λ i. has_context (stage_of (record v { quiet = record v.quiet { running = running i } })) other (posts i k).context in
    left-untouched hw v x other low (record {
      briefs = ap (map (λ pass. map (brief_of hw) (filter (is_eligible hw other) pass))) same;
      seats = seats-stay hw v w x cpu c other apart;
      groups = λ k lead there.
          let lead_before : leads (post_at v) k ≡ true = ap (λ at. leads at k) (sym posts) ∙ lead in
          let there_before : has_context (stage_of v) other (entry_at v k).context ≡ true = sym (has k) ∙ there in
          let off : has_context (stage_of v) cpu (entry_at v k).context ≡ false = not-here hw v cpu other h apart k there_before in
          (lead_before, there_before, ap (λ i. i.id) (instance-away hw v w x cpu c k off), standing-away hw v w x cpu c k off);
    })
