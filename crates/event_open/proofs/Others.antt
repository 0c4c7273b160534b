-- What an open leaves of the processors that do not have the new event's context.
use Rattle.std.specs.Prelude.{◌≡◌, ◌+◌, ◌<◌, ◌≤◌, ◌↔◌, ◌&&◌, true, false, List, [], ◌∷◌, ◌++◌, length, map, filter, flat_map, Option, Some, None}
use Rattle.std.{specs.Option.{unwrap_or}, proofs.Common.{arith, refl, sym, ap, subst, ◌∙◌, inl, inr}}
use Rattle.std.proofs.lemmas.Bool.{cases_eq, false≢true}
use Rattle.perf_base.specs.declared.{attr.Attr.{Attr}, numbers.{CpuNo.{CpuNo}, EventNo.{EventNo}, Key.{Key}, TaskNo.{TaskNo}}}
use Rattle.perf_base.specs.{declared.standing.Context.{Context}, Contexts.{context_of}}
use Rattle.perf_base.specs.declared.standing.Context.TheVariants as context
use Rattle.perf_base.specs.declared.standing.Standing.TheVariants as standing
use Rattle.stage_spec.specs.{Hardware.{Hardware}, Flags.{is_pinned}, Opening.{add_group, new_original, open_refusal, opened}}
use Rattle.stage_spec.specs.{Stage.{Stage, alone, change_context, task_on}, Verdict.{is_eligible, judge_passes, passes, verdicts}}
use Rattle.stage_laws.{specs.{Narrowing.{has_context}, Standings.{brief_of}}, proofs.{Accepted.{accepted}, Counts.{count-append}}}
use Rattle.stage_laws.proofs.{Others.{ReachesSame, passes-same}, Untouched.{context-changed}}
use Rattle.world_spec.specs.Value.{World, Leaders, is_live, entry_at, standing_at, seats_at, leaders_of, family_of, is_key, times}
use Rattle.world_spec.specs.{StageOf.{group_at, stage_of}, Kept.{post_at}, Adding.{Newcomer, add}, Listings.{task_leaders, pass_leaders}}
use Rattle.world_spec.{specs.{Rescheduled.{IsUntouched}, Staying.{HasCome}}, proofs.Added.{added, comes-by, joined-members}}
use Rattle.world_spec.proofs.{AddedStage.{group-other}, Coming.{Comes}, GoneLeaderStage.{map-within}, Keys.{key-is}}
use Rattle.world_spec.proofs.{Listings.{passes-are, reached_leaders, reached-context, reached-leading}, Moving.{leads-parts}}
use Rattle.world_spec.proofs.{Standing.{left-untouched}, Staying.{add-stays}, Tables.{get-there}}
use Rattle.perf_world.specs.{Parts.{MayAdd}, Seen.{IsWorld}}
use Rattle.event_open.{specs.Opened.{opened_as}, proofs.Joining.{led-by, stage-opened}}
use Rattle.perf_world.proofs.Added.{may-come}
use Rattle.world_spec.proofs.WaysGone.{added-standing}

-- the passes of such a processor where the event is a group of its own
open-alone : (s : Stage) (e : EventNo) (a : Attr) (cpu : CpuNo) → length s.contexts ≡ 72 → has_context s cpu (context_of a) ≡ false → ReachesSame s (opened s e a None) cpu
unfolding opened
open-alone s e a cpu size away =
    let h : ReachesSame s (change_context (context_of a) (add_group (is_pinned a) (alone (new_original s e a))) s) cpu = search (context-changed) in
    record { running = h.running; own = h.own; task = h.task }

-- and where it joins a group, which is none of the processor's
abbrev joined_world : World → Key → Newcomer → Key → World
joined_world w k n first = added w k n (Some first)

leaders-stay : (w : World) (k : Key) (n : Newcomer) (first : Key) (o : Option TaskNo) → task_leaders (joined_world w k n first) o ≡ task_leaders w o
leaders-stay w k n first None = refl
leaders-stay w k n first (Some task) = refl

lists-same : {X : Type 0} (f g : Key → X) (ps : List (List Key)) → ((q : Key) → 1 ≤ times q (flat_map (λ keys. keys) ps) → f q ≡ g q) → map (map f) ps ≡ map (map g) ps
lists-same f g [] h = refl
lists-same f g (p ∷ ps) h =
    let split : (q : Key) → times q (p ++ flat_map (λ keys. keys) ps) ≡ times q p + times q (flat_map (λ keys. keys) ps) = λ q. count-append (is_key q) p (flat_map (λ keys. keys) ps) in
    let here : map f p ≡ map g p = map-within f g p (λ q some. h q (omega (arith, some, split q))) in
    let rest : map (map f) ps ≡ map (map g) ps = lists-same f g ps (λ q some. h q (omega (arith, some, split q))) in
    λ i. here i ∷ rest i

groups-stay : (w : World) (k : Key) (n : Newcomer) (first : Key) (cpu : CpuNo) → IsWorld w → is_live w k ≡ false → has_context (stage_of w) cpu (entry_at w first).context ≡ false
    → (q : Key) → 1 ≤ times q (reached_leaders w cpu) → group_at (joined_world w k n first) q ≡ group_at w q
groups-stay w k n first cpu h dead away q some =
    let live : is_live w q ≡ true = (leads-parts (is_live w q) (is_key q (entry_at w q).leader) (reached-leading w.hardware w h cpu q some)).0 in
    let apart : q.0 ≡ k.0 → ⊥ = λ same. false≢true (sym dead ∙ (ap (is_live w) (sym (key-is q k same)) ∙ live)) in
    let off : q.0 ≡ first.0 → ⊥ = grind (arith, false≢true, key-is, reached-context) in
    group-other w k n (Some first) h.linked dead q apart (joined-members w k n first q apart off)

passes-joined : (w : World) (k : Key) (n : Newcomer) (first : Key) (cpu : CpuNo) → IsWorld w → is_live w k ≡ false → has_context (stage_of w) cpu (entry_at w first).context ≡ false
    → passes (stage_of (joined_world w k n first)) cpu ≡ passes (stage_of w) cpu
passes-joined w k n first cpu h dead away =
    let t : World = joined_world w k n first in
    let four : Leaders → List (List Key) = λ l. (leaders_of w (context.Processor cpu)).pinned ∷ l.pinned ∷ (leaders_of w (context.Processor cpu)).flexible ∷ l.flexible ∷ [] in
    passes-are t cpu ∙ (ap (λ l. map (map (group_at t)) (four l)) (leaders-stay w k n first (task_on (stage_of w) cpu))
    ∙ (lists-same (group_at t) (group_at w) (pass_leaders w cpu) (groups-stay w k n first cpu h dead away) ∙ sym (passes-are w cpu)))

passes-stay : (w : World) (e : EventNo) (a : Attr) (leader : Option EventNo) (k : Key) (cpu : CpuNo) → IsWorld w → MayAdd w (opened_as w e a leader)
    → open_refusal w.hardware (stage_of w) e a leader ≡ None → is_live w k ≡ false → has_context (stage_of w) cpu (context_of a) ≡ false
    → passes (stage_of (add k (opened_as w e a leader) w)) cpu ≡ passes (stage_of w) cpu
passes-stay w e a None k cpu h may free fresh away = search (stage-opened, passes-same, open-alone)
passes-stay w e a (Some leader) k cpu h may free fresh away =
    let led = led-by w e a leader (family_of w leader).original h (accepted w.hardware (stage_of w) e a (Some leader) free) refl in
    let n : Newcomer = opened_as w e a (Some leader) in
    ap (λ o. passes (stage_of (added w k n o)) cpu) led.1.named
    ∙ passes-joined w k n led.0 cpu h fresh (ap (has_context (stage_of w) cpu) led.1.context ∙ away)

-- so its verdicts
verdicts-stay : (hw : Hardware) (s t : Stage) (cpu : CpuNo) → passes t cpu ≡ passes s cpu → verdicts hw t cpu ≡ verdicts hw s cpu
unfolding verdicts
verdicts-stay hw s t cpu same = ap (λ ps. judge_passes hw [] (map (filter (is_eligible hw cpu)) ps)) same

-- what comes leaves the seats, the tasks that run, and the standings of the others
seats-stay : (w : World) (k : Key) (n : Newcomer) (leader : Option Key) (cpu : CpuNo) → seats_at (added w k n leader) cpu ≡ seats_at w cpu
seats-stay w k n None cpu = refl
seats-stay w k n (Some first) cpu = refl

has-stays : (w : World) (k : Key) (n : Newcomer) (leader : Option Key) (cpu : CpuNo) (c : Context) → has_context (stage_of (added w k n leader)) cpu c ≡ has_context (stage_of w) cpu c
has-stays w k n None cpu (context.Processor other) = refl
has-stays w k n None cpu (context.Task task) = refl
has-stays w k n (Some first) cpu (context.Processor other) = refl
has-stays w k n (Some first) cpu (context.Task task) = refl

-- and so the processor is as rescheduling left it
others-stay : (w : World) (e : EventNo) (a : Attr) (leader : Option EventNo) (k : Key) (cpu : CpuNo) → IsWorld w → MayAdd w (opened_as w e a leader)
    → open_refusal w.hardware (stage_of w) e a leader ≡ None → is_live w k ≡ false → cpu.0 < 8 → has_context (stage_of w) cpu (context_of a) ≡ false
    → IsUntouched w.hardware w (add k (opened_as w e a leader) w) cpu
others-stay w e a leader k cpu h may free fresh low away =
    let n : Newcomer = opened_as w e a leader in
    let after : World = add k n w in
    let come : HasCome w after k n = add-stays w.hardware w k n h (may-come w n k may fresh) may.group in
    let comes : Comes (post_at w) (post_at after) k _ = comes-by w k n fresh n.leader may.group in
    left-untouched w.hardware w after cpu low (record {
      briefs = ap (map (λ pass. map (brief_of w.hardware) (filter (is_eligible w.hardware cpu) pass))) (passes-stay w e a leader k cpu h may free fresh away);
      seats = seats-stay w k n n.leader cpu;
      groups = λ j lead has. elim (cases_eq j.0 k.0) [
        | inl same ↦ grind (arith, key-is, same, false≢true, has-stays)
        | inr apart ↦ (
          sym (ap (λ p. p.live && is_key j p.leader) (comes.others j apart)) ∙ lead,
          sym (has-stays w k n n.leader cpu (entry_at w j).context) ∙ (ap (has_context (stage_of after) cpu) (sym (come.others.contexts j apart)) ∙ has),
          ap (λ i. i.id) (come.others.instances j apart),
          added-standing w k n n.leader j apart,
        )
      ];
    })

-- all that an open which is not refused makes of a world
pub record IsOpened (w after : World) (e : EventNo) (a : Attr) (leader : Option EventNo) : Type 0 where
  pub stage : stage_of after ≡ opened (stage_of w) e a leader
  pub others : (cpu : CpuNo) → cpu.0 < 8 → has_context (stage_of w) cpu (context_of a) ≡ false → IsUntouched w.hardware w after cpu
  pub verdicts : (cpu : CpuNo) → has_context (stage_of w) cpu (context_of a) ≡ false → verdicts w.hardware (stage_of after) cpu ≡ verdicts w.hardware (stage_of w) cpu

pub is-opened : (w after : World) (e : EventNo) (a : Attr) (leader : Option EventNo) (k : Key) → IsWorld w → MayAdd w (opened_as w e a leader)
    → open_refusal w.hardware (stage_of w) e a leader ≡ None → is_live w k ≡ false → after ≡ add k (opened_as w e a leader) w → IsOpened w after e a leader
is-opened w after e a leader k h may free fresh is =
    subst (λ v. IsOpened w v e a leader) (sym is) (record {
      stage = stage-opened w e a leader k h may free fresh;
      others = λ cpu low away. others-stay w e a leader k cpu h may free fresh low away;
      verdicts = λ cpu away.
          verdicts-stay w.hardware (stage_of w) (stage_of (add k (opened_as w e a leader) w)) cpu (passes-stay w e a leader k cpu h may free fresh away);
    })

-- a processor that is not among those with a context does not have it
pub not-among : (w : World) (cpu : CpuNo) (c d : Context) (R : Type 0) → (R ↔ ((cpu.0 < length w.quiet.running) × (has_context (stage_of w) cpu c ≡ true))) → c ≡ d
    → cpu.0 < length w.quiet.running → (R → ⊥) → has_context (stage_of w) cpu d ≡ false
not-among w cpu c d R there same low out = grind arith
