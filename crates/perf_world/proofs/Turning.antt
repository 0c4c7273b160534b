-- Accounts that are turned, and those whose ways stay.
use Rattle.std.specs.Prelude.{◌≡◌, ℕ, zero, suc, ◌+◌, ◌<◌, ◌≤◌, ◌==◌, Bool, true, false, ◌&&◌, List, [], ◌∷◌, ◌++◌, length, take, flat_map, Option, Some, None, IfSome, IfNone, slice_index_or, if◌then◌else◌}
use Rattle.std.specs.{FinMap.{FinMap, get, contains_key, insert}, Option.{unwrap_or}, Ordering.{nat_cmp}}
use Rattle.std.proofs.{Common.{arith, refl, sym, ap, subst, ◌∙◌, inl, inr}, lemmas.Bool.{cases_eq, cases_lt, false≢true}}
use Rattle.std.proofs.{lemmas.{Bool.Decides.{nat_tests}, Grind.{flat_map-append}, List.{append-nil, get_or_past}}, Math.Seq.{take-suc}}
use Rattle.perf_base.specs.declared.{lines.Work.{Work}, numbers.{CpuNo.{CpuNo}, Key.{Key}, TaskNo.{TaskNo}}, standing.Context.{Context}}
use Rattle.perf_base.specs.declared.lines.CpuLine.TheVariants as cpu_line
use Rattle.perf_base.specs.declared.standing.Context.TheVariants as context
use Rattle.stage_spec.specs.{Hardware.{Hardware}, declared.instance.TaskStatus.{TaskStatus}}
use Rattle.stage_spec.specs.Stage.{is_task, task_on, place_of, unknown_task, is_live as is_live_task}
use Rattle.stage_laws.{specs.{Bounds.{most_of_line}}, proofs.{Counts.{count-append}, Tasks.{is_task-some}}}
use Rattle.world_spec.specs.StageOf.{after_first, stage_of}
use Rattle.world_spec.specs.Value.{World, Entry, Leaders, no_entry, no_leaders, is_live, instance_at, leaders_of, entry_at, is_key, times}
use Rattle.world_spec.specs.{Kept.{post_at, leads, once_if, is_member_of, IsKept}, Changes.{place}, Metering.{goes_along, IsWorked, HasMeterRoom}}
use Rattle.world_spec.specs.{Shares.{HaveRoom}, Ways.{Way, IsTurned, KeepsWay, is_context_of, is_on_at}}
use Rattle.world_spec.proofs.{Keys.{key-is, is_key-same, is_key-other, times-cons, once-true, once-false}, Metering.{work-kept, work-ways}}
use Rattle.world_spec.proofs.{Moving.{leads-parts}, Tables.{get-here, get-there}, Ways.{still-turned, outside-context}}
use Rattle.world_tables.specs.{Columns.{Columns, is_there, way_in, put_way}, Meters.{goes_along as along, no_way}, Places.{Places}}
use Rattle.perf_world.specs.Seen.{IsWorld}
use Rattle.perf_world.specs.Settling.{bare, AreClear, AreLed, HasSettled, AreTurned, IsStored, group_keys, list_keys, task_leaders, task_keys}
use Rattle.world_spec.proofs.{Along.{once-both, once-three}, WaysGone.{leader-live}}
use Rattle.perf_world.proofs.Gone.{after-times, member-live}

-- what is stored goes along an equation
pub stored-after : (t : Columns) (seen after : World) → seen ≡ after → IsWorld after → AreTurned t after → AreClear seen → IsStored t seen
stored-after t seen after e kept turned clear = record { kept = subst IsWorld (sym e) kept; turned = subst (AreTurned t) (sym e) turned; clear = clear }

-- where no way was turned
pub stay-turned : (t new : Columns) (first now after : World) → first ≡ now → AreTurned t first → ((k : Key) → is_live after k ≡ true → way_in new k ≡ way_in t k)
    → ((k : Key) → is_live after k ≡ true → is_live now k ≡ true) → ((k : Key) → is_live after k ≡ true → KeepsWay now after k) → AreTurned new after
stay-turned t new first now after view turned same lives keeps k live = grind (arith, nat_tests, still-turned)

-- where some were
pub record Stays (t mid : Columns) (now after : World) (k : Key) : Type 0 where
  pub live : is_live now k ≡ true
  pub keeps : KeepsWay now after k
  pub same : way_in mid k ≡ way_in t k

pub settled-turned : (p : Places) (keys : List Key) (t mid new : Columns) (first now after : World) → first ≡ now → AreTurned t first → HasSettled keys p mid new
    → ((u : Way) (k : Key) → IsTurned (bare mid p) u k → IsTurned after u k)
    → ((k : Key) → is_live after k ≡ true → times k keys ≡ 0 → Stays t mid now after k) → AreTurned new after
settled-turned p keys t mid new first now after view turned s transfers others k live = elim (cases_eq (times k keys) 0) [
  | inl none ↦ grind (arith, nat_tests, none, still-turned)
  | inr some ↦ transfers (way_in new k) k (s.turned k (omega (arith, some)))
]

-- settling nobody, one more, and more
pub none-settled : (p : Places) (t : Columns) → HasSettled [] p t t
none-settled p t = record { same = refl; turned = λ k some. absurd (omega (arith, some)); others = λ k none. refl }

pub both-times : (k : Key) (xs ys : List Key) → times k (xs ++ ys) ≡ times k xs + times k ys
both-times k xs ys = count-append (is_key k) xs ys

pub more-settled : (p : Places) (xs ys : List Key) (t mid new : Columns) → HasSettled xs p t mid → HasSettled ys p mid new → HasSettled (xs ++ ys) p t new
more-settled p xs ys t mid new a b = record {
  same = b.same ∙ ap {A = Columns} {B = Columns} (λ x. record x { ways = new.ways }) a.same;
  turned = λ k some. elim (cases_eq (times k ys) 0) [
    | inr later ↦ subst (λ (x : Columns). IsTurned (bare x p) (way_in new k) k) a.same (b.turned k (omega (arith, later)))
    | inl none ↦ subst (λ (u : Way). IsTurned (bare t p) u k) (sym (b.others k none)) (a.turned k (omega (arith, some, none, both-times k xs ys)))
  ];
  others = λ k none. b.others k (omega (arith, none, both-times k xs ys)) ∙ a.others k (omega (arith, none, both-times k xs ys));
}

pub take-next : (keys : List Key) (i : ℕ) (d : Key) → i < length keys → take (i + 1) keys ≡ take i keys ++ slice_index_or keys i d ∷ []
take-next keys i d low = ap (λ n. take n keys) (let e : i + 1 ≡ suc i = omega arith in e) ∙ take-suc keys i d low

pub next-settled : (p : Places) (keys : List Key) (i : ℕ) (d : Key) (t mid new : Columns) → i < length keys → HasSettled (take i keys) p t mid
    → HasSettled (slice_index_or keys i d ∷ []) p mid new → HasSettled (take (i + 1) keys) p t new
next-settled p keys i d t mid new low a b =
    subst (λ (ks : List Key). HasSettled ks p t new) (sym (take-next keys i d low)) (more-settled p (take i keys) (slice_index_or keys i d ∷ []) t mid new a b)

-- one group more; its members are those that it had
list-next : (t : Columns) (leaders : List Key) (i : ℕ) (d : Key) → i < length leaders
    → list_keys t (take (i + 1) leaders) ≡ list_keys t (take i leaders) ++ group_keys t (slice_index_or leaders i d)
list-next t leaders i d low =
    ap (list_keys t) (take-next leaders i d low)
    ∙ (flat_map-append (group_keys t) (take i leaders) (slice_index_or leaders i d ∷ [])
    ∙ ap (λ (keys : List Key). list_keys t (take i leaders) ++ keys) (append-nil (group_keys t (slice_index_or leaders i d))))

pub group-settled : (p : Places) (leaders : List Key) (i : ℕ) (d : Key) (t mid new : Columns) → i < length leaders → HasSettled (list_keys t (take i leaders)) p t mid
    → HasSettled (group_keys mid (slice_index_or leaders i d)) p mid new → HasSettled (list_keys t (take (i + 1) leaders)) p t new
group-settled p leaders i d t mid new low a b =
    subst (λ (ks : List Key). HasSettled ks p t new) (sym (list-next t leaders i d low))
    (more-settled p (list_keys t (take i leaders)) (group_keys t (slice_index_or leaders i d)) t mid new a
    (subst (λ (x : Columns). HasSettled (group_keys x (slice_index_or leaders i d)) p mid new) a.same b))

-- where ways alone changed, the same keys name events
pub still-led : (t mid : Columns) (keys : List Key) → mid ≡ record t { ways = mid.ways } → AreLed t keys → AreLed mid keys
still-led t mid keys same led = subst (λ (x : Columns). AreLed x keys) (sym same) led

-- a member of one of some groups
pub group-in : (t : Columns) (leaders : List Key) (i : ℕ) (d : Key) (k : Key) → i < length leaders → 1 ≤ times k (group_keys t (slice_index_or leaders i d)) → 1 ≤ times k (list_keys t leaders)
group-in t [] i d k low some = absurd (omega (arith, low))
group-in t (q ∷ leaders) zero d k low some = omega (arith, some, both-times k (group_keys t q) (list_keys t leaders))
group-in t (q ∷ leaders) (suc i) d k low some =
    omega (arith, group-in t leaders i d k (omega (arith, low)) some, both-times k (group_keys t q) (list_keys t leaders))

-- a part of an entry that a write keeps
pub written-part : {X : Type 0} (f : Entry → X) (w : World) (k : Key) (e : Entry) → f e ≡ f (entry_at w k) → (j : Key)
    → f (unwrap_or (get (insert w.entries k.0 e) j.0) no_entry) ≡ f (entry_at w j)
written-part f w k e same j = grind (arith, nat_tests, get-here, key-is, get-there)

-- In a kept world the leader of an event is there, and so are the members of groups.
pub group-led : (hw : Hardware) (w : World) (q : Key) → IsKept hw w → (k : Key) → 1 ≤ times k (entry_at w q).members
    → (is_live w k ≡ true) × (is_live w (entry_at w k).leader ≡ true)
group-led hw w q h k some = let live : is_live w k ≡ true = member-live hw w h q k some in (live, leader-live hw w k h live)

pub list-led : (hw : Hardware) (w : World) (leaders : List Key) → IsKept hw w → (k : Key) → 1 ≤ times k (flat_map (λ q. (entry_at w q).members) leaders)
    → (is_live w k ≡ true) × (is_live w (entry_at w k).leader ≡ true)
list-led hw w [] h k some = absurd (omega (arith, some))
list-led hw w (q ∷ leaders) h k some = elim (cases_eq (times k (entry_at w q).members) 0) [
  | inr here ↦ group-led hw w q h k (omega (arith, here))
  | inl none ↦ list-led hw w leaders h k (omega (arith, some, none, both-times k (entry_at w q).members (flat_map (λ x. (entry_at w x).members) leaders)))
]

-- The processor that a context is on.
pub own-only : (c cpu : CpuNo) → (c.0 == cpu.0) ≡ (c.0 == cpu.0)
own-only c cpu = refl

pub task-nowhere : (running : List (Option TaskNo)) (task : TaskNo) → ((cpu : CpuNo) → slice_index_or running cpu.0 None ≡ Some task → ⊥) → (cpu : CpuNo)
    → is_task (slice_index_or running cpu.0 None) task ≡ false
task-nowhere running task none cpu = grind (arith, nat_tests, is_task-some)

-- The leaders that stand in the lists of a context lead, and so all members of a task's groups are there.
pub pinned-live : (hw : Hardware) (w : World) (c : Context) (q : Key) → IsKept hw w → 1 ≤ times q (leaders_of w c).pinned → is_live w q ≡ true
pinned-live hw w c q h some =
    (leads-parts (is_live w q) (is_key q (entry_at w q).leader)
    (once-three (leads (post_at w) q) (place_of (entry_at w q).context == place_of c) (if (entry_at w q).pinned then true else false) (omega (arith, some, h.linked.pinned q (place_of c)))).0).0

pub flexible-live : (hw : Hardware) (w : World) (c : Context) (q : Key) → IsKept hw w → 1 ≤ times q (leaders_of w c).flexible → is_live w q ≡ true
flexible-live hw w c q h some =
    (leads-parts (is_live w q) (is_key q (entry_at w q).leader)
    (once-three (leads (post_at w) q) (place_of (entry_at w q).context == place_of c) (if (entry_at w q).pinned then false else true) (omega (arith, some, h.linked.flexible q (place_of c)))).0).0

-- The events of a task, in the tables of a world.
module _ (hw : Hardware) (w : World) (h : IsKept hw w) (t : Columns) (contexts : List Leaders) (entries : t.entries ≡ w.entries) (lists : contexts ≡ w.contexts) where
  pub task-leaders-there : (o : Option TaskNo) (k : Key) → 1 ≤ times k (task_leaders contexts o) → is_there t k ≡ true
  task-leaders-there None k some = absurd (omega (arith, some))
  task-leaders-there (Some task) k some =
      let c : Context = context.Task task in
      let all : 1 ≤ times k (leaders_of w c).pinned + times k (leaders_of w c).flexible =
      omega (arith, some, ap (λ (l : List Leaders). times k (task_leaders l (Some task))) lists, both-times k (leaders_of w c).pinned (leaders_of w c).flexible) in
      ap (λ (m : FinMap nat_cmp Entry). contains_key m k.0) entries ∙ elim (cases_eq (times k (leaders_of w c).pinned) 0) [
        | inr more ↦ pinned-live hw w c k h (omega (arith, more))
        | inl none ↦ flexible-live hw w c k h (omega (arith, all, none))
      ]

  pub task-led : (o : Option TaskNo) → AreLed t (task_keys t contexts o)
  task-led None k some = absurd (omega (arith, some))
  task-led (Some task) k some =
      let c : Context = context.Task task in
      let m : List Key → List Key = flat_map (λ q. (entry_at w q).members) in
      let keys : task_keys t contexts (Some task) ≡ m (leaders_of w c).pinned ++ m (leaders_of w c).flexible =
      (λ i. flat_map (λ q. (unwrap_or (get (entries i) q.0) no_entry).members) (slice_index_or (lists i) (place_of c) no_leaders).pinned
      ++ flat_map (λ q. (unwrap_or (get (entries i) q.0) no_entry).members) (slice_index_or (lists i) (place_of c) no_leaders).flexible) in
      let all : 1 ≤ times k (m (leaders_of w c).pinned) + times k (m (leaders_of w c).flexible) =
      omega (arith, some, ap (times k) keys, both-times k (m (leaders_of w c).pinned) (m (leaders_of w c).flexible)) in
      let both : (is_live w k ≡ true) × (is_live w (entry_at w k).leader ≡ true) = (elim (cases_eq (times k (m (leaders_of w c).pinned)) 0) [
        | inr more ↦ list-led hw w (leaders_of w c).pinned h k (omega (arith, more))
        | inl none ↦ list-led hw w (leaders_of w c).flexible h k (omega (arith, all, none))
      ]) in
      subst (λ (e : FinMap nat_cmp Entry). (contains_key e k.0 ≡ true) × (contains_key e (unwrap_or (get e k.0) no_entry).leader.0 ≡ true)) (sym entries) both

  pub task-outside : (o : Option TaskNo) (k : Key) → is_live w k ≡ true → times k (task_keys t contexts o) ≡ 0 → is_context_of o (entry_at w k).context ≡ false
  task-outside None k live none = nobody-of (entry_at w k).context
    where
      nobody-of : (c : Context) → is_context_of None c ≡ false
      nobody-of (context.Processor cpu) = refl
      nobody-of (context.Task task) = refl
  task-outside (Some task) k live none =
      let c : Context = context.Task task in
      let m : List Key → List Key = flat_map (λ q. (entry_at w q).members) in
      let keys : task_keys t contexts (Some task) ≡ m (leaders_of w c).pinned ++ m (leaders_of w c).flexible =
      (λ i. flat_map (λ q. (unwrap_or (get (entries i) q.0) no_entry).members) (slice_index_or (lists i) (place_of c) no_leaders).pinned
      ++ flat_map (λ q. (unwrap_or (get (entries i) q.0) no_entry).members) (slice_index_or (lists i) (place_of c) no_leaders).flexible) in
      outside-context hw w task k h live
      (ap (times k) (flat_map-append (λ q. (entry_at w q).members) (leaders_of w c).pinned (leaders_of w c).flexible) ∙ (ap (times k) (sym keys) ∙ none))

-- a task on a processor has a number below 64
pub live-below : (tasks : List TaskStatus) (n : ℕ) → is_live_task (slice_index_or tasks n unknown_task).state ≡ true → n < length tasks
live-below tasks n live = grind (arith, nat_tests, cases_lt, false≢true, get_or_past)

pub running-below : (hw : Hardware) (w : World) (cpu : CpuNo) (o : Option TaskNo) → IsKept hw w → o ≡ task_on (stage_of w) cpu → IfSome o (λ t. t.0 < 64)
running-below hw w cpu None h on = tt
running-below hw w cpu (Some task) h on = omega (arith, live-below w.quiet.tasks task.0 (h.running.live cpu task (sym on)), h.shape.tasks)

pub placed-below : (w : World) (o : Option TaskNo) → ((t : TaskNo) → o ≡ Some t → t.0 < 64) → IfSome o (λ t. t.0 < 64)
placed-below w None h = tt
placed-below w (Some task) h = h task refl

pub placed-live : (w : World) (cpu : CpuNo) (to : Option TaskNo) (k : Key) → is_live (place cpu to w) k ≡ true → is_live w k ≡ true
placed-live w cpu None k live = live
placed-live w cpu (Some task) k live = live

-- an instance that goes along no total where it is on goes along none by its way
pub follows-none : (t : Columns) (now w : World) (k : Key) → w ≡ now → AreTurned t w → is_live now k ≡ true
    → ((cpu : CpuNo) → is_on_at now cpu k ≡ true → goes_along (instance_at now k).attr ≡ false)
    → along (instance_at w k).attr (way_in t k).on ≡ false
follows-none t now w k view turned live alone = one (way_in t k).on refl
  where
    same : (instance_at now k).attr ≡ (instance_at w k).attr
    same = ap (λ (x : World). (instance_at x k).attr) (sym view)

    one : (on : Bool) → (way_in t k).on ≡ on → along (instance_at w k).attr on ≡ false
    one false is = refl
    one true is =
        let cpu : CpuNo = (way_in t k).cpu in
        let own : (cpu.0 == cpu.0) ≡ true = grind (arith, nat_tests) in
        let turns : IsTurned w (way_in t k) k = turned k (ap (λ (x : World). is_live x k) view ∙ live) in
        let on : is_on_at now cpu k ≡ true = ap (λ (x : World). is_on_at x cpu k) (sym view) ∙ (sym (turns.on cpu) ∙ (ap (λ b. b && cpu.0 == cpu.0) is ∙ own)) in
        ap goes_along (sym same) ∙ alone cpu on

-- work keeps what is stored
pub stored-worked : (t new : Columns) (w after : World) (cpu : CpuNo) (work : Work) → IsStored t w → IsWorked w after cpu work → HaveRoom w (most_of_line (cpu_line.Work work))
    → HasMeterRoom w cpu work → new.ways ≡ t.ways → IsStored new after
stored-worked t new w after cpu work h worked room meter ways = record {
  kept = subst (λ (m : Hardware). IsKept m after) (sym (ap (λ (x : World). x.hardware) worked.rest)) (work-kept w.hardware w after cpu work h.kept worked room meter);
  turned = λ k live.
      still-turned w after (way_in new k) k (work-ways w after cpu work k worked)
      (subst (λ (u : Way). IsTurned w u k) (sym (ap (λ (m : FinMap nat_cmp Way). unwrap_or (get m k.0) no_way) ways)) (h.turned k (ap (λ (x : World). is_live x k) (sym worked.rest) ∙ live)));
  clear = subst AreClear (sym worked.rest) h.clear;
}

pub none-only : (running : List (Option TaskNo)) (task : TaskNo) (r : Option CpuNo) → IfNone r ((cpu : CpuNo) → slice_index_or running cpu.0 None ≡ Some task → ⊥)
    → IfNone r ((cpu : CpuNo) → is_task (slice_index_or running cpu.0 None) task ≡ false)
none-only running task None nowhere = task-nowhere running task nowhere
none-only running task (Some c) nowhere = tt

-- one account that was turned
pub one-settled : (p : Places) (t new : Columns) (k : Key) (u : Way) → new ≡ put_way k u t → IsTurned (bare t p) u k → HasSettled (k ∷ []) p t new
one-settled p t new k u is turned = record {
  same = is ∙ ap (λ (ways : FinMap nat_cmp Way). record t { ways = ways }) (sym (ap (λ (x : Columns). x.ways) is));
  turned = λ j some.
      let here : j ≡ k = key-is j k (only j some) in
      subst (λ (v : Way). IsTurned (bare t p) v j) (sym (ap (λ (x : Columns). way_in x j) is ∙ ap (λ o. unwrap_or o no_way) (get-here t.ways k.0 u j.0 (only j some))))
      (subst (λ (q : Key). IsTurned (bare t p) u q) (sym here) turned);
  others = λ j none. ap (λ (x : Columns). way_in x j) is ∙ ap (λ o. unwrap_or o no_way) (get-there t.ways k.0 u j.0 (apart j none));
}
  where
    only : (j : Key) → 1 ≤ times j (k ∷ []) → j.0 ≡ k.0
    only j some = elim (cases_eq j.0 k.0) [
      | inl e ↦ e
      | inr off ↦ absurd (omega (arith, some, times-cons j k [], once-false (is_key j k) (is_key-other j k (λ e. off (sym e)))))
    ]

    apart : (j : Key) → times j (k ∷ []) ≡ 0 → j.0 ≡ k.0 → ⊥
    apart j none e = omega (arith, none, times-cons j k [], once-true (is_key j k) (is_key-same j k (sym e)))

-- a key that is not the only one of a list
pub not-only : (k j : Key) → times j (k ∷ []) ≡ 0 → j.0 ≡ k.0 → ⊥
not-only k j none e = omega (arith, none, times-cons j k [], once-true (is_key j k) (is_key-same j k (sym e)))

-- a sibling is not its leader
pub sibling-apart : (hw : Hardware) (w : World) (key k : Key) → IsKept hw w → 1 ≤ times k (after_first (entry_at w key).members) → k.0 ≡ key.0 → ⊥
sibling-apart hw w key k h among same =
    let is : k ≡ key = key-is k key same in
    let all : times key (entry_at w key).members ≡ once_if (is_member_of (post_at w) key key) = h.linked.members key key in
    let some : 1 ≤ times key (after_first (entry_at w key).members) = subst (λ (q : Key). 1 ≤ times q (after_first (entry_at w key).members)) is among in
    let more : times key (after_first (entry_at w key).members) ≤ times key (entry_at w key).members = after-times key (entry_at w key).members in
    let mine : is_member_of (post_at w) key key ≡ true = once-both (is_member_of (post_at w) key key) (omega (arith, some, more, all)) in
    let first : (entry_at w key).members ≡ key ∷ after_first (entry_at w key).members = h.grouped.leader_first key mine in
    let own : is_key key key ≡ true = grind (arith, nat_tests) in
    omega (arith, some, all, ap (times key) first, times-cons key key (after_first (entry_at w key).members), once-true (is_key key key) own, once-true (is_member_of (post_at w) key key) mine)
