-- How many tests of counters rescheduling some processors takes.
use Rattle.std.specs.Prelude.{◌≡◌, ℕ, suc, zero, ◌+◌, ◌*◌, ◌<◌, ◌≤◌, ◌==◌, Bool, true, false, not, ◌&&◌, List, [], ◌∷◌, ◌++◌, length, map, filter, flat_map, cond, Option, Some, None, if◌then◌else◌}
use Rattle.std.{specs.List.{sum_by}, proofs.{Common.{arith, refl, sym, ap, subst, ◌∙◌}, lemmas.Bool.{cases_lt, and_right}}}
use Rattle.std.proofs.lemmas.List.{length-map, map-append, Elements.{filter-append}, Sums.{sum_by-append, sum_by-cons}}
use Rattle.perf_base.specs.declared.{lines.{CpuLine.{CpuLine}, ToolLine.{ToolLine}, Work.{Work}}, numbers.{CpuNo.{CpuNo}, CpuSet.{CpuSet}}}
use Rattle.perf_base.specs.declared.{reasons.Reason.{Reason}, standing.Standing.{Standing}}
use Rattle.perf_base.specs.declared.lines.CpuLine.TheVariants as line
use Rattle.stage_spec.specs.{Hardware.{Hardware, mask_of}}
use Rattle.stage_spec.specs.{History.{Step, CpuStep, ToolStep, cpu_refusal, tool_refusal, cpu_changed}}
use Rattle.stage_spec.specs.{Replies.{seated}, Stage.{Stage, Group}, Verdict.{Judged, is_eligible, passes, verdicts}}
use Rattle.stage_laws.specs.{Narrowing.{changed, cpu_touches, tool_touches, touches, unless_left, unless_no}, Briefs.{GroupBrief}}
use Rattle.stage_laws.{specs.Standings.{brief_of, briefs, standings}, proofs.Briefs.{by_briefs}}
use Rattle.world_spec.specs.{Rescheduled.{IsRescheduled}, StageOf.{stage_of}, Value.{World, seats_at}}
use Rattle.world_spec.proofs.Standing.{briefs-joined, passes-groups}
use Rattle.cpu_sched.specs.{After.{after_brief}, Briefs.{present_brief}, Sheets.{Held}, Tried.{tried, tries, tries_for}}
use Rattle.machine.specs.Counted.{AreCounted, AreCountedUnless, IsCounted, IsCountedBy, IsServedBy, Serves, is_idle_line, rescheduled_by, seats_of}
use Rattle.machine.{specs.Settled.{is_in}, proofs.{Keeping.{filter-below, one-below}, Settling.{cpus_below}}}

-- as many events are seated as are on
pub seats-count : (hw : Hardware) (w : World) (cpu : CpuNo) → IsRescheduled hw w cpu → length (seats_at w cpu).events ≡ length (seated hw (stage_of w) cpu)
seats-count hw w cpu h = ap length h.judged.served.events ∙ length-map (seated hw (stage_of w) cpu) (λ i. (i.event, mask_of hw i.attr.kind))

-- what is tried for goes by briefs
abbrev tried_one : GroupBrief ℕ → Standing → ℕ
tried_one b s = tries_for s (length b.counted)

tried_by : List (GroupBrief ℕ) → List (ℕ × Standing) → ℕ
tried_by [] xs = 0
tried_by (b ∷ bs) [] = 0
tried_by (b ∷ bs) (x ∷ xs) = tried_one b x.1 + tried_by bs xs

tried-all : (hw : Hardware) (js : List Judged) → sum_by (λ j. tries j.standing j.group) js ≡ tried_by (map (brief_of hw) (map (λ j. j.group) js)) (map (λ j. (j.group.leader.id, j.standing)) js)
unfolding tried_by
tried-all hw [] = refl
tried-all hw (j ∷ js) = search (length-map, sum_by-cons, tried-all hw js)

tried-is : (hw : Hardware) (s : Stage) (cpu : CpuNo) → tried hw s cpu ≡ tried_by (flat_map (λ q. q) (briefs hw s cpu)) (standings hw s cpu)
unfolding verdicts
tried-is hw s cpu =
    let ps : List (List Group) = map (filter (is_eligible hw cpu)) (passes s cpu) in
    tried-all hw (verdicts hw s cpu)
    ∙ ap (λ bs. tried_by bs (standings hw s cpu)) (ap (map (brief_of hw)) (passes-groups hw [] ps) ∙ briefs-joined hw (is_eligible hw cpu) (passes s cpu))

pub same-tried : (hw : Hardware) (s t : Stage) (cpu : CpuNo) → briefs hw s cpu ≡ briefs hw t cpu → tried hw s cpu ≡ tried hw t cpu
same-tried hw s t cpu same = grind (arith, tried-is, by_briefs)

-- sums over the processors below a number
below-more : (n : ℕ) → cpus_below (n + 1) ≡ cpus_below n ++ record { 0 = n } ∷ []
below-more n = grind (arith, cpus_below, map-append)

one-sum : (f : CpuNo → ℕ) (p : CpuNo → Bool) (cpu : CpuNo) (b : Bool) → p cpu ≡ b → sum_by f (filter p (cpu ∷ [])) ≡ (if b then f cpu else 0)
one-sum f p cpu true is = ap (λ b. sum_by f (cond b (cpu ∷ []) [])) is ∙ (let alone : 0 + f cpu ≡ f cpu = omega arith in alone)
one-sum f p cpu false is = ap (λ b. sum_by f (cond b (cpu ∷ []) [])) is

sum-more : (f : CpuNo → ℕ) (p : CpuNo → Bool) (n : ℕ) (b : Bool) → p (record { 0 = n }) ≡ b
    → sum_by f (filter p (cpus_below (n + 1))) ≡ sum_by f (filter p (cpus_below n)) + (if b then f (record { 0 = n }) else 0)
sum-more f p n b is = grind (arith, below-more, filter-append, cpus_below, sum_by-append, one-sum)

sum-same : (f g : CpuNo → ℕ) (p : CpuNo → Bool) (n : ℕ) → ((cpu : CpuNo) → cpu.0 < n → f cpu ≡ g cpu) → sum_by f (filter p (cpus_below n)) ≡ sum_by g (filter p (cpus_below n))
sum-same f g p zero same = refl
sum-same f g p (suc n) same =
    let one : n + 1 ≡ suc n = omega arith in
    let cpu : CpuNo = record { 0 = n } in
    let rest : sum_by f (filter p (cpus_below n)) ≡ sum_by g (filter p (cpus_below n)) = sum-same f g p n (λ c low. same c (omega (arith, low))) in
    let here : (if p cpu then f cpu else 0) ≡ (if p cpu then g cpu else 0) = ap (λ m. if p cpu then m else 0) (same cpu (omega arith)) in
    subst (λ m. sum_by f (filter p (cpus_below m)) ≡ sum_by g (filter p (cpus_below m))) one
    (sum-more f p n (p cpu) refl ∙ ((λ i. rest i + here i) ∙ sym (sum-more g p n (p cpu) refl)))

-- one processor more: the tests so far, by the seats of those that were rescheduled
pub least-next : (set : CpuSet) (n : ℕ) (w x : World) (b : Bool) (first before now : ℕ) → is_in set (record { 0 = n }) ≡ b
    → ((cpu : CpuNo) → cpu.0 < n → length (seats_at x cpu).events ≡ length (seats_at w cpu).events)
    → first + sum_by (λ cpu. length (seats_at w cpu).events) (filter (is_in set) (cpus_below n)) ≤ before
    → before + (if b then length (seats_at x (record { 0 = n })).events else 0) ≤ now
    → first + sum_by (λ cpu. length (seats_at x cpu).events) (filter (is_in set) (cpus_below (n + 1))) ≤ now
least-next set n w x b first before now is same so more = grind (arith, sum-more, sum-same)

pub most-next : (set : CpuSet) (n : ℕ) (f : CpuNo → ℕ) (b : Bool) (here first before now : ℕ) → is_in set (record { 0 = n }) ≡ b → here ≡ f (record { 0 = n })
    → before ≤ first + 272 * sum_by f (filter (is_in set) (cpus_below n)) → now ≤ before + 272 * (if b then here else 0)
    → now ≤ first + 272 * sum_by f (filter (is_in set) (cpus_below (n + 1)))
most-next set n f true here first before now is same so more = omega (arith, same, so, more, sum-more f (is_in set) n true is)
most-next set n f false here first before now is same so more = omega (arith, so, more, sum-more f (is_in set) n false is)

-- all of them
pub counted-all : (hw : Hardware) (set : CpuSet) (n size : ℕ) (s : Stage) (x : World) (first now : ℕ) → size ≡ n → ((cpu : CpuNo) → cpu.0 < n → IsRescheduled hw x cpu)
    → first + sum_by (λ cpu. length (seats_at x cpu).events) (filter (is_in set) (cpus_below n)) ≤ now
    → now ≤ first + 272 * sum_by (tried hw s) (filter (is_in set) (cpus_below n))
    → AreCounted hw s (stage_of x) (filter (is_in set) (cpus_below size)) first now
counted-all hw set n size s x first now whole done least most =
    subst (λ m. AreCounted hw s (stage_of x) (filter (is_in set) (cpus_below m)) first now) (sym whole) (record {
      least = omega (
        arith,
        least,
        sum-same (λ cpu. length (seats_at x cpu).events) (λ cpu. length (seated hw (stage_of x) cpu)) (is_in set) n (λ cpu low. seats-count hw x cpu (done cpu low)),
      );
      most = most;
    })

pub counted-by : (sheet : Option Held) (w v x : World) (cpu : CpuNo) (l : CpuLine) (before now : ℕ) → cpu.0 < length w.quiet.running → cpu_refusal (stage_of w) cpu l ≡ None
    → is_idle_line (stage_of w) cpu l ≡ false → ((other : CpuNo) → cpu_touches cpu l other ≡ (cpu.0 == other.0)) → v.hardware ≡ w.hardware → stage_of v ≡ cpu_changed w.hardware cpu l (stage_of w)
    → present_brief v cpu ≡ after_brief w cpu l → AreCountedUnless (IsServedBy sheet (present_brief v cpu)) (seats_of sheet) v.hardware (stage_of v) (stage_of x) (seats_at x) (cpu ∷ []) before now
    → IsCountedBy sheet (CpuStep cpu l) w x before now
counted-by sheet w v x cpu l before now low accepted busy own hardware stage foreseen h =
    let hw : Hardware = w.hardware in
    let s : Stage = stage_of w in
    let served : Type 0 = Serves sheet w (CpuStep cpu l) in
    let touched : (other : CpuNo) → other.0 < length w.quiet.running → (not (is_idle_line s cpu l) && touches hw s (CpuStep cpu l) other) ≡ (cpu.0 == other.0) = λ other within.
    (λ i. not (busy i) && unless_no (accepted i) (own other i)) in
    let made : stage_of v ≡ changed hw s (CpuStep cpu l) = stage ∙ sym (ap (λ o. unless_left o (cpu_changed hw cpu l) s) accepted) in
    let cpus : rescheduled_by hw s (CpuStep cpu l) ≡ cpu ∷ [] =
    filter-below (λ other. not (is_idle_line s cpu l) && touches hw s (CpuStep cpu l) other) (λ other. cpu.0 == other.0) (length w.quiet.running) touched ∙ one-below cpu (length w.quiet.running) low in
    grind (arith, served, hw, s, cpus, made)

-- a line that reschedules nobody takes none
none-among : (p : CpuNo → Bool) (cs : List CpuNo) → ((cpu : CpuNo) → p cpu ≡ false) → filter p cs ≡ []
none-among p [] off = refl
none-among p (c ∷ cs) off = ap (λ b. cond b (c ∷ filter p cs) (filter p cs)) (off c) ∙ none-among p cs off

counted-none : (x : Step) (w after : World) (n : ℕ) → rescheduled_by w.hardware (stage_of w) x ≡ [] → IsCounted x w after n n
counted-none x w after n none = grind arith

none-by : (sheet : Option Held) (x : Step) (w after : World) (n : ℕ) → rescheduled_by w.hardware (stage_of w) x ≡ [] → IsCountedBy sheet x w after n n
none-by sheet x w after n none =
    subst (λ cs. AreCountedUnless (Serves sheet w x) (seats_of sheet) w.hardware (changed w.hardware (stage_of w) x) (stage_of after) (seats_at after) cs n n) (sym none) (record {
      free = λ served. refl;
      seats = λ served planned is k d low. absurd (omega (arith, low));
      least = λ out. omega arith;
      most = omega arith;
    })

pub refused-counted : (w after : World) (l : ToolLine) (r : Reason) (n : ℕ) → tool_refusal w.hardware (stage_of w) l ≡ Some r → IsCounted (ToolStep l) w after n n
refused-counted w after l r n refused = grind (arith, counted-none, none-among)

-- a line of a tool that touches no processor
pub never-touched : (o : Option Reason) → unless_no o false ≡ false
never-touched None = refl
never-touched (Some r) = refl

pub still-counted : (w after : World) (l : ToolLine) (n : ℕ) → ((cpu : CpuNo) → tool_touches (stage_of w) l cpu ≡ false) → IsCounted (ToolStep l) w after n n
still-counted w after l n still = grind (arith, counted-none, none-among, never-touched)

-- by a sheet, which serves no line of a tool
pub tool-counted : (sheet : Option Held) (w after : World) (l : ToolLine) (before now : ℕ) → IsCounted (ToolStep l) w after before now → IsCountedBy sheet (ToolStep l) w after before now
tool-counted sheet w after l before now h = record { free = λ served. absurd served; seats = λ served. absurd served; least = λ out. h.least; most = h.most }

none-on : (w : World) (cpu : CpuNo) (l : CpuLine) → ((other : CpuNo) → touches w.hardware (stage_of w) (CpuStep cpu l) other ≡ false) → rescheduled_by w.hardware (stage_of w) (CpuStep cpu l) ≡ []
none-on w cpu l off = grind (arith, none-among, and_right)

pub refused-cpu_counted : (sheet : Option Held) (w after : World) (cpu : CpuNo) (l : CpuLine) (r : Reason) (n : ℕ) → cpu_refusal (stage_of w) cpu l ≡ Some r
    → IsCountedBy sheet (CpuStep cpu l) w after n n
refused-cpu_counted sheet w after cpu l r n refused =
    none-by sheet (CpuStep cpu l) w after n (none-on w cpu l (λ other. ap (λ o. unless_no o (cpu_touches cpu l other)) refused))

pub still-cpu_counted : (sheet : Option Held) (w after : World) (cpu : CpuNo) (l : CpuLine) (n : ℕ) → ((other : CpuNo) → cpu_touches cpu l other ≡ false)
    → IsCountedBy sheet (CpuStep cpu l) w after n n
still-cpu_counted sheet w after cpu l n still =
    none-by sheet (CpuStep cpu l) w after n
    (none-on w cpu l (λ other. ap (unless_no (cpu_refusal (stage_of w) cpu l)) (still other) ∙ never-touched (cpu_refusal (stage_of w) cpu l)))

pub idle-counted : (sheet : Option Held) (w after : World) (cpu : CpuNo) (l : CpuLine) (n : ℕ) → is_idle_line (stage_of w) cpu l ≡ true → IsCountedBy sheet (CpuStep cpu l) w after n n
idle-counted sheet w after cpu l n idle = grind (arith, none-by, none-among)

-- a line of work tests no counter
pub work-free : (sheet : Option Held) (w after : World) (cpu : CpuNo) (work : Work) (before now : ℕ) → IsCountedBy sheet (CpuStep cpu (line.Work work)) w after before now → now ≡ before
work-free sheet w after cpu work before now h =
    let none : rescheduled_by w.hardware (stage_of w) (CpuStep cpu (line.Work work)) ≡ [] = search (none-on, never-touched) in
    let served : Type 0 = Serves sheet w (CpuStep cpu (line.Work work)) in
    let counted : AreCountedUnless served (seats_of sheet) w.hardware (changed w.hardware (stage_of w) (CpuStep cpu (line.Work work))) (stage_of after) (seats_at after) [] before now =
    subst (λ cs. AreCountedUnless served (seats_of sheet) w.hardware (changed w.hardware (stage_of w) (CpuStep cpu (line.Work work))) (stage_of after) (seats_at after) cs before now) none h in
    grind (arith, cases_lt)
