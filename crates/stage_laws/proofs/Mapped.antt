-- Each step keeps that the rings that events write to were mapped: what writes elsewhere weighs nothing.
use Rattle.std.specs.Prelude.{◌≡◌, ℕ, ◌≤◌, ◌<◌, ◌==◌, Bool, true, false, not, cond, ◌||◌, IsTrue, List, [], ◌∷◌, ◌++◌, find, length, Option, Some, None, if◌then◌else◌}
use Rattle.std.{specs.List.{list_any}, proofs.{Common.{arith, refl, ap, ◌∙◌, sym}, lemmas.{Bool.Decides.{nat_tests}, List.Folds.{list_any-append}}}}
use Rattle.perf_base.specs.declared.{numbers.{CpuNo.{CpuNo}, EventNo.{EventNo}, RingNo.{RingNo}, TaskNo.{TaskNo}}, attr.Attr.{Attr}}
use Rattle.perf_base.specs.declared.{lines.{CpuLine.{CpuLine}, ToolLine.{ToolLine}}, reasons.Reason.{Reason}, standing.Own.{Own}}
use Rattle.perf_base.specs.Contexts.{context_of}
use Rattle.perf_base.specs.declared.lines.CpuLine.TheVariants as cpu_line
use Rattle.perf_base.specs.declared.lines.ToolLine.TheVariants as tool_line
use Rattle.stage_spec.specs.{declared.instance.Instance.{Instance}, Hardware.{Hardware}}
use Rattle.stage_spec.specs.{Stage.{Stage, no_groups, place_of, all_instances, change_each, is_original, task_on, first_stage}, Verdict.{task_lists}}
use Rattle.stage_spec.specs.{Settle.{settle_all}, Opening.{placed, new_original, opened}}
use Rattle.stage_spec.specs.Commands.{is_reached, command_each, with_period, enabled, disabled, targets}
use Rattle.stage_spec.specs.{Mapping.{ring_of_instance, ring_of, set_ring, mapped_to, output_to}, Closing.{closed}, Rotation.{rotated}}
use Rattle.stage_spec.specs.{Forks.{forked}, Exits.{exited}, Switching.{switched}}
use Rattle.stage_spec.specs.History.{Step, CpuStep, ToolStep, SeenStep, cpu_refusal, tool_refusal, cpu_changed, tool_changed, stage_step, unless_refused}
use Rattle.stage_spec.specs.Limits.{Limits, IsMachine, IsWithin, HasShape}
use Rattle.stage_spec.proofs.Shape.{settle_all-numbers, switched-numbers, rotated-numbers, exited-numbers}
use Rattle.stage_laws.{specs.Sound.{AreMapped, IsSound}, proofs.Totals.{total, total-replicate, total-by_All, All-by_total, as_number}}
use Rattle.stage_laws.proofs.Weights.{lists_weight, weigh, no_groups-weigh, weigh-is-total, weigh-le, change_each-weighs, change_each-keeps, settle_all-weighs, switched-weighs, rotated-weighs, closed-le, exited-le}
use Rattle.stage_laws.proofs.{Gains.{copied-none, forked-le, opened-weighs}, Numbered.{context_of-place}}

-- 1 where a ring that is written to was not mapped
abbrev pub elsewhere : List RingNo → Option RingNo → ℕ
elsewhere mapped None = 0
elsewhere mapped (Some ring) = as_number (not (list_any (λ r. r.0 == ring.0) mapped))

abbrev pub astray : List RingNo → Instance → ℕ
astray mapped i = elsewhere mapped i.ring

-- nothing is astray: the same as that all are mapped
abbrev NoneAstray : Stage → Type 0
NoneAstray s = weigh (astray s.mapped) s ≡ 0

is_there : (b : Bool) → as_number (not b) ≡ 0 → b ≡ true
is_there true h = refl
is_there false h = absurd (omega (arith, h))

there_at : (b : Bool) → b ≡ true → as_number (not b) ≡ 0
there_at b h = ap (λ c. as_number (not c)) h

not_astray : (mapped : List RingNo) (i : Instance) → astray mapped i ≡ 0 → (ring : RingNo) → i.ring ≡ Some ring → IsTrue (list_any (λ r. r.0 == ring.0) mapped)
not_astray mapped i h ring e = is_there (list_any (λ r. r.0 == ring.0) mapped) (sym (ap (elsewhere mapped) e) ∙ h)

weighs_nothing : (mapped : List RingNo) (o : Option RingNo) → ((ring : RingNo) → o ≡ Some ring → IsTrue (list_any (λ r. r.0 == ring.0) mapped)) → elsewhere mapped o ≡ 0
weighs_nothing mapped None h = refl
weighs_nothing mapped (Some ring) h = there_at (list_any (λ r. r.0 == ring.0) mapped) (h ring refl)

abbrev WritesToMapped : List RingNo → Instance → Type 0
WritesToMapped mapped i = (ring : RingNo) → i.ring ≡ Some ring → IsTrue (list_any (λ r. r.0 == ring.0) mapped)

mapped_by_weight : (s : Stage) → NoneAstray s → AreMapped s
mapped_by_weight s h = All-by_total (astray s.mapped) (WritesToMapped s.mapped) (not_astray s.mapped) (all_instances s) (weigh-is-total (astray s.mapped) s ∙ h)

weight_of_mapped : (s : Stage) → AreMapped s → NoneAstray s
weight_of_mapped s h = sym (weigh-is-total (astray s.mapped) s)
    ∙ total-by_All (astray s.mapped) (WritesToMapped s.mapped) (λ i k. weighs_nothing s.mapped i.ring k) (all_instances s) h

-- no ring is mapped, and no weight is added
lighter : (s t : Stage) → t.mapped ≡ s.mapped → weigh (astray s.mapped) t ≤ weigh (astray s.mapped) s → NoneAstray s → NoneAstray t
lighter s t e h none = ap (λ m. weigh (astray m) t) e ∙ omega (arith, h, none)

same_rings : (mapped : List RingNo) (b : Bool) (i j : Instance) → i.ring ≡ j.ring → astray mapped (if b then i else j) ≡ astray mapped j
same_rings mapped true i j h = ap (elsewhere mapped) h
same_rings mapped false i j h = refl

-- some instances are changed, but for their rings
changed-none_astray : (test : Instance → Bool) (change : Instance → Instance) → ((i : Instance) → (change i).ring ≡ i.ring) → (s : Stage)
    → NoneAstray s → NoneAstray (change_each (λ i. if test i then change i else i) s)
changed-none_astray test change h s none =
    change_each-keeps (astray s.mapped) (λ i. if test i then change i else i) (λ i. same_rings s.mapped (test i) (change i) i (h i)) s ∙ none

-- some write to a ring that is mapped, and the others still do, with more rings mapped
ring_set : (before after : List RingNo) (b : Bool) (i : Instance) (ring : Option RingNo) (owner : Bool) → elsewhere after ring ≡ 0 → elsewhere after i.ring ≤ elsewhere before i.ring
    → astray after (if b then record i { ring = ring; mapped = owner } else i) ≤ astray before i
ring_set before after true i ring owner h k = omega (arith, h)
ring_set before after false i ring owner h k = k

set_ring-none_astray : (before after : List RingNo) (e : EventNo) (ring : Option RingNo) (owner : Bool) (s : Stage) → elsewhere after ring ≡ 0
    → ((o : Option RingNo) → elsewhere after o ≤ elsewhere before o) → weigh (astray before) s ≡ 0 → weigh (astray after) (set_ring e ring owner s) ≡ 0
set_ring-none_astray before after e ring owner s h k none = grind (arith, nat_tests, change_each-weighs, weigh-le, ring_set)

either_test : (a b : Bool) → as_number (not (a || b)) ≤ as_number (not a)
either_test true b = omega arith
either_test false true = omega arith
either_test false false = omega arith

more_mapped : (mapped more : List RingNo) (o : Option RingNo) → elsewhere (mapped ++ more) o ≤ elsewhere mapped o
more_mapped mapped more None = omega arith
more_mapped mapped more (Some ring) = grind (arith, nat_tests, list_any-append, either_test)

last_mapped : (mapped : List RingNo) (ring : RingNo) → elsewhere (mapped ++ ring ∷ []) (Some ring) ≡ 0
last_mapped mapped ring = grind (arith, nat_tests, there_at, list_any-append)

mapped_to-none_astray : (e : EventNo) (ring : RingNo) (s : Stage) → NoneAstray s → NoneAstray (mapped_to e ring s)
unfolding mapped_to
mapped_to-none_astray e ring s none = set_ring-none_astray s.mapped (s.mapped ++ ring ∷ []) e (Some ring) true s (last_mapped s.mapped ring) (more_mapped s.mapped (ring ∷ [])) none

-- the ring of an event that is there was mapped
found : (mapped : List RingNo) (b : Bool) (x : Instance) (o : Option Instance) → elsewhere mapped x.ring ≡ 0 → elsewhere mapped (ring_of_instance o) ≡ 0
    → elsewhere mapped (ring_of_instance (cond b (Some x) o)) ≡ 0
found mapped true x o h k = h
found mapped false x o h k = k

found_mapped : (mapped : List RingNo) (test : Instance → Bool) (xs : List Instance) → total (astray mapped) xs ≡ 0 → elsewhere mapped (ring_of_instance (find test xs)) ≡ 0
unfolding total
found_mapped mapped test [] h = refl
found_mapped mapped test (x ∷ xs) h = grind (arith, nat_tests, found, found_mapped mapped test xs (omega (arith, h)))

output_to-none_astray : (e target : EventNo) (s : Stage) → NoneAstray s → NoneAstray (output_to e target s)
unfolding output_to
output_to-none_astray e target s none =
    set_ring-none_astray s.mapped s.mapped e (ring_of s target) false s
    (found_mapped s.mapped (is_original target) (all_instances s) (weigh-is-total (astray s.mapped) s ∙ none)) (λ o. omega arith) none

command_each-none_astray : (change : Own → Own) (events : List EventNo) (s : Stage) → NoneAstray s → NoneAstray (command_each change events s)
unfolding command_each
command_each-none_astray change events s none = changed-none_astray (is_reached events) (λ i. record i { own = change i.own }) (λ i. refl) s none

with_period-none_astray : (e : EventNo) (period : ℕ) (s : Stage) → NoneAstray s → NoneAstray (with_period e period s)
unfolding with_period
with_period-none_astray e period s none = changed-none_astray (is_original e) (λ i. record i { attr = record i.attr { period = period } }) (λ i. refl) s none

closed-none_astray : (e : EventNo) (s : Stage) → NoneAstray s → NoneAstray (closed e s)
unfolding closed
closed-none_astray e s none = omega (arith, closed-le (astray s.mapped) e s, none)

-- new events and copies write nowhere
pub placed-mapped : (leader : Option EventNo) (i : Instance) (s : Stage) → (placed leader i s).mapped ≡ s.mapped
placed-mapped None i s = refl
placed-mapped (Some e) i s = refl

pub opened-mapped : (s : Stage) (slot : EventNo) (a : Attr) (leader : Option EventNo) → (opened s slot a leader).mapped ≡ s.mapped
unfolding opened
opened-mapped s slot a leader = placed-mapped leader (new_original s slot a) s

opened-none_astray : (s : Stage) (slot : EventNo) (a : Attr) (leader : Option EventNo) → place_of (context_of a) < length s.contexts → NoneAstray s → NoneAstray (opened s slot a leader)
opened-none_astray s slot a leader h none =
    lighter s (opened s slot a leader) (opened-mapped s slot a leader) (omega (arith, opened-weighs (astray s.mapped) s slot a leader h)) none

forked-none_astray : (cpu : CpuNo) (child : TaskNo) (s : Stage) → NoneAstray s → NoneAstray (forked cpu child s)
unfolding forked
forked-none_astray cpu child s none =
    omega (arith, forked-le (astray s.mapped) cpu child s, copied-none (astray s.mapped) s (λ id i. refl) (task_lists s (task_on s cpu)), none)

-- every step
cpu-none_astray : (hw : Hardware) (cpu : CpuNo) (line : CpuLine) (s : Stage) → NoneAstray s → NoneAstray (cpu_changed hw cpu line s)
cpu-none_astray hw cpu (cpu_line.Switch to) s none =
    lighter s (switched cpu to s) (switched-numbers cpu to s).mapped (omega (arith, switched-weighs (astray s.mapped) cpu to s)) none
cpu-none_astray hw cpu (cpu_line.Work work) s none = none
cpu-none_astray hw cpu cpu_line.Tick s none = lighter s (rotated hw cpu s) (rotated-numbers hw cpu s).mapped (omega (arith, rotated-weighs (astray s.mapped) hw cpu s)) none
cpu-none_astray hw cpu (cpu_line.Fork child) s none = forked-none_astray cpu child s none
cpu-none_astray hw cpu cpu_line.Exit s none = lighter s (exited cpu s) (exited-numbers cpu s).mapped (exited-le (astray s.mapped) cpu s) none

tool-none_astray : (l : Limits) (hw : Hardware) (line : ToolLine) (s : Stage) → IsMachine l hw → IsWithin l (ToolStep line) → HasShape hw s → NoneAstray s → NoneAstray (tool_changed line s)
tool-none_astray l hw (tool_line.Open slot a leader) s m within shape none = opened-none_astray s slot a leader (context_of-place hw l s a m shape within.1) none
tool-none_astray l hw (tool_line.Enable event group) s m within shape none = command_each-none_astray enabled (targets s event group) s none
tool-none_astray l hw (tool_line.Disable event group) s m within shape none = command_each-none_astray disabled (targets s event group) s none
tool-none_astray l hw (tool_line.Reset event group) s m within shape none = none
tool-none_astray l hw (tool_line.Period event period) s m within shape none = with_period-none_astray event period s none
tool-none_astray l hw (tool_line.Read event size) s m within shape none = none
tool-none_astray l hw (tool_line.Map event ring) s m within shape none = mapped_to-none_astray event ring s none
tool-none_astray l hw (tool_line.Output event target) s m within shape none = output_to-none_astray event target s none
tool-none_astray l hw (tool_line.Close event) s m within shape none = closed-none_astray event s none
tool-none_astray l hw (tool_line.Why event) s m within shape none = none
tool-none_astray l hw (tool_line.Seats cpu) s m within shape none = none

unless_refused-none_astray : (hw : Hardware) (r : Option Reason) (change : Stage → Stage) (s : Stage) → NoneAstray s → NoneAstray (change s) → NoneAstray (unless_refused hw r change s)
unless_refused-none_astray hw (Some r) change s none h = none
unless_refused-none_astray hw None change s none h =
    lighter (change s) (settle_all hw (change s)) (settle_all-numbers hw (change s)).mapped (omega (arith, settle_all-weighs (astray (change s).mapped) (λ i o. refl) hw (change s))) h

step-none_astray : (l : Limits) (hw : Hardware) (s : Stage) (x : Step) → IsMachine l hw → IsWithin l x → HasShape hw s → NoneAstray s → NoneAstray (stage_step hw s x)
unfolding stage_step
step-none_astray l hw s (CpuStep cpu line) m within shape none =
    unless_refused-none_astray hw (cpu_refusal s cpu line) (cpu_changed hw cpu line) s none (cpu-none_astray hw cpu line s none)
step-none_astray l hw s (ToolStep line) m within shape none =
    unless_refused-none_astray hw (tool_refusal hw s line) (tool_changed line) s none (tool-none_astray l hw line s m within shape none)
step-none_astray l hw s (SeenStep ring place) m within shape none = none

pub mapped_step : (l : Limits) (hw : Hardware) (s : Stage) (x : Step) → IsMachine l hw → IsWithin l x → IsSound hw s → AreMapped (stage_step hw s x)
mapped_step l hw s x m within sound = mapped_by_weight (stage_step hw s x) (step-none_astray l hw s x m within sound.shape (weight_of_mapped s sound.rings))

pub mapped_first : (n : ℕ) (declared : List TaskNo) → AreMapped (first_stage n declared)
unfolding first_stage
mapped_first n declared = mapped_by_weight (first_stage n declared) (total-replicate (lists_weight (astray [])) 72 no_groups (no_groups-weigh (astray [])))
