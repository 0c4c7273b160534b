-- The processors that reach some families on the stage are those that reach the instances of their keys.
use Rattle.std.specs.{Prelude.{◌≡◌, ℕ, ◌+◌, ◌<◌, ◌≤◌, ◌==◌, ◌↔◌, Bool, true, false, ◌&&◌, List, [], ◌∷◌, ◌++◌, length, map, flat_map}, Int.{bit_at}}
use Rattle.std.{specs.List.{list_any}, proofs.{Common.{arith, refl, sym, ap, ◌∙◌, inl, inr}, lemmas.Bool.{and_parts, cases_eq, cases_Bool, eq-eqb}}}
use Rattle.std.proofs.lemmas.Bool.Decides.{nat_tests}
use Rattle.perf_base.specs.{Cpus.{HasCpu}, declared.numbers.{CpuNo.{CpuNo}, CpuSet.{CpuSet}, EventNo.{EventNo}, Key.{Key}}}
use Rattle.perf_base.specs.declared.standing.Context.{Context}
use Rattle.perf_base.specs.declared.standing.Context.TheVariants as context
use Rattle.stage_spec.specs.{Commands.{is_reached}, Hardware.{Hardware, has_cpu}, Stage.{members, place_of, task_on}, Verdict.{reached}}
use Rattle.stage_laws.{specs.Narrowing.{has_context, reaches}, proofs.{Counts.{count-append}, OneByOne.{map-none}, Tasks.{is_task-some}}}
use Rattle.stage_laws.proofs.Totals.{total-cons, total-nil}
use Rattle.world_spec.specs.{Value.{World, Leaders, leaders_of, is_live, entry_at, instance_at, is_key, times}, StageOf.{group_at, stage_of}}
use Rattle.world_spec.specs.{Kept.{is_member_of, leads, post_at, IsKept}, Listings.{pass_leaders, task_leaders}}
use Rattle.world_spec.proofs.{Coming.{number_true}, Counting.{any-key, any-there, times-flat}}
use Rattle.world_spec.proofs.Families.{leaders_both, leaders-at, members_at, members-are}
use Rattle.world_spec.proofs.Keys.{key-is, is_key-same, is_key-true, once-true, once-false, times-cons}
use Rattle.world_spec.proofs.{Listings.{passes-are, flat-mapped, reached_leaders, reached-context, reached-leading}, Moving.{leads-parts}}
use Rattle.event_commands.specs.{Changing.{keys_named}, Commands.{AreReached}, Reaching.{reaches_key, is_there, AreReaching}}
use Rattle.event_commands.proofs.Named.{named-reached, reached-named}
use Rattle.world_spec.proofs.Along.{once-both}

-- the keys that a processor reaches
abbrev reached_keys : World → CpuNo → List Key
reached_keys w cpu = flat_map (members_at w) (reached_leaders w cpu)

reached-are : (hw : Hardware) (w : World) (cpu : CpuNo) → IsKept hw w → reached (stage_of w) cpu ≡ map (instance_at w) (reached_keys w cpu)
reached-are hw w cpu h =
    ap (λ ps. members (flat_map (λ p. p) ps)) (passes-are w cpu)
    ∙ (ap members (flat-mapped (group_at w) (pass_leaders w cpu)) ∙ members-are hw w h (reached_leaders w cpu) (reached-leading hw w h cpu))

-- a member of a group of some leaders
from-group : (w : World) (k : Key) (leaders : List Key) → 1 ≤ times k (flat_map (members_at w) leaders) → (q : Key) × (1 ≤ times q leaders) × (1 ≤ times k (members_at w q))
from-group w k [] some = absurd (omega (arith, some))
from-group w k (q ∷ leaders) some = elim (cases_eq (times k (members_at w q)) 0) [
  | inl none ↦
      let rest = from-group w k leaders (omega (arith, some, none, count-append (is_key k) (members_at w q) (flat_map (members_at w) leaders))) in
      (rest.0, omega (arith, rest.1, times-cons rest.0 q leaders), rest.2)
  | inr more ↦ (q, omega (arith, times-cons q q leaders, once-true (is_key q q) (is_key-same q q refl)), omega (arith, more))
]

in-group : (w : World) (k q : Key) (leaders : List Key) → 1 ≤ times q leaders → 1 ≤ times k (members_at w q) → 1 ≤ times k (flat_map (members_at w) leaders)
in-group w k q [] some member = absurd (omega (arith, some))
in-group w k q (m ∷ leaders) some member = elim (cases_Bool (is_key q m)) [
  | inl same ↦ grind (arith, nat_tests, members_at, key-is, is_key-true, same, count-append)
  | inr apart ↦
      let rest : 1 ≤ times k (flat_map (members_at w) leaders) = in-group w k q leaders (omega (arith, some, times-cons q m leaders, once-false (is_key q m) apart)) member in
      omega (arith, rest, count-append (is_key k) (members_at w m) (flat_map (members_at w) leaders))
]

-- a leader in a context of the processor is among those of its passes
abbrev four : Leaders → Leaders → List Key
four own task = own.pinned ++ (task.pinned ++ (own.flexible ++ (task.flexible ++ [])))

four-times : (q : Key) (own task : Leaders) → times q (four own task) ≡ times q (leaders_both own) + times q (leaders_both task)
four-times q own task = grind (arith, nat_tests, times-flat, total-cons, total-nil, count-append)

leader-listed : (hw : Hardware) (w : World) (cpu : CpuNo) (q : Key) (c : Context) → IsKept hw w → leads (post_at w) q ≡ true → (entry_at w q).context ≡ c
    → has_context (stage_of w) cpu c ≡ true → 1 ≤ times q (reached_leaders w cpu)
leader-listed hw w cpu q (context.Processor other) h lead is has =
    let own : Leaders = leaders_of w (context.Processor cpu) in
    let task : Leaders = task_leaders w (task_on (stage_of w) cpu) in
    let place : ℕ = place_of (context.Processor cpu) in
    let same : place_of (entry_at w q).context ≡ place = ap place_of is ∙ ap (λ n. place_of (context.Processor (record { 0 = n }))) (number_true other.0 cpu.0 has) in
    let here : (leads (post_at w) q && place_of (entry_at w q).context == place) ≡ true = ap (λ b. b && place_of (entry_at w q).context == place) lead ∙ (ap (λ n. n == place) same ∙ eq-eqb place place refl) in
    omega (arith, four-times q own task, leaders-at hw w h q place, once-true (leads (post_at w) q && place_of (entry_at w q).context == place) here)
leader-listed hw w cpu q (context.Task t) h lead is has =
    let own : Leaders = leaders_of w (context.Processor cpu) in
    let place : ℕ = 8 + t.0 in
    let here : (leads (post_at w) q && place_of (entry_at w q).context == place) ≡ true = ap (λ b. b && place_of (entry_at w q).context == place) lead ∙ (ap (λ x. place_of x == place) is ∙ eq-eqb place place refl) in
    let lists : times q (four own (task_leaders w (task_on (stage_of w) cpu))) ≡ times q (four own (leaders_of w (context.Task t))) =
    ap (λ o. times q (four own (task_leaders w o))) (is_task-some (task_on (stage_of w) cpu) t has) in
    omega (
      arith,
      lists,
      four-times q own (leaders_of w (context.Task t)),
      leaders-at hw w h q place,
      once-true (leads (post_at w) q && place_of (entry_at w q).context == place) here,
    )

-- a key is reached where its context is one of the processor's
reached-key : (hw : Hardware) (w : World) (cpu : CpuNo) (k : Key) → IsKept hw w → 1 ≤ times k (reached_keys w cpu) → (is_live w k ≡ true) × (reaches_key w cpu k ≡ true)
reached-key hw w cpu k h some =
    let at = from-group w k (reached_leaders w cpu) some in
    let parts = leads-parts (is_live w k) (is_key at.0 (entry_at w k).leader) (once-both (is_member_of (post_at w) at.0 k) (omega (arith, at.2, h.linked.members k at.0))) in
    grind (arith, nat_tests, key-is, is_key-true, reached-context)

key-reached : (hw : Hardware) (w : World) (cpu : CpuNo) (k : Key) → IsKept hw w → is_live w k ≡ true → reaches_key w cpu k ≡ true → 1 ≤ times k (reached_keys w cpu)
key-reached hw w cpu k h live has =
    let m : Key = (entry_at w k).leader in
    let member : is_member_of (post_at w) m k ≡ true = ap (λ b. b && is_key m m) live ∙ is_key-same m m refl in
    in-group w k m (reached_leaders w cpu) (leader-listed hw w cpu m (entry_at w k).context h (h.grouped.led k live) (h.grouped.together k live) has)
    (omega (arith, h.linked.members k m, once-true (is_member_of (post_at w) m k) member))

-- so are families
both-or-none : (a b : Bool) → (a ≡ true → b ≡ true) → (b ≡ true → a ≡ true) → a ≡ b
both-or-none true b to from = sym (to refl)
both-or-none false true to from = from refl
both-or-none false false to from = refl

pub reaches-are : (hw : Hardware) (w : World) (events : List EventNo) (cpu : CpuNo) → IsKept hw w → reaches (stage_of w) events cpu ≡ list_any (reaches_key w cpu) (keys_named w events)
reaches-are hw w events cpu h =
    let named : List Key = keys_named w events in
    both-or-none (reaches (stage_of w) events cpu) (list_any (reaches_key w cpu) named)
    (λ has.
    let k = any-key (is_reached events) (instance_at w) (reached_keys w cpu) (ap (list_any (is_reached events)) (sym (reached-are hw w cpu h)) ∙ has) in
    let parts = reached-key hw w cpu k.0 h k.1 in
    ap (list_any (reaches_key w cpu)) (sym (map-none named))
    ∙ any-there (reaches_key w cpu) (λ q. q) k.0 named (reached-named hw w events k.0 h parts.0 k.2) parts.1)
    (λ has.
    let k = any-key (reaches_key w cpu) (λ q. q) named (ap (list_any (reaches_key w cpu)) (map-none named) ∙ has) in
    let parts = named-reached hw w events k.0 h k.1 in
    ap (list_any (is_reached events)) (reached-are hw w cpu h)
    ∙ any-there (is_reached events) (instance_at w) k.0 (reached_keys w cpu) (key-reached hw w cpu k.0 h parts.0 k.2) parts.1)

-- the set that is answered
any-there_if : (b : Bool) (p : Key → Bool) (keys : List Key) → list_any (λ k. b && p k) keys ≡ (b && list_any p keys)
any-there_if true p keys = refl
any-there_if false p keys = none-passes keys
  where
    none-passes : (ks : List Key) → list_any (λ (k : Key). false) ks ≡ false
    none-passes [] = refl
    none-passes (k ∷ ks) = none-passes ks

set-reaches : (hw : Hardware) (w : World) (events named : List EventNo) (set : CpuSet) (cpu : CpuNo) → IsKept hw w → AreReaching w (keys_named w events) set → events ≡ named
    → has_cpu cpu.0 set ≡ (is_there w cpu && reaches (stage_of w) named cpu)
set-reaches hw w events named set cpu h are same =
    are cpu
    ∙ (any-there_if (is_there w cpu) (reaches_key w cpu) (keys_named w events)
    ∙ ap (λ b. is_there w cpu && b) (sym (reaches-are hw w events cpu h) ∙ ap (λ es. reaches (stage_of w) es cpu) same))

is-there : (w : World) (cpu : CpuNo) → cpu.0 < length w.quiet.running → is_there w cpu ≡ true
is-there w cpu low = grind (arith, nat_tests, low)

there-low : (w : World) (cpu : CpuNo) → is_there w cpu ≡ true → cpu.0 < length w.quiet.running
there-low w cpu there = grind (arith, nat_tests, there)

one-is : (n : ℕ) → n ≡ 1 → (n == 1) ≡ true
one-is n e = grind (arith, nat_tests, e)

in-set : (set : CpuSet) (cpu : CpuNo) (b : Bool) → has_cpu cpu.0 set ≡ b → HasCpu set cpu ↔ (b ≡ true)
in-set set cpu b is = (λ has. sym is ∙ one-is (bit_at set.0 cpu.0) has, λ e. number_true (bit_at set.0 cpu.0) 1 (is ∙ e))

out-of_set : (set : CpuSet) (cpu : CpuNo) (b : Bool) → has_cpu cpu.0 set ≡ b → (HasCpu set cpu → ⊥) → b ≡ false
out-of_set set cpu true is out = absurd (out ((in-set set cpu true is).1 refl))
out-of_set set cpu false is out = refl

pub answered : (hw : Hardware) (w : World) (events named : List EventNo) (set : CpuSet) → IsKept hw w → AreReaching w (keys_named w events) set → events ≡ named → AreReached named w set
answered hw w events named set h are same = record {
  reaching = λ cpu low.
      in-set set cpu (reaches (stage_of w) named cpu)
      (set-reaches hw w events named set cpu h are same ∙ ap (λ b. b && reaches (stage_of w) named cpu) (is-there w cpu low));
  within = λ cpu has.
      there-low w cpu
      (and_parts (is_there w cpu) (reaches (stage_of w) named cpu)
      ((in-set set cpu (is_there w cpu && reaches (stage_of w) named cpu) (set-reaches hw w events named set cpu h are same)).0 has)).0;
}

pub not-answered : (hw : Hardware) (w : World) (events named : List EventNo) (set : CpuSet) (cpu : CpuNo) → IsKept hw w → AreReaching w (keys_named w events) set → events ≡ named
    → cpu.0 < length w.quiet.running → (HasCpu set cpu → ⊥) → reaches (stage_of w) named cpu ≡ false
not-answered hw w events named set cpu h are same low out =
    out-of_set set cpu (reaches (stage_of w) named cpu)
    (set-reaches hw w events named set cpu h are same ∙ ap (λ b. b && reaches (stage_of w) named cpu) (is-there w cpu low)) out
