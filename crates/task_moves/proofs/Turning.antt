-- That turning the leaders of contexts is the definitions' rotation.
use Rattle.std.specs.Prelude.{◌≡◌, ℕ, zero, suc, ◌<◌, ◌≤◌, ◌==◌, nat_lt, Bool, true, false, not, ◌&&◌, ◌||◌, List, [], ◌∷◌, ◌++◌, map, find, Option, Some, None, slice_set, if◌then◌else◌}
use Rattle.std.{specs.List.{list_any}, proofs.{Common.{arith, refl, sym, ap, ◌∙◌, inl, inr}, lemmas.Bool.{cases_Bool, Decides.{nat_tests}}}}
use Rattle.std.proofs.{lemmas.List.{map-append}, Math.ListN.{get_or-map}}
use Rattle.perf_base.specs.{declared.{numbers.{CpuNo.{CpuNo}, Key.{Key}}, standing.Context.{Context}}, Standings.{stands_on}}
use Rattle.perf_base.specs.declared.standing.Context.TheVariants as context
use Rattle.stage_spec.specs.{Hardware.{Hardware}, Rotation.{first_goes_last, waits, turned, turn_lists}}
use Rattle.stage_spec.specs.{Stage.{Group, Lists, lists_of, place_of, change_context}, Verdict.{Judged, is_eligible, verdicts, standing_of}}
use Rattle.stage_laws.{specs.Narrowing.{has_context}, proofs.Leaders.{find-first, find-later}}
use Rattle.world_spec.specs.{Changes.{all_but}, Kept.{post_at, leads, leads_in, once_if, IsKept}, Rescheduled.{IsJudged}}
use Rattle.world_spec.specs.StageOf.{group_at, lists_at, stage_of}
use Rattle.world_spec.specs.Value.{World, Leaders, no_leaders, leaders_of, entry_at, standing_at, is_key, times}
use Rattle.world_spec.proofs.Keys.{is_key-same, is_key-other, times-cons, once-true, all_but-cons, all_but-none}
use Rattle.task_moves.specs.Turning.{waits_there, turning, last_if, turn_keys, turn_in}
use Rattle.world_spec.proofs.Copying.{at-most-once}
use Rattle.world_spec.proofs.Coming.{number_true}
use Rattle.stage_laws.proofs.Turns.{goes_last-here, goes_last-away}

-- The first group of a list that passes a test goes last, by its leader.
abbrev number-in : Option Key → ℕ
number-in None = 0
number-in (Some k) = k.0

pub found-there : (p : Key → Bool) (keys : List Key) (k : Key) → find p keys ≡ Some k → 1 ≤ times k keys
found-there p [] k h = absurd (cc)
found-there p (q ∷ keys) k h = elim (cases_Bool (p q)) [
  | inl on ↦
      let same : Some q ≡ Some k = sym (find-first p q keys on) ∙ h in
      let is : q.0 ≡ k.0 = ap (λ o. number-in o) same in
      omega (arith, times-cons k q keys, once-true (is_key k q) (is_key-same k q is))
  | inr off ↦ omega (arith, times-cons k q keys, found-there p keys k (sym (find-later p q keys off) ∙ h))
]

later-by : (f : Key → Group) (test : Group → Bool) (q : Key) (keys : List Key) (o : Option Key) → ((j : Key) → times j (q ∷ keys) ≤ 1) → find (λ k. test (f k)) keys ≡ o → test (f q) ≡ false
    → map f (last_if o keys) ≡ first_goes_last test (map f keys) → map f (last_if o (q ∷ keys)) ≡ first_goes_last test (map f (q ∷ keys))
later-by f test q keys None once found off rest = ap (λ gs. f q ∷ gs) rest ∙ sym (goes_last-away test (f q) (map f keys) off)
later-by f test q keys (Some k) once found off rest =
    let there : 1 ≤ times k keys = found-there (λ j. test (f j)) keys k found in
    let apart : q.0 ≡ k.0 → ⊥ = λ e. omega (arith, once k, there, times-cons k q keys, once-true (is_key k q) (is_key-same k q e)) in
    let but : all_but k (q ∷ keys) ≡ q ∷ all_but k keys = all_but-cons k q keys false (is_key-other k q apart) in
    ap (λ ks. map f (ks ++ k ∷ [])) but ∙ (ap (λ gs. f q ∷ gs) rest ∙ sym (goes_last-away test (f q) (map f keys) off))

last-first : (f : Key → Group) (test : Group → Bool) (keys : List Key) (o : Option Key) → ((q : Key) → times q keys ≤ 1) → find (λ k. test (f k)) keys ≡ o
    → map f (last_if o keys) ≡ first_goes_last test (map f keys)
last-first f test [] None once h = refl
last-first f test [] (Some k) once h = absurd (cc)
last-first f test (q ∷ keys) o once h = elim (cases_Bool (test (f q))) [
  | inl on ↦
      let is : o ≡ Some q = sym h ∙ find-first (λ k. test (f k)) q keys on in
      let none : times q keys ≡ 0 = omega (arith, once q, times-cons q q keys, once-true (is_key q q) (is_key-same q q refl)) in
      let own : all_but q (q ∷ keys) ≡ keys = all_but-cons q q keys true (is_key-same q q refl) ∙ all_but-none q keys none in
      ap (λ x. map f (last_if x (q ∷ keys))) is
      ∙ (ap (λ ks. map f (ks ++ q ∷ [])) own ∙ (map-append f keys (q ∷ []) ∙ sym (goes_last-here test (f q) (map f keys) on)))
  | inr off ↦
      let found : find (λ k. test (f k)) keys ≡ o = sym (find-later (λ k. test (f k)) q keys off) ∙ h in
      let few : (j : Key) → times j keys ≤ 1 = λ j. omega (arith, once j, times-cons j q keys) in
      let rest : map f (last_if o keys) ≡ first_goes_last test (map f keys) = last-first f test keys o few found in
      later-by f test q keys o once found off rest
]

-- Whether some group waits, by groups and by leaders.
some-same : (f : Key → Group) (p : Group → Bool) (r : Key → Bool) (keys : List Key) → ((q : Key) → 1 ≤ times q keys → p (f q) ≡ r q) → list_any p (map f keys) ≡ list_any r keys
some-same f p r [] same = refl
some-same f p r (q ∷ keys) same =
    let first : p (f q) ≡ r q = same q (omega (arith, times-cons q q keys, once-true (is_key q q) (is_key-same q q refl))) in
    let rest : list_any p (map f keys) ≡ list_any r keys = some-same f p r keys (λ j some. same j (omega (arith, some, times-cons j q keys))) in
    λ i. first i || rest i

-- the groups of a list that is turned
turned-list : (hw : Hardware) (cpu : CpuNo) (judged : List Judged) (w : World) (keys : List Key) (b : Bool) → w.hardware ≡ hw → ((q : Key) → times q keys ≤ 1)
    → ((q : Key) → 1 ≤ times q keys → waits hw cpu judged (group_at w q) ≡ waits_there w cpu q) → list_any (waits_there w cpu) keys ≡ b
    → map (group_at w) (last_if (turning w cpu keys) keys) ≡ turned hw cpu judged (map (group_at w) keys)
turned-list hw cpu judged w keys true is once same waiting = grind (arith, nat_tests, last-first, some-same)
turned-list hw cpu judged w keys false is once same waiting = grind (arith, nat_tests, some-same)

map-set : {X Y : Type 0} (f : X → Y) (xs : List X) (i : ℕ) (x : X) → map f (slice_set xs i x) ≡ slice_set (map f xs) i (f x)
map-set f [] i x = refl
map-set f (y ∷ xs) zero x = refl
map-set f (y ∷ xs) (suc i) x = ap (λ ys. f y ∷ ys) (map-set f xs i x)

-- a context that is turned is the stage's
pub turn-stage : (hw : Hardware) (cpu : CpuNo) (judged : List Judged) (w : World) (c : Context) → w.hardware ≡ hw → ((q : Key) → times q (leaders_of w c).flexible ≤ 1)
    → ((q : Key) → 1 ≤ times q (leaders_of w c).flexible → waits hw cpu judged (group_at w q) ≡ waits_there w cpu q)
    → stage_of (turn_in cpu c w) ≡ change_context c (turn_lists hw cpu judged) (stage_of w)
turn-stage hw cpu judged w c is once same =
    let l : Leaders = leaders_of w c in
    let flexible : map (group_at w) (last_if (turning w cpu l.flexible) l.flexible) ≡ turned hw cpu judged (map (group_at w) l.flexible) =
    turned-list hw cpu judged w l.flexible (list_any (waits_there w cpu) l.flexible) is once same refl in
    let lists : lists_at w (turn_keys w cpu l) ≡ turn_lists hw cpu judged (lists_at w l) = ap {B = Lists} (λ gs. record (lists_at w l) { flexible = gs }) flexible in
    let there : lists_of (stage_of w) c ≡ lists_at w l = get_or-map (lists_at w) w.contexts (place_of c) no_leaders in
    grind (arith, nat_tests, map-set, l, lists, there)

-- leaders in the flexible list of a context lead there
flexible-parts : (a b pinned : Bool) → 1 ≤ once_if (a && b && (if pinned then false else true)) → (a ≡ true) × (b ≡ true) × (pinned ≡ false)
flexible-parts true true false h = (refl, refl, refl)
flexible-parts true true true h = absurd (omega (arith, h))
flexible-parts true false pinned h = absurd (omega (arith, h))
flexible-parts false b pinned h = absurd (omega (arith, h))

pub flexible-there : (hw : Hardware) (w : World) (c : Context) (q : Key) → IsKept hw w → 1 ≤ times q (leaders_of w c).flexible
    → (leads (post_at w) q ≡ true) × (place_of (entry_at w q).context == place_of c ≡ true) × ((entry_at w q).pinned ≡ false)
flexible-there hw w c q h some =
    flexible-parts (leads (post_at w) q) (place_of (entry_at w q).context == place_of c) (entry_at w q).pinned (omega (arith, some, h.linked.flexible q (place_of c)))

pub flexible-once : (hw : Hardware) (w : World) (c : Context) → IsKept hw w → (q : Key) → times q (leaders_of w c).flexible ≤ 1
flexible-once hw w c h q = omega (arith, h.linked.flexible q (place_of c), at-most-once (leads_in (post_at w) (place_of c) false q))

-- contexts go by their places
own-place : (n : ℕ) (b : Bool) → nat_lt n 8 ≡ b → (if nat_lt n 8 then n else 72) < 72 → (n < 8) × ((if nat_lt n 8 then n else 72) ≡ n)
own-place n true h low = (grind (arith, nat_tests, h), ap (λ b. if b then n else 72) h)
own-place n false h low = absurd (omega (arith, low, ap (λ b. if b then n else 72) h))

pub one-context : (a b : Context) → place_of b < 72 → place_of a ≡ place_of b → a ≡ b
one-context (context.Processor m) (context.Processor n) low same = grind (arith, nat_tests, own-place)
one-context (context.Processor m) (context.Task u) low same = grind (arith, nat_tests, own-place)
one-context (context.Task t) (context.Processor n) low same = grind (arith, nat_tests, own-place)
one-context (context.Task t) (context.Task u) low same = grind (arith, nat_tests)

-- where a processor was judged, a group in one of its contexts waits by where it stands
pub waits-same : (hw : Hardware) (w : World) (cpu : CpuNo) (c : Context) → IsKept hw w → w.hardware ≡ hw → IsJudged hw w cpu → place_of c < 72 → has_context (stage_of w) cpu c ≡ true
    → (q : Key) → 1 ≤ times q (leaders_of w c).flexible → waits hw cpu (verdicts hw (stage_of w) cpu) (group_at w q) ≡ waits_there w cpu q
waits-same hw w cpu c h is judged low has q some =
    let there : (leads (post_at w) q ≡ true) × (place_of (entry_at w q).context == place_of c ≡ true) × ((entry_at w q).pinned ≡ false) = flexible-there hw w c q h some in
    let at : (entry_at w q).context ≡ c = one-context (entry_at w q).context c low (number_true (place_of (entry_at w q).context) (place_of c) there.1) in
    let stands : standing_at w q ≡ standing_of hw (stage_of w) cpu (group_at w q) = judged.standings q there.0 (ap (has_context (stage_of w) cpu) at ∙ has) in
    λ i. is_eligible (sym is i) cpu (group_at w q) && not (stands_on (sym stands i))

-- the leader that is turned stands in the list
pub turning-there : (w : World) (cpu : CpuNo) (keys : List Key) (k : Key) → turning w cpu keys ≡ Some k → 1 ≤ times k keys
turning-there w cpu keys k h = grind (arith, nat_tests, found-there)
