-- How many copies a fork makes, by the keys of its parent's context.
use Rattle.std.specs.Prelude.{◌≡◌, ℕ, ◌+◌, ◌<◌, ◌≤◌, nat_lt, Bool, true, false, not, cond, is_some, IfSome, IfNone, List, [], ◌∷◌, length, map, Option, Some, None, if◌then◌else◌}
use Rattle.std.{specs.List.{sum_by}, proofs.{Common.{arith, refl, sym, ap, ◌∙◌}, lemmas.Bool.{Decides.{nat_tests}}}}
use Rattle.std.proofs.{lemmas.List.{length-map}, Math.ListN.{get_or-map}}
use Rattle.perf_base.specs.declared.{numbers.{Key.{Key}}, standing.Context.{Context}}
use Rattle.stage_spec.specs.{Flags.{is_inherited}, Forks.{inherited_groups, new_copies}, Hardware.{Hardware}}
use Rattle.stage_spec.specs.Stage.{Group, group_size, lists_of, place_of}
use Rattle.stage_laws.proofs.Totals.{total-nil, total-cons, sum_by-is-total}
use Rattle.world_spec.specs.{Value.{World, no_leaders, leaders_of, entry_at, instance_at}, StageOf.{group_at, lists_at, stage_of}, Kept.{IsKept}}
use Rattle.world_spec.{specs.Copying.{leaders_in}, proofs.{Families.{group-members}, GoneLeaderStage.{leading-first, leading-rest}}}
use Rattle.world_spec.proofs.GoneStage.{AreLeading, listed-lead}
use Rattle.fork_inherit.specs.Copies.{copies_of, copies_of_all}

-- the leaders of a list
pub list-leads : (hw : Hardware) (w : World) (c : Context) (pinned : Bool) → IsKept hw w → AreLeading w (leaders_in pinned (leaders_of w c))
list-leads hw w c true h = listed-lead w (place_of c) true (leaders_of w c).pinned (λ j. h.linked.pinned j (place_of c))
list-leads hw w c false h = listed-lead w (place_of c) false (leaders_of w c).flexible (λ j. h.linked.flexible j (place_of c))

-- the sizes of inherited groups
sum-cons : {X : Type 0} (f : X → ℕ) (x : X) (xs : List X) → sum_by f (x ∷ xs) ≡ f x + sum_by f xs
sum-cons f x xs = sum_by-is-total f (x ∷ xs) ∙ (total-cons f x xs ∙ ap (λ n. f x + n) (sym (sum_by-is-total f xs)))

one-more : (b : Bool) (g : Group) (gs : List Group) (n : ℕ) → is_inherited g.leader.attr ≡ b → group_size g ≡ n
    → sum_by group_size (inherited_groups (g ∷ gs)) ≡ (if b then n else 0) + sum_by group_size (inherited_groups gs)
one-more true g gs n is size =
    ap (λ c. sum_by group_size (cond c (g ∷ inherited_groups gs) (inherited_groups gs))) is ∙ (sum-cons group_size g (inherited_groups gs) ∙ ap (λ m. m + sum_by group_size (inherited_groups gs)) size)
one-more false g gs n is size = ap (λ c. sum_by group_size (cond c (g ∷ inherited_groups gs) (inherited_groups gs))) is ∙ omega arith

pub copies-sum : (hw : Hardware) (w : World) (keys : List Key) → IsKept hw w → AreLeading w keys → sum_by group_size (inherited_groups (map (group_at w) keys)) ≡ copies_of_all w keys
copies-sum hw w [] h lead = sum_by-is-total group_size [] ∙ (total-nil group_size ∙ sym (sum_by-is-total (copies_of w) [] ∙ total-nil (copies_of w)))
copies-sum hw w (q ∷ keys) h lead =
    one-more (is_inherited (instance_at w q).attr) (group_at w q) (map (group_at w) keys) (length (entry_at w q).members) refl
    (ap length (group-members hw w q h (leading-first w q keys lead)) ∙ length-map (entry_at w q).members (instance_at w))
    ∙ (ap (λ n. copies_of w q + n) (copies-sum hw w keys h (leading-rest w q keys lead)) ∙ sym (sum-cons (copies_of w) q keys))

pub copies-new : (hw : Hardware) (w : World) (c : Context) → IsKept hw w
    → new_copies (lists_of (stage_of w) c) ≡ copies_of_all w (leaders_of w c).pinned + copies_of_all w (leaders_of w c).flexible
copies-new hw w c h =
    ap new_copies (get_or-map (lists_at w) w.contexts (place_of c) no_leaders)
    ∙ (λ i. copies-sum hw w (leaders_of w c).pinned h (list-leads hw w c true h) i + copies-sum hw w (leaders_of w c).flexible h (list-leads hw w c false h) i)

-- whether they have room
less : (m n : ℕ) → m < n → nat_lt m n ≡ true
less m n h = grind (arith, nat_tests, h)

not-less : (m n : ℕ) → n ≤ m → nat_lt m n ≡ false
not-less m n h = grind (arith, nat_tests, h)

pub room-left : (o : Option ℕ) (live first second left n : ℕ) → left + first + live ≡ 4096 → n ≡ first + second → IfSome o (λ r. r + second ≡ left) → IfNone o (left < second)
    → is_some o ≡ not (nat_lt 4096 (live + n))
room-left (Some r) live first second left n room all some none = grind (arith, nat_tests, not-less)
room-left None live first second left n room all some none = grind (arith, nat_tests, less)

pub no-room : (live first second n : ℕ) → 4096 < first + live → n ≡ first + second → ◌≡◌ {A = Bool} false (not (nat_lt 4096 (live + n)))
no-room live first second n full all = ap not (sym (less 4096 (live + n) (omega (arith, full, all))))
