-- Nobody in a context takes work where none there samples.
use Rattle.std.specs.Prelude.{◌≡◌, ◌≤◌, ◌==◌, Bool, true, false, cond, List, [], ◌∷◌, ◌++◌, map, filter}
use Rattle.std.proofs.{Common.{arith, refl, ap, ◌∙◌}, lemmas.Bool.{false≢true, Decides.{nat_tests}}}
use Rattle.perf_base.specs.declared.{lines.Work.{Work}, numbers.Key.{Key}, standing.Context.{Context}}
use Rattle.stage_spec.specs.Stage.{place_of}
use Rattle.world_spec.specs.{Value.{World, is_live, entry_at, leaders_of, times}, Kept.{IsKept}}
use Rattle.world_spec.{proofs.{Along.{member-of, once-three}, Keys.{times-cons}}}
use Rattle.world_tables.specs.Places.{picked}
use Rattle.perf_world.specs.Seen.{SomeSamples}
use Rattle.work_account.specs.declared.{happening.Happening.{Happening}, overflowing.Hit.{Hit}}
use Rattle.work_account.{specs.Visits.{takes, hit_at, hits_among, members_at, all_members}, proofs.Among.{hits-append}}
use Rattle.work_account.proofs.Reached.{stands-first}
use Rattle.work_account.specs.declared.happening.Happening.TheVariants as happening

-- who stands in the groups of a context stands in it
listed-place : (w : World) (c : Context) (pinned : Bool) (q : Key) → IsKept w.hardware w → 1 ≤ times q (picked pinned (leaders_of w c)) → place_of (entry_at w q).context ≡ place_of c
listed-place w c true q h some =
    let there : (place_of (entry_at w q).context == place_of c) ≡ true = grind (arith, nat_tests, once-three) in
    grind (arith, nat_tests, there)
listed-place w c false q h some =
    let there : (place_of (entry_at w q).context == place_of c) ≡ true = grind (arith, nat_tests, once-three) in
    grind (arith, nat_tests, there)

member-place : (w : World) (c : Context) (pinned : Bool) (q k : Key) → IsKept w.hardware w → 1 ≤ times q (picked pinned (leaders_of w c)) → 1 ≤ times k (members_at w q)
    → (is_live w k ≡ true) × (place_of (entry_at w k).context ≡ place_of c)
member-place w c pinned q k h listed member = grind (arith, nat_tests, member-of, listed-place)

-- who does not sample takes no work
works-none : (w : World) (work : Work) (c : Context) (k : Key) → (SomeSamples w c → ⊥) → is_live w k ≡ true → place_of (entry_at w k).context ≡ place_of c
    → takes (happening.Work work) w k ≡ false
works-none w work c k none live there = grind (arith, nat_tests, false≢true)

-- so nothing is found
none-among : (x : Happening) (w : World) (keys : List Key) → ((k : Key) → 1 ≤ times k keys → takes x w k ≡ false) → hits_among x w keys ≡ []
none-among x w [] none = refl
none-among x w (k ∷ keys) none =
    ap (λ b. map (hit_at x w) (cond b (k ∷ filter (takes x w) keys) (filter (takes x w) keys))) (none k (stands-first k keys))
    ∙ none-among x w keys (λ q some. none q (omega (arith, some, times-cons q k keys)))

none-in_groups : (x : Happening) (w : World) (leaders : List Key)
    → ((q k : Key) → 1 ≤ times q leaders → 1 ≤ times k (members_at w q) → takes x w k ≡ false) → hits_among x w (all_members w leaders) ≡ []
none-in_groups x w [] none = refl
none-in_groups x w (q ∷ leaders) none =
    hits-append x w (members_at w q) (all_members w leaders)
    ∙ (ap (λ (l : List Hit). l ++ hits_among x w (all_members w leaders)) (none-among x w (members_at w q) (λ k some. none q k (stands-first q leaders) some))
    ∙ none-in_groups x w leaders (λ p k listed. none p k (omega (arith, listed, times-cons p q leaders))))

pub none-works : (w : World) (work : Work) (c : Context) → IsKept w.hardware w → (SomeSamples w c → ⊥)
    → (pinned : Bool) → hits_among (happening.Work work) w (all_members w (picked pinned (leaders_of w c))) ≡ []
none-works w work c h none pinned =
    none-in_groups (happening.Work work) w (picked pinned (leaders_of w c)) (λ q k listed member.
    let its = member-place w c pinned q k h listed member in
    works-none w work c k none its.0 its.1)
