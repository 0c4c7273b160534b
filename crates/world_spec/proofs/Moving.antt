-- A group that goes last in its list.
use Rattle.std.specs.Prelude.{◌≡◌, ℕ, ◌<◌, Bool, true, false, not, ◌&&◌, cond, List, [], ◌∷◌, ◌++◌, length, map, slice_set, if◌then◌else◌}
use Rattle.std.proofs.{Common.{arith, refl, sym, ap, subst, ◌∙◌, inl, inr}, lemmas.Bool.{cases_Bool, Decides.{nat_tests}}}
use Rattle.std.proofs.{lemmas.List.{length-map, length-set, map-set, map-append}, Math.ListN.{get_or-map}}
use Rattle.perf_base.specs.declared.{numbers.Key.{Key}, standing.Context.{Context}}
use Rattle.stage_spec.specs.{Hardware.{Hardware}, Rotation.{first_goes_last}, Stage.{Group, Lists, place_of, lists_of, change_context}}
use Rattle.stage_laws.specs.Sound.{has_id}
use Rattle.world_spec.specs.Value.{World, Leaders, no_leaders, leaders_of, entry_at, instance_at, is_live, is_key, times}
use Rattle.world_spec.specs.{StageOf.{group_at, lists_at, stage_of}, Kept.{post_at, leads, leads_in, once_if, AreLinked, AreNumbered, IsKept}}
use Rattle.world_spec.specs.{Changes.{all_but, to_last, in_list, with_leaders}, Moves.{group_goes_last, MoveLaw, MoveKeptLaw}}
use Rattle.world_spec.proofs.{Renaming.{id-apart}, Keys.{key-is, is_key-true, is_key-false, times-cons, all_but-none, times-to_last, at_place}}

-- a change of a context's leaders is the stage's change of its groups
pub leaders-stage : (w : World) (c : Context) (f : Leaders → Leaders) (g : Lists → Lists) → lists_at w (f (leaders_of w c)) ≡ g (lists_at w (leaders_of w c))
    → stage_of (with_leaders c f w) ≡ change_context c g (stage_of w)
leaders-stage w c f g same =
    let groups : lists_of (stage_of w) c ≡ lists_at w (leaders_of w c) = get_or-map (lists_at w) w.contexts (place_of c) no_leaders in
    grind (arith, nat_tests, map-set, groups)

-- what leads is live, and its own leader
pub leads-parts : (live own : Bool) → (live && own) ≡ true → (live ≡ true) × (own ≡ true)
leads-parts true true h = (refl, refl)
leads-parts true false h = absurd (cc)
leads-parts false own h = absurd (cc)

-- of keys that an id tells apart, the group of one goes last
one-last : (b : Bool) (g : Group) (groups : List Group) (test : Group → Bool) → test g ≡ b
    → first_goes_last test (g ∷ groups) ≡ cond b (groups ++ g ∷ []) (g ∷ first_goes_last test groups)
one-last true g groups test h = ap {A = Bool} (λ c. elim c as (λ x. List Group) [ true ↦ groups ++ g ∷ [] | false ↦ g ∷ first_goes_last test groups ]) h
one-last false g groups test h = ap {A = Bool} (λ c. elim c as (λ x. List Group) [ true ↦ groups ++ g ∷ [] | false ↦ g ∷ first_goes_last test groups ]) h

groups-last : (w : World) (k : Key) → AreNumbered (post_at w) w.quiet.next_id → is_live w k ≡ true → (keys : List Key) → times k keys ≡ 1
    → map (group_at w) (to_last k keys) ≡ first_goes_last (λ g. has_id (instance_at w k).id g.leader) (map (group_at w) keys)
groups-last w k numbered there [] once = absurd (omega (arith, once))
groups-last w k numbered there (q ∷ keys) once =
    let test : Group → Bool = λ g. has_id (instance_at w k).id g.leader in
    elim (cases_Bool (is_key k q)) [
      | inl e ↦
          let is : q ≡ k = key-is q k (is_key-true k q e) in
          let rest : times k keys ≡ 0 = omega (arith, once, times-cons k q keys, ap {B = ℕ} (λ c. cond c 1 0) e) in
          let kept : all_but k (q ∷ keys) ≡ keys = ap {B = List Key} (λ c. cond (not c) (q ∷ all_but k keys) (all_but k keys)) e ∙ all_but-none k keys rest in
          let own : test (group_at w k) ≡ true = grind (arith, nat_tests) in
          ap (λ ks. map (group_at w) (ks ++ k ∷ [])) kept
          ∙ (map-append (group_at w) keys (k ∷ [])
          ∙ (ap (λ x. map (group_at w) keys ++ group_at w x ∷ []) (sym is)
          ∙ sym (one-last true (group_at w q) (map (group_at w) keys) test (ap (λ x. test (group_at w x)) is ∙ own))))
      | inr e ↦
          let rest : times k keys ≡ 1 = omega (arith, once, times-cons k q keys, ap {B = ℕ} (λ c. cond c 1 0) e) in
          let kept : all_but k (q ∷ keys) ≡ q ∷ all_but k keys = ap {B = List Key} (λ c. cond (not c) (q ∷ all_but k keys) (all_but k keys)) e in
          ap (λ ks. map (group_at w) (ks ++ k ∷ [])) kept
          ∙ (ap (λ gs. group_at w q ∷ gs) (groups-last w k numbered there keys rest)
          ∙ sym (one-last false (group_at w q) (map (group_at w) keys) test (id-apart w k q numbered there (is_key-false k q e))))
    ]

-- how often a leader stands in its own list
led_in-true : (a b c d : Bool) → a ≡ true → b ≡ true → c ≡ d → (a && b && (if c then d else not d)) ≡ true
led_in-true a b true d ha hb e = rw (ha, hb, ← e) refl
led_in-true a b false d ha hb e = rw (ha, hb, ← e) refl

stands-once : (w : World) (k : Key) → AreLinked (post_at w) w.contexts w.families → leads (post_at w) k ≡ true
    → (pinned : Bool) → (entry_at w k).pinned ≡ pinned → once_if (leads_in (post_at w) (place_of (entry_at w k).context) pinned k) ≡ 1
stands-once w k linked lead pinned e = grind (arith, nat_tests, led_in-true)

move-by_list : (hw : Hardware) (w : World) (c : Context) (k : Key) → IsKept hw w → leads (post_at w) k ≡ true → (entry_at w k).context ≡ c → (pinned : Bool) → (entry_at w k).pinned ≡ pinned
    → lists_at w (in_list pinned (to_last k) (leaders_of w c)) ≡ group_goes_last pinned (instance_at w k).id (lists_at w (leaders_of w c))
move-by_list hw w c k h lead there true e =
    let once : times k (leaders_of w c).pinned ≡ 1
    = h.linked.pinned k (place_of c) ∙ (ap (λ x. once_if (leads_in (post_at w) (place_of x) true k)) (sym there) ∙ stands-once w k h.linked lead true e) in
    ap {A = List Group} (λ gs. record (lists_at w (leaders_of w c)) { pinned = gs }) (groups-last w k h.numbered (leads-parts (is_live w k) (is_key k (entry_at w k).leader) lead).0 (leaders_of w c).pinned once)
move-by_list hw w c k h lead there false e =
    let once : times k (leaders_of w c).flexible ≡ 1
    = h.linked.flexible k (place_of c) ∙ (ap (λ x. once_if (leads_in (post_at w) (place_of x) false k)) (sym there) ∙ stands-once w k h.linked lead false e) in
    ap {A = List Group} (λ gs. record (lists_at w (leaders_of w c)) { flexible = gs }) (groups-last w k h.numbered (leads-parts (is_live w k) (is_key k (entry_at w k).leader) lead).0 (leaders_of w c).flexible once)

pub move-stage : MoveLaw
move-stage hw w c k h lead there =
    leaders-stage w c (in_list (entry_at w k).pinned (to_last k)) (group_goes_last (entry_at w k).pinned (instance_at w k).id)
    (move-by_list hw w c k h lead there (entry_at w k).pinned refl)

-- a change of a context's leaders by which no key comes or goes
pub leaders-kept : (hw : Hardware) (w : World) (c : Context) (f : Leaders → Leaders) → place_of c < 72
    → ((j : Key) → (times j (f (leaders_of w c)).pinned ≡ times j (leaders_of w c).pinned) × (times j (f (leaders_of w c)).flexible ≡ times j (leaders_of w c).flexible))
    → IsKept hw w → IsKept hw (with_leaders c f w)
leaders-kept hw w c f low same h =
    let size : length w.contexts ≡ 72 = sym (length-map w.contexts (lists_at w)) ∙ h.shape.contexts in
    let within : place_of c < length w.contexts = omega (arith, low, size) in
    record {
      tables = record { accounts = h.tables.accounts; standings = h.tables.standings; families = h.tables.families; folded = h.tables.folded; lost = h.tables.lost; clocks = h.tables.clocks; totals = h.tables.totals; seats = h.tables.seats };
      shape = record {
        running = h.shape.running;
        tasks = h.shape.tasks;
        contexts = length-map (slice_set w.contexts (place_of c) (f (leaders_of w c))) (lists_at w) ∙ (length-set w.contexts (place_of c) (f (leaders_of w c)) ∙ size);
      };
      running = record { live = h.running.live; once = h.running.once };
      linked = record {
        originals = h.linked.originals;
        copies = h.linked.copies;
        members = h.linked.members;
        pinned = λ j place. at_place (λ l. times j l.pinned ≡ once_if (leads_in (post_at w) place true j)) w.contexts (place_of c) (f (leaders_of w c)) no_leaders place within
            (λ e. (same j).0 ∙ (h.linked.pinned j (place_of c) ∙ ap (λ n. once_if (leads_in (post_at w) n true j)) (sym e))) (λ apart. h.linked.pinned j place);
        flexible = λ j place. at_place (λ l. times j l.flexible ≡ once_if (leads_in (post_at w) place false j)) w.contexts (place_of c) (f (leaders_of w c)) no_leaders place within
            (λ e. (same j).1 ∙ (h.linked.flexible j (place_of c) ∙ ap (λ n. once_if (leads_in (post_at w) n false j)) (sym e))) (λ apart. h.linked.flexible j place);
      };
      copies = h.copies;
      grouped = h.grouped;
      numbered = h.numbered;
      apart = h.apart;
      fitting = h.fitting;
      lawful = record { errors = h.lawful.errors; samples = h.lawful.samples; kinds = h.lawful.kinds; used = h.lawful.used; placed = h.lawful.placed };
      seated = h.seated;
      small = record {
        counts = h.small.counts;
        times = h.small.times;
        ran = h.small.ran;
        folded_ran = h.small.folded_ran;
        clocks = h.small.clocks;
        totals = h.small.totals;
        lost = h.small.lost;
        ids = h.small.ids;
      };
    }

moved-times : (hw : Hardware) (w : World) (c : Context) (k : Key) → IsKept hw w → leads (post_at w) k ≡ true → (entry_at w k).context ≡ c → (pinned : Bool) → (entry_at w k).pinned ≡ pinned
    → (j : Key) → (times j (in_list pinned (to_last k) (leaders_of w c)).pinned ≡ times j (leaders_of w c).pinned)
    × (times j (in_list pinned (to_last k) (leaders_of w c)).flexible ≡ times j (leaders_of w c).flexible)
moved-times hw w c k h lead there true e j =
    (times-to_last j k (leaders_of w c).pinned (h.linked.pinned k (place_of c) ∙ (ap (λ x. once_if (leads_in (post_at w) (place_of x) true k)) (sym there) ∙ stands-once w k h.linked lead true e)), refl)
moved-times hw w c k h lead there false e j =
    (refl, times-to_last j k (leaders_of w c).flexible (h.linked.flexible k (place_of c) ∙ (ap (λ x. once_if (leads_in (post_at w) (place_of x) false k)) (sym there) ∙ stands-once w k h.linked lead false e)))

pub move-kept : MoveKeptLaw
move-kept hw w c k lead there h =
    let live : is_live w k ≡ true = (leads-parts (is_live w k) (is_key k (entry_at w k).leader) lead).0 in
    leaders-kept hw w c (in_list (entry_at w k).pinned (to_last k)) (subst (λ x. place_of x < 72) there (h.numbered.places k live))
    (moved-times hw w c k h lead there (entry_at w k).pinned refl) h
