-- A brief whose flexible groups are turned is a brief still: the same groups stand there.
use Rattle.std.specs.Prelude.{◌≡◌, ℕ, zero, suc, ◌+◌, ◌<◌, ◌==◌, Bool, true, false, All, List, [], ◌∷◌, ◌++◌, length, map, filter, take, slice_index_or, if◌then◌else◌}
use Rattle.std.{specs.List.{remove}, proofs.{Common.{arith, refl, sym, ap, subst, ◌∙◌}, Math.Seq.{take-suc}, lemmas.Grind.{flat_map-append}}}
use Rattle.std.proofs.lemmas.List.{get_or-map, length-append, length-map, map-append, Elements.{All-append, All-cons}}
use Rattle.perf_base.specs.declared.numbers.{CpuNo.{CpuNo}, EventNo.{EventNo}, Key.{Key}}
use Rattle.stage_laws.{specs.Briefs.{GroupBrief}, proofs.Counts.{count-append, count-filter}}
use Rattle.stage_spec.specs.Verdict.{is_eligible}
use Rattle.world_spec.{specs.{Kept.{leads, post_at}, StageOf.{group_at}, Value.{World, entry_at, is_live, is_key}}, proofs.Copies.{times-at}}
use Rattle.world_spec.proofs.{GoneStage.{AreLeading}, Moving.{leads-parts}}
use Rattle.cpu_sched.specs.After.{hardware_goes_last, some_wait, turned_groups}
use Rattle.cpu_sched.specs.Briefs.{events_in, seen, brief_at, briefs_at, IsGroupBrief, IsBrief}
use Rattle.cpu_sched.{specs.declared.group_brief.GroupBrief.GroupBrief as Stored, proofs.{Parted.{HasParts, has-parts, slots-parts}, Served.{slots}}}

-- two lists of the same groups
record SameGroups (xs ys : List (GroupBrief Key)) : Type 0 where
  pub all : (counters : ℕ) → All (IsGroupBrief counters) xs → All (IsGroupBrief counters) ys
  pub slots : (e : EventNo) → slots e (events_in ys) ≡ slots e (events_in xs)
  pub size : length ys ≡ length xs
  pub events : length (events_in ys) ≡ length (events_in xs)

itself : (xs : List (GroupBrief Key)) → SameGroups xs xs
itself xs = record { all = λ n h. h; slots = λ e. refl; size = refl; events = refl }

events-parts : (xs ys : List (GroupBrief Key)) → length (events_in (xs ++ ys)) ≡ length (events_in xs) + length (events_in ys)
events-parts xs ys = ap length (flat_map-append (λ g. g.counted) xs ys) ∙ length-append (events_in xs) (events_in ys)

pub goes-by : (g : GroupBrief Key) (groups : List (GroupBrief Key)) (b : Bool) → g.software ≡ b → hardware_goes_last (g ∷ groups) ≡ (if b then g ∷ hardware_goes_last groups else groups ++ g ∷ [])
unfolding hardware_goes_last
goes-by g groups b e = ap (λ x. if x then g ∷ hardware_goes_last groups else groups ++ g ∷ []) e

pub goes-none : hardware_goes_last [] ≡ []
unfolding hardware_goes_last
goes-none = refl

rest-of : {X : Type 0} (P : X → Type 0) (x : X) (xs : List X) → All P (x ∷ xs) → All P xs
rest-of P x xs all i d low = all (suc i) d (omega (arith, low))

pub lone : {X : Type 0} (P : X → Type 0) (x : X) → P x → All P (x ∷ [])
lone P x h = All-cons P x [] h (λ i d low. absurd (omega (arith, low)))

kept-by : (g : GroupBrief Key) (groups : List (GroupBrief Key)) (b : Bool) → SameGroups groups (hardware_goes_last groups)
    → SameGroups (g ∷ groups) (if b then g ∷ hardware_goes_last groups else groups ++ g ∷ [])
kept-by g groups true h = record {
  all = λ n a. All-cons (IsGroupBrief n) g (hardware_goes_last groups) (a 0 g (omega arith)) (h.all n (rest-of (IsGroupBrief n) g groups a));
  slots = λ e. omega (arith, h.slots e, slots-parts e (g ∷ []) (hardware_goes_last groups), slots-parts e (g ∷ []) groups);
  size = omega (arith, h.size);
  events = omega (arith, h.events, events-parts (g ∷ []) (hardware_goes_last groups), events-parts (g ∷ []) groups);
}
kept-by g groups false h = record {
  all = λ n a. All-append (IsGroupBrief n) groups (g ∷ []) (rest-of (IsGroupBrief n) g groups a) (lone (IsGroupBrief n) g (a 0 g (omega arith)));
  slots = λ e. omega (arith, slots-parts e groups (g ∷ []), slots-parts e (g ∷ []) groups);
  size = omega (arith, length-append groups (g ∷ []));
  events = omega (arith, events-parts groups (g ∷ []), events-parts (g ∷ []) groups);
}

goes-same : (groups : List (GroupBrief Key)) → SameGroups groups (hardware_goes_last groups)
goes-same [] = subst (SameGroups []) (sym goes-none) (itself [])
goes-same (g ∷ groups) = subst (SameGroups (g ∷ groups)) (sym (goes-by g groups g.software refl)) (kept-by g groups g.software (goes-same groups))

turned-by : (groups : List (GroupBrief Key)) (b : Bool) → SameGroups groups (if b then hardware_goes_last groups else groups)
turned-by groups true = goes-same groups
turned-by groups false = itself groups

all-turned : (counters : ℕ) (p q r s t u : List (GroupBrief Key)) → SameGroups r t → SameGroups s u → IsBrief (record { counters = counters; passes = p ∷ q ∷ r ∷ s ∷ [] })
    → IsBrief (record { counters = counters; passes = p ∷ q ∷ t ∷ u ∷ [] })
all-turned counters p q r s t u same_r same_s h =
    let P : GroupBrief Key → Type 0 = IsGroupBrief counters in
    let parts : HasParts (record { counters = counters; passes = p ∷ q ∷ r ∷ s ∷ [] }) p q r s = has-parts (record { counters = counters; passes = p ∷ q ∷ r ∷ s ∷ [] }) p q r s h refl refl refl refl in
    record {
      four = refl;
      some = h.some;
      most = h.most;
      groups = All-append P p (q ++ (t ++ (u ++ []))) parts.first (All-append P q (t ++ (u ++ [])) parts.second (All-append P t (u ++ []) (same_r.all counters parts.third)
          (All-append P u [] (same_s.all counters parts.fourth) (λ i g low. absurd (omega (arith, low))))));
      few = omega (
        arith,
        parts.few,
        same_r.size,
        same_s.size,
        length-append p (q ++ (t ++ (u ++ []))),
        length-append q (t ++ (u ++ [])),
        length-append t (u ++ []),
        length-append u [],
      );
      events = omega (
        arith,
        h.events,
        same_r.events,
        same_s.events,
        events-parts p (q ++ (t ++ (u ++ []))),
        events-parts q (t ++ (u ++ [])),
        events-parts t (u ++ []),
        events-parts u [],
        events-parts p (q ++ (r ++ (s ++ []))),
        events-parts q (r ++ (s ++ [])),
        events-parts r (s ++ []),
        events-parts s [],
      );
      once = λ e. omega (
        arith,
        parts.once e,
        same_r.slots e,
        same_s.slots e,
        slots-parts e p (q ++ (t ++ (u ++ []))),
        slots-parts e q (t ++ (u ++ [])),
        slots-parts e t (u ++ []),
        slots-parts e u [],
      );
    }

pub turned-sound : (w : World) (counters : ℕ) (p q r s : List (GroupBrief Key)) → IsBrief (record { counters = counters; passes = p ∷ q ∷ r ∷ s ∷ [] })
    → IsBrief (record { counters = counters; passes = p ∷ q ∷ turned_groups w r ∷ turned_groups w s ∷ [] })
turned-sound w counters p q r s h = all-turned counters p q r s (turned_groups w r) (turned_groups w s) (turned-by r (some_wait w r)) (turned-by s (some_wait w s)) h

-- the first hardware group, by its place
pub goes-at : (groups : List Stored) (i : ℕ) (x : Stored) → i < length groups → All (λ g. g.software ≡ true) (take i groups) → (slice_index_or groups i x).software ≡ false
    → map seen (remove groups i ++ slice_index_or groups i x ∷ []) ≡ hardware_goes_last (map seen groups)
goes-at [] i x low all off = absurd (omega (arith, low))
goes-at (g ∷ groups) zero x low all off = map-append seen groups (g ∷ []) ∙ sym (goes-by (seen g) (map seen groups) false off)
goes-at (g ∷ groups) (suc i) x low all off =
    ap (λ bs. seen g ∷ bs) (goes-at groups i x (omega (arith, low)) (rest-of (λ (y : Stored). y.software ≡ true) g (take i groups) all) off)
    ∙ sym (goes-by (seen g) (map seen groups) true (all 0 g (omega arith)))

pub goes-nowhere : (groups : List Stored) → All (λ g. g.software ≡ true) groups → hardware_goes_last (map seen groups) ≡ map seen groups
goes-nowhere [] all = goes-none
goes-nowhere (g ∷ groups) all =
    goes-by (seen g) (map seen groups) true (all 0 g (omega arith)) ∙ ap (λ bs. seen g ∷ bs) (goes-nowhere groups (rest-of (λ (y : Stored). y.software ≡ true) g groups all))

-- a place that is there reads the same with any default
pub at-any : {X : Type 0} (xs : List X) (i : ℕ) (x y : X) → i < length xs → slice_index_or xs i x ≡ slice_index_or xs i y
at-any [] i x y low = absurd (omega (arith, low))
at-any (z ∷ xs) zero x y low = refl
at-any (z ∷ xs) (suc i) x y low = at-any xs i x y (omega (arith, low))

-- The leaders of the groups of a brief are there.
pub live-items : (w : World) (cpu : CpuNo) (items : List Stored) (keys : List Key) → map seen items ≡ briefs_at w cpu keys → AreLeading w keys → All (λ g. is_live w g.leader ≡ true) items
live-items w cpu items keys same leading i d low =
    let those : List Key = filter (λ k. is_eligible w.hardware cpu (group_at w k)) keys in
    let within : i < length those = omega (arith, low, length-map items seen, ap length same, length-map those (brief_at w)) in
    let k : Key = slice_index_or those i d.leader in
    let chain : seen (slice_index_or items i d) ≡ brief_at w k =
    sym (get_or-map seen items i d (seen d) low) ∙ (ap (λ l. slice_index_or l i (seen d)) same ∙ get_or-map (brief_at w) those i d.leader (seen d) within) in
    let lead : leads (post_at w) k ≡ true =
    leading k (omega (arith, times-at those i d.leader within, count-filter (is_key k) (λ q. is_eligible w.hardware cpu (group_at w q)) keys)) in
    ap (λ (b : GroupBrief Key). is_live w b.leader) chain ∙ (leads-parts (is_live w k) (is_key k (entry_at w k).leader) lead).0

-- one more group of software
pub software-next : (groups : List Stored) (i : ℕ) (x : Stored) → i < length groups → All (λ g. g.software ≡ true) (take i groups) → (slice_index_or groups i x).software ≡ true
    → All (λ g. g.software ≡ true) (take (i + 1) groups)
software-next groups i x low all on =
    let one : i + 1 ≡ suc i = omega arith in
    subst (All (λ (g : Stored). g.software ≡ true)) (sym (ap (λ n. take n groups) one ∙ take-suc groups i x low))
    (All-append (λ (g : Stored). g.software ≡ true) (take i groups) (slice_index_or groups i x ∷ []) all (lone (λ (g : Stored). g.software ≡ true) (slice_index_or groups i x) on))
