-- The lists, the groups and the kinds of groups after a key comes.
use Rattle.std.specs.Prelude.{◌≡◌, ℕ, ◌+◌, ◌<◌, ◌≤◌, ◌==◌, Bool, true, false, not, ◌&&◌, List, [], ◌∷◌, ◌++◌, length, map, slice_index_or, slice_set, if◌then◌else◌}
use Rattle.std.proofs.{Common.{arith, refl, sym, ap, subst, ◌∙◌, inl, inr}, lemmas.Bool.{cases_eq, cases_Bool, false≢true, Decides.{nat_tests}}}
use Rattle.std.proofs.lemmas.List.{length-append, map-append}
use Rattle.perf_base.specs.declared.numbers.Key.{Key}
use Rattle.stage_spec.specs.{Hardware.{Hardware}, Stage.{place_of}}
use Rattle.world_spec.specs.{Value.{Leaders, no_leaders, is_key, times}, StageOf.{after_first}}
use Rattle.world_spec.specs.{Kept.{Post, once_if, is_member_of, leads, leads_in, kinds_in, AreFitting, AreGrouped}, Changes.{in_list}}
use Rattle.world_spec.proofs.{Keys.{key-is, is_key-same, is_key-other, times-cons, times-push, once-true, once-false, at_place}, Moving.{leads-parts}}
use Rattle.world_spec.proofs.Coming.{Comes, live-apart, was-live, by_coming}
use Rattle.world_spec.proofs.ComingLinks.{none_of_two, none_of_three, last_of_two, all_but_last, middle_fails}

-- the pinned or the flexible leaders
abbrev pub pick : Bool → Leaders → List Key
pick true l = l.pinned
pick false l = l.flexible

abbrev pub push_key : Key → List Key → List Key
push_key k keys = keys ++ k ∷ []

listed-times : (pinned b : Bool) (j k : Key) (l : Leaders) → times j (pick b (in_list pinned (push_key k) l)) ≡ times j (pick b l) + once_if ((if pinned then b else not b) && is_key j k)
listed-times true true j k l = times-push j l.pinned k
listed-times true false j k l = omega arith
listed-times false true j k l = omega arith
listed-times false false j k l = times-push j l.flexible k

pub dead_leads : (at : Key → Post) (place : ℕ) (b : Bool) (k : Key) → (at k).live ≡ false → leads_in at place b k ≡ false
dead_leads at place b k dead = none_of_three (leads at k) (place_of (at k).context == place) (if (at k).pinned then b else not b) (none_of_two (at k).live (is_key k (at k).leader) dead)

abbrev leads_by : Post → ℕ → Bool → Key → Bool
leads_by x place b j = (x.live && is_key j x.leader) && place_of x.context == place && (if x.pinned then b else not b)

pub comes-listed : (at to : Key → Post) (k : Key) (p : Post) → Comes at to k p → p.leader ≡ k → (contexts : List Leaders) → place_of p.context < length contexts
    → ((b : Bool) (j : Key) (place : ℕ) → times j (pick b (slice_index_or contexts place no_leaders)) ≡ once_if (leads_in at place b j))
    → (b : Bool) (j : Key) (place : ℕ)
    → times j (pick b (slice_index_or (slice_set contexts (place_of p.context) (in_list p.pinned (push_key k) (slice_index_or contexts (place_of p.context) no_leaders))) place no_leaders))
    ≡ once_if (leads_in to place b j)
comes-listed at to k p c own contexts low h b j place =
    let l : Leaders = slice_index_or contexts (place_of p.context) no_leaders in
    let flag : Bool = if p.pinned then b else not b in
    at_place (λ x. times j (pick b x) ≡ once_if (leads_in to place b j)) contexts (place_of p.context) (in_list p.pinned (push_key k) l) no_leaders place low
    (λ e. elim (cases_eq j.0 k.0) [
      | inl same ↦
          let is : leads_in to place b j ≡ flag = grind (arith, nat_tests, key-is, all_but_last, is_key-same) in
          let none : times j (pick b l) ≡ 0 = h b j (place_of p.context) ∙ once-false (leads_in at (place_of p.context) b j)
          (ap (λ x. leads_in at (place_of p.context) b x) (key-is j k same) ∙ dead_leads at (place_of p.context) b k c.dead) in
          elim (cases_Bool flag) [
            | inl on ↦ omega (arith, listed-times p.pinned b j k l, none, once-true (flag && is_key j k) (rw (on, is_key-same j k (sym same)) refl), once-true (leads_in to place b j) (is ∙ on))
            | inr off ↦ omega (arith, listed-times p.pinned b j k l, none, once-false (flag && is_key j k) (none_of_two flag (is_key j k) off), once-false (leads_in to place b j) (is ∙ off))
          ]
      | inr apart ↦
          let same : once_if (leads_in to place b j) ≡ times j (pick b l) = grind (arith, nat_tests) in
          omega (arith, listed-times p.pinned b j k l, same, once-false (flag && is_key j k) (last_of_two flag (is_key j k) (λ x. is_key-other j k (λ y. apart (sym y)))))
    ])
    (λ away. h b j place ∙ elim (cases_eq j.0 k.0) [
      | inl same ↦ grind (arith, nat_tests, key-is, same, middle_fails, dead_leads)
      | inr apart ↦ ap once_if (sym (ap (λ x. leads_by x place b j) (c.others j apart)))
    ])

pub comes-unlisted : (at to : Key → Post) (k first : Key) (p : Post) → Comes at to k p → (at first).live ≡ true → p.leader ≡ first → (contexts : List Leaders)
    → ((b : Bool) (j : Key) (place : ℕ) → times j (pick b (slice_index_or contexts place no_leaders)) ≡ once_if (leads_in at place b j))
    → (b : Bool) (j : Key) (place : ℕ) → times j (pick b (slice_index_or contexts place no_leaders)) ≡ once_if (leads_in to place b j)
comes-unlisted at to k first p c live led contexts h b j place = h b j place ∙ elim (cases_eq j.0 k.0) [
  | inl same ↦ grind (arith, nat_tests, live-apart, key-is, same, none_of_three, last_of_two, is_key-other, dead_leads)
  | inr apart ↦ ap once_if (sym (ap (λ x. leads_by x place b j) (c.others j apart)))
]

-- groups
leads-same : (at to : Key → Post) (k : Key) (p : Post) → Comes at to k p → (j : Key) → (j.0 ≡ k.0 → ⊥) → leads to j ≡ leads at j
leads-same at to k p c j apart = ap (λ x. x.live && is_key j x.leader) (c.others j apart)

led-before : (at to : Key → Post) (k : Key) (p : Post) → Comes at to k p → AreGrouped at → (j : Key) → (j.0 ≡ k.0 → ⊥) → (to j).live ≡ true
    → (leads to (to j).leader ≡ true) × ((to (to j).leader).context ≡ (to j).context)
led-before at to k p c h j apart live = grind (arith, nat_tests, was-live, live-apart, leads-parts, leads-same)

pub grouped-alone : (at to : Key → Post) (k : Key) (p : Post) → Comes at to k p → p.leader ≡ k → p.members ≡ k ∷ [] → ((j : Key) → (j.0 ≡ k.0 → ⊥) → (to j).members ≡ (at j).members)
    → AreGrouped at → AreGrouped to
grouped-alone at to k p c own alone others h =
    let mine : (to k).leader ≡ k = ap (λ x. x.leader) c.new ∙ own in
    let members : (to k).members ≡ k ∷ [] = ap (λ x. x.members) c.new ∙ alone in
    record {
      led = by_coming (λ j. (to j).live ≡ true → leads to (to j).leader ≡ true) k
          (λ live. ap (leads to) mine ∙ (ap (λ x. x.live && is_key k x.leader) c.new ∙ (rw c.alive (ap (is_key k) own ∙ is_key-same k k refl))))
          (λ j apart live. (led-before at to k p c h j apart live).0);
      together = by_coming (λ j. (to j).live ≡ true → (to (to j).leader).context ≡ (to j).context) k
          (λ live. ap (λ x. (to x).context) mine) (λ j apart live. (led-before at to k p c h j apart live).1);
      leader_first = by_coming (λ j. leads to j ≡ true → (to j).members ≡ j ∷ after_first (to j).members) k
          (λ lead. subst (λ ms. ms ≡ k ∷ after_first ms) (sym members) refl)
          (λ j apart lead. subst (λ ms. ms ≡ j ∷ after_first ms) (sym (others j apart)) (h.leader_first j (sym (leads-same at to k p c j apart) ∙ lead)));
      small = by_coming (λ j. length (to j).members ≤ 8) k
          (subst (λ ms. length ms ≤ 8) (sym members) (omega arith)) (λ j apart. subst (λ ms. length ms ≤ 8) (sym (others j apart)) (h.small j));
    }

pushed_first : (ms : List Key) (first k : Key) → ms ≡ first ∷ after_first ms → ms ++ k ∷ [] ≡ first ∷ after_first (ms ++ k ∷ [])
pushed_first [] first k h = absurd (cc)
pushed_first (m ∷ ms) first k h = ap (λ xs. xs ++ k ∷ []) h

pub grouped-joined : (at to : Key → Post) (k first : Key) (p : Post) → Comes at to k p → leads at first ≡ true → (at first).context ≡ p.context → length (at first).members < 8
    → p.leader ≡ first → p.members ≡ [] → (to first).members ≡ (at first).members ++ k ∷ []
    → ((j : Key) → (j.0 ≡ k.0 → ⊥) → (j.0 ≡ first.0 → ⊥) → (to j).members ≡ (at j).members) → AreGrouped at → AreGrouped to
grouped-joined at to k first p c lead there room led none grown others h =
    let far : first.0 ≡ k.0 → ⊥ = live-apart at k c.dead first (leads-parts (at first).live (is_key first (at first).leader) lead).0 in
    let mine : (to k).leader ≡ first = ap (λ x. x.leader) c.new ∙ led in
    let members : (to k).members ≡ [] = ap (λ x. x.members) c.new ∙ none in
    let by_first : (P : Key → List Key → Type 0) → P first ((at first).members ++ k ∷ []) → ((j : Key) → (j.0 ≡ k.0 → ⊥) → P j (at j).members) → (j : Key) → (j.0 ≡ k.0 → ⊥) → P j (to j).members =
    grind (arith, nat_tests, key-is) in
    record {
      led = by_coming (λ j. (to j).live ≡ true → leads to (to j).leader ≡ true) k
          (λ live. ap (leads to) mine ∙ (leads-same at to k p c first far ∙ lead))
          (λ j apart live. (led-before at to k p c h j apart live).0);
      together = by_coming (λ j. (to j).live ≡ true → (to (to j).leader).context ≡ (to j).context) k
          (λ live. ap (λ x. (to x).context) mine ∙ (ap (λ x. x.context) (c.others first far) ∙ (there ∙ sym (ap (λ x. x.context) c.new))))
          (λ j apart live. (led-before at to k p c h j apart live).1);
      leader_first = by_coming (λ j. leads to j ≡ true → (to j).members ≡ j ∷ after_first (to j).members) k
          (λ lead_k. absurd (false≢true (sym (last_of_two (to k).live (is_key k (to k).leader) (λ x. ap (is_key k) mine ∙ is_key-other k first far)) ∙ lead_k)))
          (by_first (λ j ms. leads to j ≡ true → ms ≡ j ∷ after_first ms)
          (λ x. pushed_first (at first).members first k (h.leader_first first lead))
          (λ j apart x. h.leader_first j (sym (leads-same at to k p c j apart) ∙ x)));
      small = by_coming (λ j. length (to j).members ≤ 8) k
          (subst (λ ms. length ms ≤ 8) (sym members) (omega arith))
          (by_first (λ j ms. length ms ≤ 8) (omega (arith, room, length-append (at first).members (k ∷ []))) (λ j apart. h.small j));
    }

-- what a list without a key gives by two functions that agree elsewhere
pub map-apart : {X : Type 0} (f g : Key → X) (k : Key) → ((q : Key) → (q.0 ≡ k.0 → ⊥) → f q ≡ g q) → (keys : List Key) → times k keys ≡ 0 → map f keys ≡ map g keys
map-apart f g k same [] h = refl
map-apart f g k same (q ∷ keys) h = elim (cases_eq q.0 k.0) [
  | inl e ↦ absurd (omega (arith, h, times-cons k q keys, once-true (is_key k q) (is_key-same k q e)))
  | inr apart ↦ rw (same q apart, map-apart f g k same keys (omega (arith, h, times-cons k q keys))) refl
]

-- the kinds of groups
pub fitting-alone : (hw : Hardware) (at to : Key → Post) (k : Key) (p : Post) → Comes at to k p → p.members ≡ k ∷ [] → ((j : Key) → (j.0 ≡ k.0 → ⊥) → (to j).members ≡ (at j).members)
    → ((j leader : Key) → times j (at leader).members ≡ once_if (is_member_of at leader j)) → AreFitting hw (p.kind ∷ [])
    → ((j : Key) → AreFitting hw (kinds_in at j)) → (j : Key) → AreFitting hw (kinds_in to j)
fitting-alone hw at to k p c alone others counts fits h = by_coming (λ j. AreFitting hw (kinds_in to j)) k
    (subst (AreFitting hw) (sym (ap (map (λ q. (to q).kind)) (ap (λ x. x.members) c.new ∙ alone) ∙ ap (λ x. x.kind ∷ []) c.new)) fits)
    (λ j apart. subst (AreFitting hw) (sym (ap (map (λ q. (to q).kind)) (others j apart)
    ∙ map-apart (λ q. (to q).kind) (λ q. (at q).kind) k (λ q far. ap (λ x. x.kind) (c.others q far)) (at j).members
    (counts k j ∙ once-false (is_member_of at j k) (none_of_two (at k).live (is_key j (at k).leader) c.dead)))) (h j))

pub fitting-joined : (hw : Hardware) (at to : Key → Post) (k first : Key) (p : Post) → Comes at to k p → p.members ≡ [] → (at k).members ≡ [] → (to first).members ≡ (at first).members ++ k ∷ []
    → ((j : Key) → (j.0 ≡ k.0 → ⊥) → (j.0 ≡ first.0 → ⊥) → (to j).members ≡ (at j).members)
    → ((j leader : Key) → times j (at leader).members ≡ once_if (is_member_of at leader j)) → AreFitting hw (kinds_in at first ++ p.kind ∷ [])
    → ((j : Key) → AreFitting hw (kinds_in at j)) → (j : Key) → AreFitting hw (kinds_in to j)
fitting-joined hw at to k first p c none none_before grown others counts fits h =
    let kinds : (j : Key) → map (λ q. (to q).kind) (at j).members ≡ kinds_in at j = λ j.
    map-apart (λ q. (to q).kind) (λ q. (at q).kind) k (λ q far. ap (λ x. x.kind) (c.others q far)) (at j).members
    (counts k j ∙ once-false (is_member_of at j k) (none_of_two (at k).live (is_key j (at k).leader) c.dead)) in
    grind (arith, nat_tests, by_coming, map-append, kinds, key-is)
