-- What posts, links and groups are after a leader went and its siblings lead groups of their own, over plain posts.
use Rattle.std.specs.Prelude.{◌≡◌, ℕ, ◌+◌, ◌<◌, ◌≤◌, ◌==◌, Bool, true, false, not, ◌&&◌, cond, List, [], ◌∷◌, ◌++◌, length, slice_index_or, slice_set, if◌then◌else◌}
use Rattle.std.proofs.{Common.{arith, refl, sym, ap, subst, ◌∙◌, inl, inr}, lemmas.Bool.{cases_Bool, false≢true, Decides.{nat_tests}}, Math.Bool.{and-true}}
use Rattle.perf_base.specs.declared.numbers.Key.{Key}
use Rattle.stage_spec.specs.Stage.{place_of}
use Rattle.stage_laws.proofs.Counts.{count-append}
use Rattle.world_spec.specs.{Value.{Leaders, no_leaders, is_key, times}, StageOf.{after_first}}
use Rattle.world_spec.specs.{Kept.{Post, once_if, is_member_of, leads, leads_in, AreGrouped}, Changes.{all_but, in_list}}
use Rattle.world_spec.proofs.Keys.{key-is, is_key-same, is_key-other, is_key-true, is_key-turned, times-cons, times-all_but_same, times-all_but_other, once-true, once-false, at_place}
use Rattle.world_spec.proofs.{Moving.{leads-parts}, Coming.{by_coming}, ComingLinks.{none_of_two, none_of_three, middle_fails, last_of_two}}
use Rattle.world_spec.proofs.{ComingGroups.{pick, dead_leads}, Going.{Goes, shell, last_fails}, GoneSibling.{not-led}}

-- the post of a sibling that leads a group of its own
abbrev pub freed_post : Key → Post → Post
freed_post j p = record p { leader = j; members = j ∷ []; pinned = false }

-- a leader goes; each other member of its group leads one of its own, and the posts of the others stay
pub record Disbands (at to : Key → Post) (k : Key) : Type 0 where
  pub live : (at k).live ≡ true
  pub own : (at k).leader ≡ k
  pub gone : (to k).live ≡ false
  pub none : (to k).members ≡ []
  pub freed : (j : Key) → (j.0 ≡ k.0 → ⊥) → is_member_of at k j ≡ true → to j ≡ freed_post j (at j)
  pub others : (j : Key) → (j.0 ≡ k.0 → ⊥) → is_member_of at k j ≡ false → to j ≡ at j

-- so for each key: what holds at the one that went, at the members of its group and at the others
pub by_group : (at : Key → Post) (P : Key → Type 0) (k : Key) → P k → ((j : Key) → (j.0 ≡ k.0 → ⊥) → is_member_of at k j ≡ true → P j)
    → ((j : Key) → (j.0 ≡ k.0 → ⊥) → is_member_of at k j ≡ false → P j) → (j : Key) → P j
by_group at P k here member other = by_coming P k here (λ j apart. elim (cases_Bool (is_member_of at k j)) [ inl is ↦ member j apart is | inr off ↦ other j apart off ])

pub disbands-goes : (at to : Key → Post) (k : Key) → Disbands at to k → Goes at to k
disbands-goes at to k d = record {
  live = d.live;
  gone = d.gone;
  others = λ j apart. elim (cases_Bool (is_member_of at k j)) [ inl is ↦ ap shell (d.freed j apart is) | inr off ↦ ap shell (d.others j apart off) ];
}

-- a member is live, and led by the one that goes
pub member-live : (at : Key → Post) (k j : Key) → is_member_of at k j ≡ true → (at j).live ≡ true
member-live at k j h = (leads-parts (at j).live (is_key k (at j).leader) h).0

pub member-led : (at : Key → Post) (k j : Key) → is_member_of at k j ≡ true → (at j).leader ≡ k
member-led at k j h = key-is (at j).leader k (is_key-true k (at j).leader (leads-parts (at j).live (is_key k (at j).leader) h).1)

pub member-follows : (at : Key → Post) (k j : Key) → (j.0 ≡ k.0 → ⊥) → is_member_of at k j ≡ true → is_key j (at j).leader ≡ false
member-follows at k j apart h = ap (is_key j) (member-led at k j h) ∙ is_key-other j k (λ e. apart (sym e))

-- two keys of which one alone is a member are different
tells-apart : (at : Key → Post) (k i j : Key) → is_member_of at k i ≡ true → is_member_of at k j ≡ false → i.0 ≡ j.0 → ⊥
tells-apart at k i j sure off e = false≢true (sym off ∙ (ap (λ x. is_member_of at k x) (sym (key-is i j e)) ∙ sure))

-- what each key is a member of afterwards
gone-nowhere : (at to : Key → Post) (k : Key) → Disbands at to k → (m : Key) → is_member_of to m k ≡ false
gone-nowhere at to k d m = none_of_two (to k).live (is_key m (to k).leader) d.gone

both_hold : (a b c : Bool) → a ≡ true → b ≡ c → (a && b) ≡ c
both_hold a b c ha e = rw (ha, e) refl

freed-own : (at to : Key → Post) (k : Key) → Disbands at to k → (m j : Key) → (j.0 ≡ k.0 → ⊥) → is_member_of at k j ≡ true → is_member_of to m j ≡ is_key m j
freed-own at to k d m j apart is = grind (arith, nat_tests, both_hold, member-live)

other-same : (at to : Key → Post) (k : Key) → Disbands at to k → (m j : Key) → (j.0 ≡ k.0 → ⊥) → is_member_of at k j ≡ false → is_member_of to m j ≡ is_member_of at m j
other-same at to k d m j apart off = ap (λ x. x.live && is_key m x.leader) (d.others j apart off)

-- members
none-left : (at to : Key → Post) (k : Key) → Disbands at to k → (j : Key) → is_member_of to k j ≡ false
none-left at to k d = grind (arith, nat_tests, gone-nowhere, freed-own, is_key-other, other-same)

freed-members : (at to : Key → Post) (k : Key) → Disbands at to k → AreGrouped at → (m : Key) → (m.0 ≡ k.0 → ⊥) → is_member_of at k m ≡ true → (j : Key) → is_member_of to m j ≡ is_key j m
freed-members at to k d grouped m far member = by_group at (λ j. is_member_of to m j ≡ is_key j m) k
    (gone-nowhere at to k d m ∙ sym (is_key-other k m far))
    (λ j apart is. freed-own at to k d m j apart is ∙ is_key-turned m j)
    (λ j apart off. other-same at to k d m j apart off
    ∙ (last_of_two (at j).live (is_key m (at j).leader) (λ live. is_key-other m (at j).leader (λ e. not-led at m (member-follows at k m far member) grouped j live e))
    ∙ sym (is_key-other j m (λ e. tells-apart at k m j member off e))))

other-members : (at to : Key → Post) (k : Key) → Disbands at to k → (m : Key) → (m.0 ≡ k.0 → ⊥) → is_member_of at k m ≡ false → (j : Key) → is_member_of at m j ≡ is_member_of to m j
other-members at to k d m far off = grind (arith, nat_tests, last_of_two, is_key-other, gone-nowhere, member-led, freed-own, tells-apart, other-same)

pub disbanded-members : (at to : Key → Post) (k : Key) → Disbands at to k → AreGrouped at → ((j leader : Key) → times j (at leader).members ≡ once_if (is_member_of at leader j))
    → (j leader : Key) → times j (to leader).members ≡ once_if (is_member_of to leader j)
disbanded-members at to k d grouped h j = by_group at (λ m. times j (to m).members ≡ once_if (is_member_of to m j)) k
    (ap (times j) d.none ∙ sym (once-false (is_member_of to k j) (none-left at to k d j)))
    (λ m far is. ap (λ x. times j x.members) (d.freed m far is) ∙ (omega (arith, times-cons j m []) ∙ ap once_if (sym (freed-members at to k d grouped m far is j))))
    (λ m far off. ap (λ x. times j x.members) (d.others m far off) ∙ (h j m ∙ ap once_if (other-members at to k d m far off j)))

-- the lists of its context
abbrev pub disband : Bool → Key → List Key → Leaders → Leaders
disband pinned k keys l = record (in_list pinned (all_but k) l) { flexible = (in_list pinned (all_but k) l).flexible ++ keys }

disband-other : (pinned b : Bool) (j k : Key) (keys : List Key) (l : Leaders) → (j.0 ≡ k.0 → ⊥) → times j (pick b (disband pinned k keys l)) ≡ times j (pick b l) + cond b 0 (times j keys)
disband-other true true j k keys l apart = omega (arith, times-all_but_other j k apart l.pinned)
disband-other true false j k keys l apart = count-append (is_key j) l.flexible keys
disband-other false true j k keys l apart = omega arith
disband-other false false j k keys l apart = omega (arith, count-append (is_key j) (all_but k l.flexible) keys, times-all_but_other j k apart l.flexible)

disband-same : (pinned b : Bool) (k : Key) (keys : List Key) (l : Leaders) → times k keys ≡ 0 → ((if pinned then b else not b) ≡ false → times k (pick b l) ≡ 0)
    → times k (pick b (disband pinned k keys l)) ≡ 0
disband-same true true k keys l none off = times-all_but_same k l.pinned
disband-same true false k keys l none off = omega (arith, count-append (is_key k) l.flexible keys, none, off refl)
disband-same false true k keys l none off = off refl
disband-same false false k keys l none off = omega (arith, count-append (is_key k) (all_but k l.flexible) keys, times-all_but_same k l.flexible, none)

-- tests
all_hold : (a b c d : Bool) → a ≡ true → b ≡ true → c ≡ d → ((a && b) && c && true) ≡ d
all_hold a b c d ha hb e = rw (ha, hb, e) (and-true d)

either_fails : (b : Bool) (f : Bool → Bool) (here : Bool) → f true ≡ false → f false ≡ here → here ≡ false → f b ≡ false
either_fails true f here sure off h = sure
either_fails false f here sure off h = off ∙ h

nothing_more : (b : Bool) (n : ℕ) → n ≡ 0 → cond b 0 n ≡ 0
nothing_more true n h = refl
nothing_more false n h = h

-- what a member leads, before and after
led_nowhere : (at : Key → Post) (place : ℕ) (b : Bool) (j : Key) → is_key j (at j).leader ≡ false → leads_in at place b j ≡ false
led_nowhere at place b j off = none_of_three (leads at j) (place_of (at j).context == place) (if (at j).pinned then b else not b) (last_of_two (at j).live (is_key j (at j).leader) (λ live. off))

abbrev leads_by : Post → ℕ → Bool → Key → Bool
leads_by x place b j = (x.live && is_key j x.leader) && place_of x.context == place && (if x.pinned then b else not b)

freed-leads : (at to : Key → Post) (k : Key) → Disbands at to k → AreGrouped at → (place : ℕ) (j : Key) → (j.0 ≡ k.0 → ⊥) → is_member_of at k j ≡ true
    → (leads_in to place true j ≡ false) × (leads_in to place false j ≡ (place_of (at k).context == place))
freed-leads at to k d grouped place j apart is = grind (arith, nat_tests, member-live, member-led, last_fails, all_hold, is_key-same)

other-leads : (at to : Key → Post) (k : Key) → Disbands at to k → (place : ℕ) (b : Bool) (j : Key) → (j.0 ≡ k.0 → ⊥) → is_member_of at k j ≡ false → leads_in to place b j ≡ leads_in at place b j
other-leads at to k d place b j apart off = ap (λ x. leads_by x place b j) (d.others j apart off)

-- how often keys stand among the siblings of a leader
pub record AreSiblings (at : Key → Post) (k : Key) (keys : List Key) : Type 0 where
  pub not_itself : times k keys ≡ 0
  pub others : (j : Key) → (j.0 ≡ k.0 → ⊥) → times j keys ≡ once_if (is_member_of at k j)

freed-listed : (b : Bool) (here : Bool) (n s : ℕ) → n ≡ 0 → s ≡ 1 → (t : Bool) → (b ≡ true → t ≡ false) → (b ≡ false → t ≡ here) → here ≡ true → n + cond b 0 s ≡ once_if t
freed-listed true here n s hn hs t sure off h = omega (arith, hn, once-false t (sure refl))
freed-listed false here n s hn hs t sure off h = omega (arith, hn, hs, once-true t (off refl ∙ h))

pub disbanded-listed : (at to : Key → Post) (k : Key) → Disbands at to k → AreGrouped at → (keys : List Key) → AreSiblings at k keys
    → (contexts : List Leaders) → place_of (at k).context < length contexts
    → ((b : Bool) (j : Key) (place : ℕ) → times j (pick b (slice_index_or contexts place no_leaders)) ≡ once_if (leads_in at place b j))
    → (b : Bool) (j : Key) (place : ℕ)
    → times j (pick b (slice_index_or (slice_set contexts (place_of (at k).context) (disband (at k).pinned k keys (slice_index_or contexts (place_of (at k).context) no_leaders))) place no_leaders))
    ≡ once_if (leads_in to place b j)
disbanded-listed at to k d grouped keys sib contexts low h b j place =
    let p : ℕ = place_of (at k).context in
    let l : Leaders = slice_index_or contexts p no_leaders in
    at_place (λ x. times j (pick b x) ≡ once_if (leads_in to place b j)) contexts p (disband (at k).pinned k keys l) no_leaders place low
    (λ e. by_group at (λ i. times i (pick b (disband (at k).pinned k keys l)) ≡ once_if (leads_in to place b i)) k
    (disband-same (at k).pinned b k keys l sib.not_itself
    (λ off. h b k p ∙ once-false (leads_in at p b k) (last_fails (leads at k) (p == p) (if (at k).pinned then b else not b) off))
    ∙ sym (once-false (leads_in to place b k) (dead_leads to place b k d.gone)))
    (λ i apart is.
    let now : (leads_in to place true i ≡ false) × (leads_in to place false i ≡ (p == place)) = freed-leads at to k d grouped place i apart is in
    disband-other (at k).pinned b i k keys l apart
    ∙ freed-listed b (p == place) (times i (pick b l)) (times i keys)
    (h b i p ∙ once-false (leads_in at p b i) (led_nowhere at p b i (member-follows at k i apart is)))
    (sib.others i apart ∙ once-true (is_member_of at k i) is) (leads_in to place b i)
    (λ sure. ap (λ c. leads_in to place c i) sure ∙ now.0) (λ off. ap (λ c. leads_in to place c i) off ∙ now.1) (grind (arith, nat_tests, e)))
    (λ i apart off. disband-other (at k).pinned b i k keys l apart
    ∙ (omega (arith, nothing_more b (times i keys) (sib.others i apart ∙ once-false (is_member_of at k i) off))
    ∙ (h b i p ∙ ap once_if (ap (λ n. leads_in at n b i) (sym e) ∙ sym (other-leads at to k d place b i apart off))))) j)
    (λ away. h b j place ∙ ap once_if (by_group at (λ i. leads_in at place b i ≡ leads_in to place b i) k
    (middle_fails (leads at k) (p == place) (if (at k).pinned then b else not b) (grind (arith, nat_tests, away)) ∙ sym (dead_leads to place b k d.gone))
    (λ i apart is. led_nowhere at place b i (member-follows at k i apart is)
    ∙ sym (either_fails b (λ c. leads_in to place c i) (p == place) (freed-leads at to k d grouped place i apart is).0 (freed-leads at to k d grouped place i apart is).1
    (grind (arith, nat_tests, away))))
    (λ i apart off. sym (other-leads at to k d place b i apart off)) j))

-- groups
pub disbanded-grouped : (at to : Key → Post) (k : Key) → Disbands at to k → AreGrouped at → AreGrouped to
disbanded-grouped at to k d h =
    let dead : (P : Type 0) → (to k).live ≡ true → P = λ P live. absurd (false≢true (sym d.gone ∙ live)) in
    let freed_leads : (j : Key) → (j.0 ≡ k.0 → ⊥) → is_member_of at k j ≡ true → leads to j ≡ true = λ j apart is.
    (ap (λ x. x.live && is_key j x.leader) (d.freed j apart is) ∙ both_hold (at j).live (is_key j j) true (member-live at k j is) (is_key-same j j refl)) in
    let leader_of : (j : Key) → (j.0 ≡ k.0 → ⊥) → is_member_of at k j ≡ false → (to j).live ≡ true
    → (leads to (to j).leader ≡ true) × ((to (to j).leader).context ≡ (to j).context) = λ j apart off live.
    (let was : (at j).live ≡ true = sym (ap (λ x. x.live) (d.others j apart off)) ∙ live in
    let m : Key = (at j).leader in
    let lead : leads at m ≡ true = h.led j was in
    let far : m.0 ≡ k.0 → ⊥ = λ e. false≢true (sym off ∙ both_hold (at j).live (is_key k m) true was (is_key-same k m e)) in
    let outside : is_member_of at k m ≡ false = grind (arith, nat_tests, false≢true, member-follows, leads-parts) in
    let same : (to j).leader ≡ m = ap (λ x. x.leader) (d.others j apart off) in (
      ap (leads to) same ∙ (ap (λ x. x.live && is_key m x.leader) (d.others m far outside) ∙ lead),
      ap (λ x. (to x).context) same ∙ (ap (λ x. x.context) (d.others m far outside) ∙ (h.together j was ∙ sym (ap (λ x. x.context) (d.others j apart off)))),
    )) in
    record {
      led = by_group at (λ j. (to j).live ≡ true → leads to (to j).leader ≡ true) k
          (dead (leads to (to k).leader ≡ true))
          (λ j apart is live. ap (λ x. leads to x.leader) (d.freed j apart is) ∙ freed_leads j apart is)
          (λ j apart off live. (leader_of j apart off live).0);
      together = by_group at (λ j. (to j).live ≡ true → (to (to j).leader).context ≡ (to j).context) k
          (dead ((to (to k).leader).context ≡ (to k).context))
          (λ j apart is live. ap (λ x. (to x.leader).context) (d.freed j apart is))
          (λ j apart off live. (leader_of j apart off live).1);
      leader_first = by_group at (λ j. leads to j ≡ true → (to j).members ≡ j ∷ after_first (to j).members) k
          (λ lead. dead ((to k).members ≡ k ∷ after_first (to k).members) (leads-parts (to k).live (is_key k (to k).leader) lead).0)
          (λ j apart is lead. subst (λ ms. ms ≡ j ∷ after_first ms) (sym (ap (λ x. x.members) (d.freed j apart is))) refl)
          (λ j apart off lead. subst (λ ms. ms ≡ j ∷ after_first ms) (sym (ap (λ x. x.members) (d.others j apart off)))
          (h.leader_first j (sym (ap (λ x. x.live && is_key j x.leader) (d.others j apart off)) ∙ lead)));
      small = by_group at (λ j. length (to j).members ≤ 8) k
          (subst (λ ms. length ms ≤ 8) (sym d.none) (omega arith))
          (λ j apart is. subst (λ ms. length ms ≤ 8) (sym (ap (λ x. x.members) (d.freed j apart is))) (omega arith))
          (λ j apart off. subst (λ ms. length ms ≤ 8) (sym (ap (λ x. x.members) (d.others j apart off))) (h.small j));
    }
