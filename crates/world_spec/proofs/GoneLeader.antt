-- A leader that goes: the tables after it, and that the world is kept.
use Rattle.std.specs.Prelude.{◌≡◌, ℕ, ◌+◌, ◌<◌, ◌≤◌, Bool, true, false, List, [], ◌∷◌, length, map, Option, Some, slice_index_or}
use Rattle.std.specs.{FinMap.{FinMap, get, contains_key, insert, remove}, List.{fold}, Option.{unwrap_or}, Ordering.{nat_cmp}}
use Rattle.std.proofs.{Common.{arith, refl, sym, ap, subst, ◌∙◌, inl, inr}, lemmas.{Bool.{cases_eq, cases_Bool}, List.{length-map, length-set}}}
use Rattle.perf_base.specs.{declared.{attr.Kind.{Kind}, numbers.Key.{Key}, standing.Standing.{Standing}}}
use Rattle.perf_base.specs.declared.standing.Standing.TheVariants as standing
use Rattle.stage_spec.specs.{Fits.{fits, fits_beside}, Hardware.{Hardware, is_software, mask_of}}
use Rattle.stage_spec.specs.{Stage.{place_of}}
use Rattle.stage_laws.proofs.Fitting.{fits_beside-others, fits_beside-rest}
use Rattle.world_spec.specs.Value.{World, Entry, no_leaders, no_entry, is_live, entry_at, instance_at, is_key, times}
use Rattle.world_spec.specs.StageOf.{after_first, lists_at}
use Rattle.world_spec.specs.{Kept.{post_at, once_if, is_member_of, leads, leads_in, kinds_in, AreFitting, AreLawful, IsKept}, Changes.{with_leaders}}
use Rattle.world_spec.specs.{Adding.{free_entry, freed, taken_out, drop_instance}, Goings.{MayGo}}
use Rattle.world_spec.proofs.Tables.{get-here, get-there, keys-written, post_of}
use Rattle.world_spec.proofs.{Keys.{key-is, is_key-same, is_key-other, is_key-true, times-cons, once-true, once-false}, Moving.{leads-parts}}
use Rattle.world_spec.proofs.{ComingLinks.{last_of_two}, Copies.{goes-rising}, ComingGroups.{pick, map-apart}, AddedKept.{both-picks}}
use Rattle.world_spec.proofs.Going.{Goes, still-apart, still-live, goes-numbered, goes-apart, goes-originals, goes-copies}
use Rattle.world_spec.proofs.{GoneSibling.{hardware_masks, masks-cons}, Gone.{get-gone, get-left, small-left, fewer-keys, nothing-fits}}
use Rattle.world_spec.proofs.Disbanding.{Disbands, by_group, disbands-goes, member-live, disbanded-members, disband, AreSiblings, disbanded-listed, disbanded-grouped}

-- the tables after the siblings were freed
abbrev pub freed_entry : Key → Entry → Entry
freed_entry j e = record e { leader = j; members = j ∷ []; pinned = false }

abbrev entry_in : FinMap nat_cmp Entry → Key → Entry
entry_in m q = unwrap_or (get m q.0) no_entry

abbrev pub freed_entries : FinMap nat_cmp Entry → Key → FinMap nat_cmp Entry
freed_entries m k = free_entry m k (entry_in m k)

abbrev pub freed_standings : FinMap nat_cmp Standing → Key → FinMap nat_cmp Standing
freed_standings m k = insert m k.0 standing.Out

pub freed-fields : (keys : List Key) (w : World) → fold freed w keys ≡ record w { entries = fold freed_entries w.entries keys; standings = fold freed_standings w.standings keys }
freed-fields [] w = refl
freed-fields (k ∷ keys) w = freed-fields keys (freed w k)

-- those of keys that were not freed, and those of keys that were
not-freed : (keys : List Key) (m : FinMap nat_cmp Entry) (q : Key) → times q keys ≡ 0 → get (fold freed_entries m keys) q.0 ≡ get m q.0
not-freed [] m q none = refl
not-freed (k ∷ keys) m q none = elim (cases_eq q.0 k.0) [
  | inl e ↦ absurd (omega (arith, none, times-cons q k keys, once-true (is_key q k) (is_key-same q k (sym e))))
  | inr apart ↦ not-freed keys (freed_entries m k) q (omega (arith, none, times-cons q k keys)) ∙ get-there m k.0 (freed_entry k (entry_in m k)) q.0 apart
]

freed-again : (m : FinMap nat_cmp Entry) (k q : Key) → freed_entry q (entry_in (freed_entries m k) q) ≡ freed_entry q (entry_in m q)
freed-again m k q = grind (arith, get-here, get-there)

were-freed : (keys : List Key) (m : FinMap nat_cmp Entry) (q : Key) → 1 ≤ times q keys → get (fold freed_entries m keys) q.0 ≡ Some (freed_entry q (entry_in m q))
were-freed [] m q some = absurd (omega (arith, some))
were-freed (k ∷ keys) m q some = elim (cases_eq (times q keys) 0) [
  | inr more ↦ were-freed keys (freed_entries m k) q (omega (arith, more)) ∙ ap {B = Option Entry} Some (freed-again m k q)
  | inl none ↦ elim (cases_eq q.0 k.0) [
    | inl e ↦ grind (arith, not-freed, get-here, e, key-is)
    | inr apart ↦ absurd (omega (arith, some, none, times-cons q k keys, once-false (is_key q k) (is_key-other q k (λ e. apart (sym e)))))
  ]
]

same-standings : (keys : List Key) (m : FinMap nat_cmp Standing) → ((j : Key) → 1 ≤ times j keys → contains_key m j.0 ≡ true) → (q : Key)
    → contains_key (fold freed_standings m keys) q.0 ≡ contains_key m q.0
same-standings [] m there q = refl
same-standings (k ∷ keys) m there q =
    let mine : contains_key m k.0 ≡ true = there k (omega (arith, times-cons k k keys, once-true (is_key k k) (is_key-same k k refl))) in
    same-standings keys (freed_standings m k) (λ j some. keys-written m k.0 standing.Out mine j.0 ∙ there j (omega (arith, some, times-cons j k keys))) q
    ∙ keys-written m k.0 standing.Out mine q.0

-- the world after a leader went, by those tables
abbrev pub led_world : World → Key → FinMap nat_cmp Entry → FinMap nat_cmp Standing → World
led_world w k entries standings =
    taken_out k (instance_at w k) (with_leaders (entry_at w k).context (disband (entry_at w k).pinned k (after_first (entry_at w k).members)) (record w { entries = entries; standings = standings }))

abbrev pub entries_freed : World → Key → FinMap nat_cmp Entry
entries_freed w k = fold freed_entries w.entries (after_first (entry_at w k).members)

abbrev pub standings_freed : World → Key → FinMap nat_cmp Standing
standings_freed w k = fold freed_standings w.standings (after_first (entry_at w k).members)

pub dropped-leader : (w : World) (k : Key) → is_key k (entry_at w k).leader ≡ true → drop_instance k w ≡ led_world w k (entries_freed w k) (standings_freed w k)
dropped-leader w k own = grind (arith, disband, freed-fields)

pub record AreFreed (w : World) (k : Key) (entries : FinMap nat_cmp Entry) (standings : FinMap nat_cmp Standing) : Type 0 where
  pub freed : (q : Key) → (q.0 ≡ k.0 → ⊥) → is_member_of (post_at w) k q ≡ true → get entries q.0 ≡ Some (freed_entry q (entry_at w q))
  pub others : (q : Key) → (q.0 ≡ k.0 → ⊥) → is_member_of (post_at w) k q ≡ false → get entries q.0 ≡ get w.entries q.0
  pub same : (q : Key) → contains_key standings q.0 ≡ contains_key w.standings q.0

pub siblings-stand : (hw : Hardware) (w : World) (k : Key) → IsKept hw w → leads (post_at w) k ≡ true → AreSiblings (post_at w) k (after_first (entry_at w k).members)
siblings-stand hw w k h lead =
    let keys : List Key = after_first (entry_at w k).members in
    let all : (j : Key) → times j (entry_at w k).members ≡ once_if (is_key j k) + times j keys = λ j. ap (times j) (h.grouped.leader_first k lead) ∙ times-cons j k keys in
    grind (arith, all, once-true, is_key-same, once-false, is_key-other)

pub tables-freed : (hw : Hardware) (w : World) (k : Key) → IsKept hw w → leads (post_at w) k ≡ true → AreFreed w k (entries_freed w k) (standings_freed w k)
tables-freed hw w k h lead =
    let keys : List Key = after_first (entry_at w k).members in
    let sib : AreSiblings (post_at w) k keys = siblings-stand hw w k h lead in
    record {
      freed = λ q apart is. were-freed keys w.entries q (omega (arith, sib.others q apart, once-true (is_member_of (post_at w) k q) is));
      others = λ q apart off. not-freed keys w.entries q (sib.others q apart ∙ once-false (is_member_of (post_at w) k q) off);
      same = same-standings keys w.standings (by_group (post_at w) (λ j. 1 ≤ times j keys → contains_key w.standings j.0 ≡ true) k
          (λ some. absurd (omega (arith, some, sib.not_itself)))
          (λ j apart is some. h.tables.standings j ∙ member-live (post_at w) k j is)
          (λ j apart off some. absurd (omega (arith, some, sib.others j apart, once-false (is_member_of (post_at w) k j) off))));
    }

pub led-disbands : (w : World) (k : Key) (entries : FinMap nat_cmp Entry) (standings : FinMap nat_cmp Standing) → leads (post_at w) k ≡ true → AreFreed w k entries standings
    → Disbands (post_at w) (post_at (led_world w k entries standings)) k
led-disbands w k entries standings lead f =
    let parts : (is_live w k ≡ true) × (is_key k (entry_at w k).leader ≡ true) = leads-parts (is_live w k) (is_key k (entry_at w k).leader) lead in
    grind (arith, key-is, is_key-true, get-gone, get-left, post_of, member-live)

pub led-instance : (w : World) (k : Key) (entries : FinMap nat_cmp Entry) (standings : FinMap nat_cmp Standing) → AreFreed w k entries standings
    → (j : Key) → (j.0 ≡ k.0 → ⊥) → instance_at (led_world w k entries standings) j ≡ instance_at w j
led-instance w k entries standings f j apart = grind (arith, get-left)

-- one of the kinds that fit together fits alone
mask-alone : (hw : Hardware) (kind : Key → Kind) (j : Key) (ms : List Key) (taken : List ℕ) → fits_beside (hardware_masks hw (map kind ms)) taken ≡ true → 1 ≤ times j ms
    → fits_beside (hardware_masks hw (kind j ∷ [])) taken ≡ true
unfolding fits_beside
mask-alone hw kind j [] taken h some = absurd (omega (arith, some))
mask-alone hw kind j (m ∷ ms) taken h some =
    let rest : List ℕ = hardware_masks hw (map kind ms) in
    let mask : ℕ = mask_of hw (kind m) in
    elim (cases_eq m.0 j.0) [
      | inl e ↦ subst (λ x. fits_beside (hardware_masks hw (kind x ∷ [])) taken ≡ true) (key-is m j e) (elim (cases_Bool (is_software (kind m))) [
        | inl soft ↦ ap (λ xs. fits_beside xs taken) (masks-cons hw (kind m) [] true soft)
        | inr hard ↦ ap (λ xs. fits_beside xs taken) (masks-cons hw (kind m) [] false hard) ∙ fits_beside-others mask rest [] taken (λ more k. refl)
            (ap (λ xs. fits_beside xs taken) (sym (masks-cons hw (kind m) (map kind ms) false hard)) ∙ h)
      ])
      | inr apart ↦
          let more : 1 ≤ times j ms = omega (arith, some, times-cons j m ms, once-false (is_key j m) (is_key-other j m apart)) in
          elim (cases_Bool (is_software (kind m))) [
            | inl soft ↦ mask-alone hw kind j ms taken (ap (λ xs. fits_beside xs taken) (sym (masks-cons hw (kind m) (map kind ms) true soft)) ∙ h) more
            | inr hard ↦ mask-alone hw kind j ms taken (fits_beside-rest mask rest taken
                (ap (λ xs. fits_beside xs taken) (sym (masks-cons hw (kind m) (map kind ms) false hard)) ∙ h)) more
          ]
    ]

fitting-alone : (hw : Hardware) (kind : Key → Kind) (j : Key) (ms : List Key) → 1 ≤ times j ms → AreFitting hw (map kind ms) → AreFitting hw (kind j ∷ [])
unfolding fits
fitting-alone hw kind j ms some h = record {
  fit = mask-alone hw kind j ms [] h.fit some;
  one_pmu = λ a b d below low. absurd (omega (arith, below, low));
}

kinds-led : (hw : Hardware) (w : World) (k : Key) (entries : FinMap nat_cmp Entry) (standings : FinMap nat_cmp Standing) → IsKept hw w → AreFreed w k entries standings
    → Disbands (post_at w) (post_at (led_world w k entries standings)) k → (j : Key) → AreFitting hw (kinds_in (post_at (led_world w k entries standings)) j)
kinds-led hw w k entries standings h f d =
    let t : World = led_world w k entries standings in
    let now : Key → Kind = λ q. (instance_at t q).attr.kind in
    let kind : Key → Kind = λ q. (instance_at w q).attr.kind in
    by_group (post_at w) (λ j. AreFitting hw (kinds_in (post_at t) j)) k
    (subst (λ ms. AreFitting hw (map now ms)) (sym d.none) (nothing-fits hw))
    (λ j apart is. subst (λ ms. AreFitting hw (map now ms)) (sym (ap (λ x. x.members) (d.freed j apart is)))
    (subst (λ x. AreFitting hw (x ∷ [])) (sym (ap (λ i. i.attr.kind) (led-instance w k entries standings f j apart)))
    (fitting-alone hw kind j (entry_at w k).members (omega (arith, h.linked.members j k, once-true (is_member_of (post_at w) k j) is)) (h.fitting k))))
    (λ j apart off. subst (λ ms. AreFitting hw (map now ms)) (sym (ap (λ x. x.members) (d.others j apart off)))
    (subst (AreFitting hw) (sym (map-apart now kind k (λ q far. ap (λ i. i.attr.kind) (led-instance w k entries standings f q far)) (entry_at w j).members
    (h.linked.members k j ∙ once-false (is_member_of (post_at w) j k) (last_of_two (is_live w k) (is_key j (entry_at w k).leader)
    (λ live. ap (is_key j) d.own ∙ is_key-other j k (λ e. apart (sym e)))))))
    (h.fitting j)))

lawful-led : (hw : Hardware) (w : World) (k : Key) (entries : FinMap nat_cmp Entry) (standings : FinMap nat_cmp Standing) → IsKept hw w → AreFreed w k entries standings
    → Disbands (post_at w) (post_at (led_world w k entries standings)) k → AreLawful (led_world w k entries standings)
lawful-led hw w k entries standings h f d =
    let t : World = led_world w k entries standings in
    let g : Goes (post_at w) (post_at t) k = disbands-goes (post_at w) (post_at t) k d in
    let far : (j : Key) → is_live t j ≡ true → j.0 ≡ k.0 → ⊥ = still-apart (post_at w) (post_at t) k g in
    let was : (j : Key) → is_live t j ≡ true → is_live w j ≡ true = still-live (post_at w) (post_at t) k g in
    let same : (j : Key) → is_live t j ≡ true → instance_at t j ≡ instance_at w j = λ j live. led-instance w k entries standings f j (far j live) in
    grind (arith, far, is_key-same, was, same)

pub led-kept : (hw : Hardware) (w : World) (k : Key) (entries : FinMap nat_cmp Entry) (standings : FinMap nat_cmp Standing) → leads (post_at w) k ≡ true → AreFreed w k entries standings
    → MayGo w k → IsKept hw w → IsKept hw (led_world w k entries standings)
led-kept hw w k entries standings lead f may h =
    let t : World = led_world w k entries standings in
    let keys : List Key = after_first (entry_at w k).members in
    let place : ℕ = place_of (entry_at w k).context in
    let d : Disbands (post_at w) (post_at t) k = led-disbands w k entries standings lead f in
    let g : Goes (post_at w) (post_at t) k = disbands-goes (post_at w) (post_at t) k d in
    let low : (instance_at w k).event.0 < length w.families = omega (arith, h.numbered.slots k may.live, h.tables.families) in
    let size : length w.contexts ≡ 72 = sym (length-map w.contexts (lists_at w)) ∙ h.shape.contexts in
    let listed : (b : Bool) (j : Key) (place : ℕ) → times j (pick b (slice_index_or t.contexts place no_leaders)) ≡ once_if (leads_in (post_at t) place b j) =
    disbanded-listed (post_at w) (post_at t) k d h.grouped keys (siblings-stand hw w k h lead) w.contexts (omega (arith, h.numbered.places k may.live, size))
    (both-picks w w.contexts (post_at w) h.linked.pinned h.linked.flexible) in
    let alive : (j : Key) → (j.0 ≡ k.0 → ⊥) → is_live t j ≡ is_live w j = λ j apart. ap (λ x. x.live) (g.others j apart) in
    record {
      tables = record {
        accounts = fewer-keys w.accounts k (is_live w) (is_live t) h.tables.accounts g.gone alive;
        standings = fewer-keys standings k (is_live w) (is_live t) (λ j. f.same j ∙ h.tables.standings j) g.gone alive;
        families = length-set w.families (instance_at w k).event.0 _ ∙ h.tables.families;
        folded = h.tables.folded;
        lost = h.tables.lost;
        clocks = h.tables.clocks;
        totals = h.tables.totals;
        seats = h.tables.seats;
      };
      shape = record {
        running = h.shape.running;
        tasks = h.shape.tasks;
        contexts = length-map t.contexts (lists_at t) ∙ (length-set w.contexts place _ ∙ size);
      };
      running = record { live = h.running.live; once = h.running.once };
      linked = record {
        originals = goes-originals (post_at w) (post_at t) k g w.families low h.linked.originals;
        copies = goes-copies (post_at w) (post_at t) k g w.families low h.linked.copies;
        members = disbanded-members (post_at w) (post_at t) k d h.grouped h.linked.members;
        pinned = listed true;
        flexible = listed false;
      };
      copies = goes-rising (post_at w) (post_at t) k g w.families low (goes-copies (post_at w) (post_at t) k g w.families low h.linked.copies) h.copies;
      grouped = disbanded-grouped (post_at w) (post_at t) k d h.grouped;
      numbered = goes-numbered (post_at w) (post_at t) k w.quiet.next_id g h.numbered;
      apart = goes-apart (post_at w) (post_at t) k g may.last h.apart;
      fitting = kinds-led hw w k entries standings h f d;
      lawful = lawful-led hw w k entries standings h f d;
      seated = h.seated;
      small = small-left w k (remove entries k.0) (remove standings k.0) t.contexts low h.small;
    }
