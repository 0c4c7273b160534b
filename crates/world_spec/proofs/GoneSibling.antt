-- The members, the lists, the groups and the kinds of groups after a sibling went.
use Rattle.std.specs.Prelude.{◌≡◌, ℕ, ◌≤◌, ◌==◌, Bool, true, false, not, ◌&&◌, cond, List, [], ◌∷◌, length, map, filter, slice_index_or, if◌then◌else◌}
use Rattle.std.{specs.List.{AllPairs}, proofs.{Common.{arith, sym, ap, subst, ◌∙◌, inl, inr}, lemmas.Bool.{cases_eq, cases_Bool, false≢true}}}
use Rattle.std.proofs.lemmas.List.{get_or_default, length-map, Kept.{AllPairs-filter}, Sums.{length-filter, count_by-le-length}}
use Rattle.std.proofs.Math.ListN.{get_or-map}
use Rattle.perf_base.specs.declared.{attr.Kind.{Kind}, numbers.Key.{Key}}
use Rattle.stage_spec.specs.{Fits.{fits, fits_beside}, Hardware.{Hardware, is_software, mask_of}, Opening.{is_other_pmu}, Stage.{place_of}}
use Rattle.stage_laws.proofs.Fitting.{fits_beside-others, fits_beside-rest}
use Rattle.world_spec.specs.{Value.{Leaders, no_leaders, is_key, times}, StageOf.{after_first}}
use Rattle.world_spec.specs.{Kept.{Post, once_if, is_member_of, leads, leads_in, AreFitting, AreGrouped}, Changes.{all_but}}
use Rattle.world_spec.proofs.{Keys.{key-is, is_key-other, times-all_but_same, times-all_but_other, once-false}, Moving.{leads-parts}}
use Rattle.world_spec.proofs.{Coming.{core, by_coming}, ComingLinks.{none_of_two, none_of_three, last_of_two}, ComingGroups.{pick, dead_leads}}
use Rattle.world_spec.proofs.Going.{Goes, still-apart, still-live}

-- a key goes, and of others the members alone may change
pub record GoesAlone (at to : Key → Post) (k : Key) : Type 0 where
  pub goes : Goes at to k
  pub same : (j : Key) → (j.0 ≡ k.0 → ⊥) → core (to j) ≡ core (at j)

-- nobody is led by a sibling
pub not-led : (at : Key → Post) (k : Key) → is_key k (at k).leader ≡ false → AreGrouped at → (j : Key) → (at j).live ≡ true → (at j).leader.0 ≡ k.0 → ⊥
not-led at k sibling h j live e = grind (arith, leads-parts, false≢true, key-is)

pub gone-members : (at to : Key → Post) (k : Key) → GoesAlone at to k → is_key k (at k).leader ≡ false → AreGrouped at → (to k).members ≡ []
    → (to (at k).leader).members ≡ all_but k (at (at k).leader).members
    → ((j : Key) → (j.0 ≡ k.0 → ⊥) → (j.0 ≡ (at k).leader.0 → ⊥) → (to j).members ≡ (at j).members)
    → ((j leader : Key) → times j (at leader).members ≡ once_if (is_member_of at leader j))
    → (j leader : Key) → times j (to leader).members ≡ once_if (is_member_of to leader j)
gone-members at to k g sibling grouped none fewer others h j leader =
    let dead : (to k).live && is_key leader (to k).leader ≡ false = none_of_two (to k).live (is_key leader (to k).leader) g.goes.gone in
    let there : j.0 ≡ k.0 → is_member_of to leader j ≡ false = λ e. ap (λ x. is_member_of to leader x) (key-is j k e) ∙ dead in
    let same : (j.0 ≡ k.0 → ⊥) → is_member_of to leader j ≡ is_member_of at leader j = λ apart. ap (λ x. x.live && is_key leader x.leader) (g.same j apart) in
    elim (cases_eq leader.0 k.0) [
      | inl el ↦
          ap (λ x. times j (to x).members) (key-is leader k el) ∙ (ap (times j) none ∙ sym (once-false (is_member_of to leader j) (elim (cases_eq j.0 k.0) [
            | inl ej ↦ there ej
            | inr apart ↦ same apart ∙ last_of_two (at j).live (is_key leader (at j).leader) (λ live. is_key-other leader (at j).leader (λ e. not-led at k sibling grouped j live (e ∙ el)))
          ])))
      | inr other ↦ elim (cases_eq leader.0 (at k).leader.0) [
        | inl el ↦
            ap (λ x. times j (to x).members) (key-is leader (at k).leader el) ∙ (ap (times j) fewer ∙ elim (cases_eq j.0 k.0) [
              | inl ej ↦ ap (λ x. times x (all_but k (at (at k).leader).members)) (key-is j k ej) ∙ (times-all_but_same k (at (at k).leader).members ∙ sym (once-false (is_member_of to leader j) (there ej)))
              | inr apart ↦
                  times-all_but_other j k apart (at (at k).leader).members ∙ (ap (λ x. times j (at x).members) (sym (key-is leader (at k).leader el)) ∙ (h j leader ∙ ap once_if (sym (same apart))))
            ])
        | inr off ↦ ap (times j) (others leader other off) ∙ (h j leader ∙ elim (cases_eq j.0 k.0) [
          | inl ej ↦ grind (arith, key-is, ej, last_of_two, is_key-other)
          | inr apart ↦ ap once_if (sym (same apart))
        ])
      ]
    ]

pub gone-listed : (at to : Key → Post) (k : Key) → GoesAlone at to k → is_key k (at k).leader ≡ false → (contexts : List Leaders)
    → ((b : Bool) (j : Key) (place : ℕ) → times j (pick b (slice_index_or contexts place no_leaders)) ≡ once_if (leads_in at place b j))
    → (b : Bool) (j : Key) (place : ℕ) → times j (pick b (slice_index_or contexts place no_leaders)) ≡ once_if (leads_in to place b j)
gone-listed at to k g sibling contexts h b j place = h b j place ∙ elim (cases_eq j.0 k.0) [
  | inl e ↦ grind (arith, none_of_three, last_of_two, key-is, e, dead_leads)
  | inr apart ↦ ap once_if (sym (ap (λ x. (x.live && is_key j x.leader) && place_of x.context == place && (if x.pinned then b else not b)) (g.same j apart)))
]

all_but-first : (ms : List Key) (first k : Key) → (first.0 ≡ k.0 → ⊥) → ms ≡ first ∷ after_first ms → all_but k ms ≡ first ∷ after_first (all_but k ms)
all_but-first [] first k apart h = absurd (cc)
all_but-first (m ∷ ms) first k apart h = grind (arith, is_key-other)

pub length-all_but : (k : Key) (ms : List Key) → length (all_but k ms) ≤ length ms
length-all_but k ms = omega (arith, length-filter (λ j. not (is_key k j)) ms, count_by-le-length (λ j. not (is_key k j)) ms)

pub gone-grouped : (at to : Key → Post) (k : Key) → GoesAlone at to k → is_key k (at k).leader ≡ false → (to k).members ≡ []
    → (to (at k).leader).members ≡ all_but k (at (at k).leader).members
    → ((j : Key) → (j.0 ≡ k.0 → ⊥) → (j.0 ≡ (at k).leader.0 → ⊥) → (to j).members ≡ (at j).members) → AreGrouped at → AreGrouped to
gone-grouped at to k g sibling none fewer others h =
    let first : Key = (at k).leader in
    let far : first.0 ≡ k.0 → ⊥ = λ e. not-led at k sibling h k g.goes.live e in
    let leads_same : (j : Key) → (j.0 ≡ k.0 → ⊥) → leads to j ≡ leads at j = λ j apart. ap (λ x. x.live && is_key j x.leader) (g.same j apart) in
    let was : (j : Key) → (to j).live ≡ true → (j.0 ≡ k.0 → ⊥) × ((at j).leader.0 ≡ k.0 → ⊥) =
    λ j live. (still-apart at to k g.goes j live, not-led at k sibling h j (still-live at to k g.goes j live)) in
    let by_first : (P : Key → List Key → Type 0) → P k [] → P first (all_but k (at first).members) → ((j : Key) → (j.0 ≡ k.0 → ⊥) → P j (at j).members) → (j : Key) → P j (to j).members =
    grind (arith, by_coming, key-is) in
    record {
      led = λ j live.
          let leader : (to j).leader ≡ (at j).leader = ap (λ x. x.leader) (g.same j (was j live).0) in
          ap (leads to) leader ∙ (leads_same (at j).leader (was j live).1 ∙ h.led j (still-live at to k g.goes j live));
      together = λ j live.
          let leader : (to j).leader ≡ (at j).leader = ap (λ x. x.leader) (g.same j (was j live).0) in
          ap (λ x. (to x).context) leader ∙ (ap (λ x. x.context) (g.same (at j).leader (was j live).1)
          ∙ (h.together j (still-live at to k g.goes j live) ∙ sym (ap (λ x. x.context) (g.same j (was j live).0))));
      leader_first = by_first (λ j ms. leads to j ≡ true → ms ≡ j ∷ after_first ms)
          (λ lead. absurd (false≢true (sym (none_of_two (to k).live (is_key k (to k).leader) g.goes.gone) ∙ lead)))
          (λ lead. all_but-first (at first).members first k far (h.leader_first first (sym (leads_same first far) ∙ lead)))
          (λ j apart lead. h.leader_first j (sym (leads_same j apart) ∙ lead));
      small = by_first (λ j ms. length ms ≤ 8) (omega arith) (omega (arith, h.small first, length-all_but k (at first).members)) (λ j apart. h.small j);
    }

-- fewer kinds fit too
abbrev pub hardware_masks : Hardware → List Kind → List ℕ
hardware_masks hw kinds = map (mask_of hw) (filter (λ k. not (is_software k)) kinds)

pub masks-cons : (hw : Hardware) (x : Kind) (kinds : List Kind) (b : Bool) → is_software x ≡ b
    → hardware_masks hw (x ∷ kinds) ≡ cond (not b) (mask_of hw x ∷ hardware_masks hw kinds) (hardware_masks hw kinds)
masks-cons hw x kinds true e = ap {B = List ℕ} (λ c. map (mask_of hw) (cond (not c) (x ∷ filter (λ y. not (is_software y)) kinds) (filter (λ y. not (is_software y)) kinds))) e
masks-cons hw x kinds false e = ap {B = List ℕ} (λ c. map (mask_of hw) (cond (not c) (x ∷ filter (λ y. not (is_software y)) kinds) (filter (λ y. not (is_software y)) kinds))) e

masks-fewer : (hw : Hardware) (kind : Key → Kind) (k : Key) (ms : List Key) (taken : List ℕ)
    → fits_beside (hardware_masks hw (map kind ms)) taken ≡ true → fits_beside (hardware_masks hw (map kind (all_but k ms))) taken ≡ true
masks-fewer hw kind k [] taken h = h
masks-fewer hw kind k (m ∷ ms) taken h =
    let rest : List ℕ = hardware_masks hw (map kind ms) in
    let left : List ℕ = hardware_masks hw (map kind (all_but k ms)) in
    let mask : ℕ = mask_of hw (kind m) in
    let with_m : (b : Bool) → is_software (kind m) ≡ b → (keys : List Key) → hardware_masks hw (map kind (m ∷ keys)) ≡ cond (not b) (mask ∷ hardware_masks hw (map kind keys)) (hardware_masks hw (map kind keys)) =
    λ b e keys. masks-cons hw (kind m) (map kind keys) b e in
    let kept : (b : Bool) → is_key k m ≡ b → all_but k (m ∷ ms) ≡ cond (not b) (m ∷ all_but k ms) (all_but k ms) = λ b e. ap {B = List Key} (λ c. cond (not c) (m ∷ all_but k ms) (all_but k ms)) e in
    elim (cases_Bool (is_software (kind m))) [
      | inl soft ↦ grind (arith, soft, masks-fewer hw kind k ms taken (ap (λ xs. fits_beside xs taken) (sym (with_m true soft ms)) ∙ h))
      | inr hard ↦
          let whole : fits_beside (mask ∷ rest) taken ≡ true = ap (λ xs. fits_beside xs taken) (sym (with_m false hard ms)) ∙ h in
          elim (cases_Bool (is_key k m)) [
            | inl gone ↦ ap (λ keys. fits_beside (hardware_masks hw (map kind keys)) taken) (kept true gone) ∙ masks-fewer hw kind k ms taken (fits_beside-rest mask rest taken whole)
            | inr stays ↦ ap (λ keys. fits_beside (hardware_masks hw (map kind keys)) taken) (kept false stays) ∙ (ap (λ xs. fits_beside xs taken) (with_m false hard (all_but k ms))
                ∙ fits_beside-others mask rest left taken (λ more. masks-fewer hw kind k ms more) whole)
          ]
    ]

pairs-fewer : (hw : Hardware) (kind : Key → Kind) (k : Key) (ms : List Key) → AllPairs (λ x y. is_other_pmu hw x y ≡ false) (map kind ms)
    → AllPairs (λ x y. is_other_pmu hw x y ≡ false) (map kind (all_but k ms))
pairs-fewer hw kind k ms h =
    let keys : AllPairs (λ x y. is_other_pmu hw (kind x) (kind y) ≡ false) ms = λ i j d below low.
    (subst (λ x. is_other_pmu hw (kind (slice_index_or ms i d)) x ≡ false) (get_or-map kind ms j d)
    (subst (λ x. is_other_pmu hw x (slice_index_or (map kind ms) j (kind d)) ≡ false) (get_or-map kind ms i d) (h i j (kind d) below (omega (arith, low, length-map ms kind))))) in
    let fewer : AllPairs (λ x y. is_other_pmu hw (kind x) (kind y) ≡ false) (all_but k ms) = AllPairs-filter (λ x y. is_other_pmu hw (kind x) (kind y) ≡ false) (λ j. not (is_key k j)) ms keys in
    λ i j d below low.
    let size : length (map kind (all_but k ms)) ≡ length (all_but k ms) = length-map (all_but k ms) kind in
    let at_i : slice_index_or (map kind (all_but k ms)) i d ≡ kind (slice_index_or (all_but k ms) i k) =
    get_or_default (map kind (all_but k ms)) i d (kind k) (omega (arith, below, low)) ∙ get_or-map kind (all_but k ms) i k in
    let at_j : slice_index_or (map kind (all_but k ms)) j d ≡ kind (slice_index_or (all_but k ms) j k) =
    get_or_default (map kind (all_but k ms)) j d (kind k) low ∙ get_or-map kind (all_but k ms) j k in
    grind (arith, at_i, at_j, fewer, size)

pub fitting-fewer : (hw : Hardware) (kind : Key → Kind) (k : Key) (ms : List Key) → AreFitting hw (map kind ms) → AreFitting hw (map kind (all_but k ms))
unfolding fits
fitting-fewer hw kind k ms h = search (masks-fewer, pairs-fewer)
