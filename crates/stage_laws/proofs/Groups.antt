-- What a group is, through the changes of a group: a change of its members, members that go, a copy, and one that
-- joins.
use Rattle.std.specs.Prelude.{◌≡◌, ℕ, ◌+◌, ◌<◌, ◌≤◌, ◌==◌, Bool, true, false, not, All, List, [], ◌∷◌, map, filter, bit_and, cond, Option, Some, None, if◌then◌else◌}
use Rattle.std.{specs.List.{AllZip}, proofs.Common.{refl, sym, ap, ◌∙◌, arith, length-append}}
use Rattle.std.proofs.lemmas.{Bool.{not_from_true, not-false, eq-eqb, eqb-true}, List.Sums.{length-filter, count_by-le-length}}
use Rattle.perf_base.specs.declared.{attr.Kind.{Kind}, standing.Standing.{Standing}}
use Rattle.perf_base.specs.declared.standing.Own.TheVariants as own
use Rattle.perf_base.specs.declared.standing.Standing.TheVariants as standing
use Rattle.stage_spec.specs.{declared.instance.Instance.{Instance}, Flags.{is_pinned}, Hardware.{Hardware, is_software, mask_of, pmu_of_kind, is_pmu}}
use Rattle.stage_spec.specs.{Stage.{Stage, Group, members_of, group_size, alone, change_group}, Effective.{is_hardware}}
use Rattle.stage_spec.specs.{Verdict.{with_masks}, Fits.{fits, fits_beside}, Tight.{masks_of}, Opening.{is_other_pmu, joined}, Reading.{is_error}}
use Rattle.stage_spec.specs.{Closing.{staying, kept_group, freed_groups}, Settle.{failed}, Forks.{copies_from, copy_group}, Refusals.{holds_of}}
use Rattle.stage_spec.proofs.Each.{Each, none-Each, cons-Each, tail-Each, append-Each, map-Each, weaker-Each, filter-Each}
use Rattle.stage_spec.proofs.Parts.{All-from_Each, Each-from_All, both-Each, zip-Each, length-AllZip, weaker-AllZip, map-AllZip, same-AllZip, some-Each}
use Rattle.stage_spec.proofs.Contexts.{either-Each}
use Rattle.stage_laws.{specs.Sound.{AreAlike, IsSibling, IsGroup}, proofs.Fitting.{fits_beside-others, fits_beside-rest, fits_beside-none}}

-- the masks of the hardware instances among some, and those with one instance more
abbrev pub hardware_masks : Hardware → List Instance → List ℕ
hardware_masks hw instances = masks_of (with_masks hw (filter is_hardware instances))

abbrev pub with_kind : Hardware → Kind → List ℕ → List ℕ
with_kind hw k masks = cond (not (is_software k)) (mask_of hw k ∷ masks) masks

pub masks-cond : (hw : Hardware) (b : Bool) (i : Instance) (instances : List Instance)
    → masks_of (with_masks hw (cond b (i ∷ instances) instances)) ≡ cond b (mask_of hw i.attr.kind ∷ masks_of (with_masks hw instances)) (masks_of (with_masks hw instances))
masks-cond hw true i instances = refl
masks-cond hw false i instances = refl

hardware_masks-cons : (hw : Hardware) (i : Instance) (instances : List Instance) → hardware_masks hw (i ∷ instances) ≡ with_kind hw i.attr.kind (hardware_masks hw instances)
hardware_masks-cons hw i instances = masks-cond hw (is_hardware i) i (filter is_hardware instances)

hardware_masks-same : (hw : Hardware) (xs ys : List Instance) → AllZip (λ x y. y.attr.kind ≡ x.attr.kind) xs ys → hardware_masks hw ys ≡ hardware_masks hw xs
hardware_masks-same hw [] [] r = refl
hardware_masks-same hw [] (y ∷ ys) r = absurd r
hardware_masks-same hw (x ∷ xs) [] r = absurd r
hardware_masks-same hw (x ∷ xs) (y ∷ ys) r = grind (arith, hardware_masks-cons, hardware_masks-same hw xs ys r.1)

-- they fit without some, and so does each alone
cond-others : (b : Bool) (mask : ℕ) (masks others taken : List ℕ) → ((more : List ℕ) → fits_beside masks more ≡ true → fits_beside others more ≡ true)
    → fits_beside (cond b (mask ∷ masks) masks) taken ≡ true → fits_beside (cond b (mask ∷ others) others) taken ≡ true
cond-others true mask masks others taken f h = fits_beside-others mask masks others taken f h
cond-others false mask masks others taken f h = f taken h

cond-rest : (b : Bool) (mask : ℕ) (masks taken : List ℕ) → fits_beside (cond b (mask ∷ masks) masks) taken ≡ true → fits_beside masks taken ≡ true
cond-rest true mask masks taken h = fits_beside-rest mask masks taken h
cond-rest false mask masks taken h = h

abbrev Fit : Hardware → List ℕ → List Instance → Type 0
Fit hw taken instances = fits_beside (hardware_masks hw instances) taken ≡ true

Fit-others : (hw : Hardware) (taken : List ℕ) (i : Instance) (xs ys : List Instance) → ((more : List ℕ) → Fit hw more xs → Fit hw more ys) → Fit hw taken (i ∷ xs) → Fit hw taken (i ∷ ys)
Fit-others hw taken i xs ys f h =
    ap (λ masks. fits_beside masks taken) (hardware_masks-cons hw i ys)
    ∙ cond-others (is_hardware i) (mask_of hw i.attr.kind) (hardware_masks hw xs) (hardware_masks hw ys) taken f
    (ap (λ masks. fits_beside masks taken) (sym (hardware_masks-cons hw i xs)) ∙ h)

Fit-rest : (hw : Hardware) (taken : List ℕ) (i : Instance) (xs : List Instance) → Fit hw taken (i ∷ xs) → Fit hw taken xs
Fit-rest hw taken i xs h =
    cond-rest (is_hardware i) (mask_of hw i.attr.kind) (hardware_masks hw xs) taken (ap (λ masks. fits_beside masks taken) (sym (hardware_masks-cons hw i xs)) ∙ h)

Fit-keep : (hw : Hardware) (taken : List ℕ) (b : Bool) (i : Instance) (xs ys : List Instance) → ((more : List ℕ) → Fit hw more xs → Fit hw more ys)
    → Fit hw taken (i ∷ xs) → Fit hw taken (cond b (i ∷ ys) ys)
Fit-keep hw taken true i xs ys f h = Fit-others hw taken i xs ys f h
Fit-keep hw taken false i xs ys f h = f taken (Fit-rest hw taken i xs h)

Fit-filter : (hw : Hardware) (p : Instance → Bool) (taken : List ℕ) (xs : List Instance) → Fit hw taken xs → Fit hw taken (filter p xs)
Fit-filter hw p taken [] h = h
Fit-filter hw p taken (x ∷ xs) h = Fit-keep hw taken (p x) x xs (filter p xs) (λ more. Fit-filter hw p more xs) h

Fit-alone : (hw : Hardware) (taken : List ℕ) (xs : List Instance) → Fit hw taken xs → Each (λ i. Fit hw taken (i ∷ [])) xs
unfolding Each
Fit-alone hw taken [] h = tt
Fit-alone hw taken (x ∷ xs) h = (Fit-others hw taken x xs [] (λ more k. fits_beside-none more) h, Fit-alone hw taken xs (Fit-rest hw taken x xs h))

-- of one PMU
abbrev IsOfPmu : Hardware → Instance → Instance → Type 0
IsOfPmu hw i j = is_other_pmu hw i.attr.kind j.attr.kind ≡ false

abbrev AreOfPmu : Hardware → List Instance → Type 0
AreOfPmu hw instances = Each (λ i. Each (IsOfPmu hw i) instances) instances

abbrev other_pmu : (mine other : Option ℕ) → Bool
other_pmu mine other = holds_of (λ pmu. not (is_pmu other pmu)) mine

other_pmu-itself : (p : Option ℕ) → other_pmu p p ≡ false
other_pmu-itself None = refl
other_pmu-itself (Some n) = not_from_true (n == n) (eq-eqb n n refl)

pub other_pmu-back : (p q : Option ℕ) → other_pmu p q ≡ false → other_pmu q p ≡ false
other_pmu-back None None h = refl
other_pmu-back None (Some m) h = refl
other_pmu-back (Some n) None h = refl
other_pmu-back (Some n) (Some m) h = not_from_true (n == m) (eq-eqb n m (sym (eqb-true m n (not-false (m == n) h))))

IsOfPmu-itself : (hw : Hardware) (i : Instance) → IsOfPmu hw i i
IsOfPmu-itself hw i = other_pmu-itself (pmu_of_kind hw i.attr.kind)

IsOfPmu-back : (hw : Hardware) (i j : Instance) → IsOfPmu hw i j → IsOfPmu hw j i
IsOfPmu-back hw i j h = other_pmu-back (pmu_of_kind hw i.attr.kind) (pmu_of_kind hw j.attr.kind) h

-- what a group is, by recursion over its members, with whether its leader is pinned
pub record IsFine (hw : Hardware) (pinned : Bool) (g : Group) : Type 0 where
  pub small : group_size g ≤ 8
  pub alike : Each (AreAlike g.leader) g.siblings
  pub siblings : Each IsSibling g.siblings
  pub fit : Fit hw [] (members_of g)
  pub one_pmu : AreOfPmu hw (members_of g)
  pub listed : is_pinned g.leader.attr ≡ pinned

pub IsGroup-from_fine : (hw : Hardware) (pinned : Bool) (g : Group) → IsFine hw pinned g → IsGroup hw g
unfolding fits
IsGroup-from_fine hw pinned g h = record {
  small = h.small;
  alike = All-from_Each (AreAlike g.leader) g.siblings h.alike;
  siblings = All-from_Each IsSibling g.siblings h.siblings;
  fit = h.fit;
  one_pmu = All-from_Each (λ i. All (IsOfPmu hw i) (members_of g)) (members_of g)
      (weaker-Each (λ i. Each (IsOfPmu hw i) (members_of g)) (λ i. All (IsOfPmu hw i) (members_of g)) (λ i. All-from_Each (IsOfPmu hw i) (members_of g)) (members_of g) h.one_pmu);
}

pub IsFine-from_group : (hw : Hardware) (pinned : Bool) (g : Group) → IsGroup hw g → is_pinned g.leader.attr ≡ pinned → IsFine hw pinned g
unfolding fits
IsFine-from_group hw pinned g h k = grind (arith, Each-from_All, weaker-Each, Each)

-- An instance with the place, the flags and the kind of another; whether it is a copy goes by whether the other is. A
-- sibling stays without error too.
pub record IsSame (copied : Bool → Bool) (i j : Instance) : Type 0 where
  pub copy : j.copy ≡ copied i.copy
  pub task : j.attr.task ≡ i.attr.task
  pub cpu : j.attr.cpu ≡ i.attr.cpu
  pub flags : j.attr.flags ≡ i.attr.flags
  pub kind : j.attr.kind ≡ i.attr.kind

pub record IsSameSibling (copied : Bool → Bool) (i j : Instance) : Type 0 where
  pub same : IsSame copied i j
  pub error : is_error i.own ≡ false → is_error j.own ≡ false

AreAlike-same : (copied : Bool → Bool) (leader now : Instance) → IsSame copied leader now → (i j : Instance) → IsSameSibling copied i j → AreAlike leader i → AreAlike now j
AreAlike-same copied leader now same i j h k = grind arith

IsSibling-same : (copied : Bool → Bool) (i j : Instance) → IsSameSibling copied i j → IsSibling i → IsSibling j
IsSibling-same copied i j h k = grind arith

abbrev SameKind : Instance → Instance → Type 0
SameKind i j = j.attr.kind ≡ i.attr.kind

IsOfPmu-same : (hw : Hardware) (i j k l : Instance) → SameKind i j → SameKind k l → IsOfPmu hw i k → IsOfPmu hw j l
IsOfPmu-same hw i j k l h g f = ap (λ a. is_other_pmu hw a l.attr.kind) h ∙ (ap (λ a. is_other_pmu hw i.attr.kind a) g ∙ f)

AreOfPmu-same : (hw : Hardware) (xs ys : List Instance) → AllZip SameKind xs ys → AreOfPmu hw xs → AreOfPmu hw ys
AreOfPmu-same hw xs ys r h = grind (arith, zip-Each, Each, IsOfPmu-same)

-- a group whose members are the same but for that
IsFine-same : (hw : Hardware) (pinned : Bool) (copied : Bool → Bool) (g now : Group) → IsSame copied g.leader now.leader
    → AllZip (IsSameSibling copied) g.siblings now.siblings → IsFine hw pinned g → IsFine hw pinned now
IsFine-same hw pinned copied g now same r h =
    let kinds : AllZip SameKind (members_of g) (members_of now) = grind (arith, weaker-AllZip) in
    record {
      small = omega (arith, h.small, length-AllZip (IsSameSibling copied) g.siblings now.siblings r);
      alike = zip-Each (IsSameSibling copied) (AreAlike g.leader) (AreAlike now.leader) (AreAlike-same copied g.leader now.leader same) g.siblings now.siblings r h.alike;
      siblings = zip-Each (IsSameSibling copied) IsSibling IsSibling (IsSibling-same copied) g.siblings now.siblings r h.siblings;
      fit = ap (λ masks. fits_beside masks []) (hardware_masks-same hw (members_of g) (members_of now) kinds) ∙ h.fit;
      one_pmu = AreOfPmu-same hw (members_of g) (members_of now) kinds h.one_pmu;
      listed = ap (λ flags. not (bit_and flags.0 4 == 0)) same.flags ∙ h.listed;
    }

-- a change of each member, and a leader in error
abbrev pub kept_copy : Bool → Bool
kept_copy b = b

pub IsSame-itself : (i : Instance) → IsSame kept_copy i i
IsSame-itself i = record { copy = refl; task = refl; cpu = refl; flags = refl; kind = refl }

pub IsFine-change : (hw : Hardware) (pinned : Bool) (f : Instance → Instance) → ((i : Instance) → IsSameSibling kept_copy i (f i)) → (g : Group) → IsFine hw pinned g
    → IsFine hw pinned (change_group f g)
IsFine-change hw pinned f k g h = IsFine-same hw pinned kept_copy g (change_group f g) (k g.leader).same (map-AllZip (IsSameSibling kept_copy) f k g.siblings) h

pub IsFine-failed : (hw : Hardware) (pinned : Bool) (v : Standing) (g : Group) → IsFine hw pinned g → IsFine hw pinned (failed v g)
IsFine-failed hw pinned standing.Out g h = h
IsFine-failed hw pinned standing.On g h = h
IsFine-failed hw pinned (standing.Refused cause) g h =
    IsFine-same hw pinned kept_copy g (failed (standing.Refused cause) g) (record { copy = refl; task = refl; cpu = refl; flags = refl; kind = refl })
    (same-AllZip (IsSameSibling kept_copy) (λ i. record { same = IsSame-itself i; error = λ k. k }) g.siblings) h

-- a copy
abbrev all_copied : Bool → Bool
all_copied b = true

copied_state-well : (b : Bool) → is_error (if b then own.Ready else own.Off) ≡ false
copied_state-well true = refl
copied_state-well false = refl

copies_from-same : (s : Stage) (id : ℕ) (instances : List Instance) → AllZip (IsSameSibling all_copied) instances (copies_from s id instances)
unfolding copies_from
copies_from-same s id [] = tt
copies_from-same s id (i ∷ instances) = grind (arith, copied_state-well, copies_from-same s (id + 1) instances)

pub IsFine-copy : (hw : Hardware) (pinned : Bool) (s : Stage) (id : ℕ) (g : Group) → IsFine hw pinned g → IsFine hw pinned (copy_group s id g)
IsFine-copy hw pinned s id g h =
    IsFine-same hw pinned all_copied g (copy_group s id g) (record { copy = refl; task = refl; cpu = refl; flags = refl; kind = refl }) (copies_from-same s (id + 1) g.siblings) h

-- a group of one
pub IsFine-alone : (hw : Hardware) (pinned : Bool) (i : Instance) → is_pinned i.attr ≡ pinned → Fit hw [] (i ∷ []) → IsFine hw pinned (alone i)
unfolding Each
IsFine-alone hw pinned i listed fit = grind (arith, IsOfPmu-itself)

-- members that go
IsFine-staying : (hw : Hardware) (pinned : Bool) (goes : Instance → Bool) (g : Group) → IsFine hw pinned g → IsFine hw pinned (record g { siblings = staying goes g.siblings })
IsFine-staying hw pinned goes g h =
    grind (arith, length-filter, count_by-le-length, filter-Each, Fit-others, Fit-filter, some-Each, Each, weaker-Each)

pub IsFine-kept : (hw : Hardware) (pinned : Bool) (goes : Instance → Bool) (g : Group) → IsFine hw pinned g → Each (IsFine hw pinned) (kept_group goes g)
IsFine-kept hw pinned goes g h = grind (arith, either-Each, none-Each, cons-Each, IsFine-staying)

pub IsFine-freed : (hw : Hardware) (pinned : Bool) (goes : Instance → Bool) (g : Group) → IsFine hw pinned g → Each (IsFine hw false) (freed_groups goes g)
IsFine-freed hw pinned goes g h =
    let fit : Each (λ i. Fit hw [] (i ∷ [])) g.siblings = tail-Each (λ i. Fit hw [] (i ∷ [])) g.leader g.siblings (Fit-alone hw [] (members_of g) h.fit) in
    let all : Each (λ i. IsFine hw false (alone i)) g.siblings = grind (arith, both-Each, IsFine-alone) in
    either-Each (IsFine hw false) (goes g.leader) (map alone (staying goes g.siblings)) []
    (map-Each (λ i. IsFine hw false (alone i)) (IsFine hw false) alone (λ i k. k) (staying goes g.siblings)
    (filter-Each (λ i. IsFine hw false (alone i)) (λ i. not (goes i)) g.siblings all))
    (none-Each (IsFine hw false))

-- one that joins
pub IsFine-joined : (hw : Hardware) (pinned : Bool) (i : Instance) (g : Group) → IsFine hw pinned g → group_size g < 8 → AreAlike g.leader i → IsSibling i
    → Fit hw [] (members_of (joined i g)) → Each (IsOfPmu hw i) (members_of g) → IsFine hw pinned (joined i g)
unfolding Each
IsFine-joined hw pinned i g h room alike sibling fit same = record {
  small = omega (arith, room, length-append g.siblings (i ∷ []));
  alike = append-Each (AreAlike g.leader) g.siblings (i ∷ []) h.alike (alike, tt);
  siblings = append-Each IsSibling g.siblings (i ∷ []) h.siblings (sibling, tt);
  fit = fit;
  one_pmu = append-Each (λ j. Each (IsOfPmu hw j) (members_of (joined i g))) (members_of g) (i ∷ [])
      (both-Each (λ j. Each (IsOfPmu hw j) (members_of g)) (IsOfPmu hw i) (λ j. Each (IsOfPmu hw j) (members_of (joined i g)))
      (λ j k l. append-Each (IsOfPmu hw j) (members_of g) (i ∷ []) k (IsOfPmu-back hw i j l, tt)) (members_of g) h.one_pmu same)
      (append-Each (IsOfPmu hw i) (members_of g) (i ∷ []) same (IsOfPmu-itself hw i, tt), tt);
  listed = h.listed;
}
