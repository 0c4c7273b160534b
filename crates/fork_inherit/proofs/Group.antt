-- A group that is copied, member by member.
use Rattle.std.specs.Prelude.{◌≡◌, ℕ, ◌+◌, ◌≤◌, ◌==◌, true, false, not, ◌&&◌, List, [], ◌∷◌, ◌++◌, length, map, Option, slice_index_or}
use Rattle.std.proofs.{Common.{arith, refl, sym, ap, subst, ◌∙◌, inl, inr, append_assoc}, lemmas.Bool.{cases_Bool, false≢true}}
use Rattle.std.proofs.lemmas.List.{length-append, map-append, get_or_append_left}
use Rattle.perf_base.specs.{Scripts.{IsKind}, declared.{attr.Kind.{Kind}, numbers.{Key.{Key}, TaskNo.{TaskNo}}}}
use Rattle.stage_spec.specs.{Fits.{fits, fits_beside}, Hardware.{Hardware, is_software, mask_of}, Opening.{is_other_pmu}, Stage.{place_of}}
use Rattle.stage_laws.proofs.{Fitting.{fits_beside-others, fits_beside-none}, Counts.{count-append}}
use Rattle.world_spec.specs.{Comings.{new_kinds, HasRoom}, Copying.{copy_from}}
use Rattle.world_spec.specs.Kept.{Post, post_at, once_if, is_original_in, is_member_of, is_of_task, AreFitting, IsKept}
use Rattle.world_spec.specs.Value.{World, is_live, entry_at, instance_at, is_key, times}
use Rattle.world_spec.proofs.{Keys.{key-is, is_key-same, is_key-true, times-cons, once-true}, Moving.{leads-parts}, Reaching.{is-original}}
use Rattle.world_spec.proofs.{Tables.{post_of}, GoneSibling.{hardware_masks, masks-cons}}
use Rattle.perf_world.specs.Parts.{MayAdd}
use Rattle.fork_inherit.specs.Copies.{MayCopy, IsNewCopy, AreCopied}
use Rattle.world_spec.proofs.Along.{once-both}
use Rattle.world_spec.proofs.Copying.{at-most-once}

-- the first of some kinds that fit together fit, too
front-masks : (hw : Hardware) (xs ys : List Kind) (taken : List ℕ) → fits_beside (hardware_masks hw (xs ++ ys)) taken ≡ true → fits_beside (hardware_masks hw xs) taken ≡ true
front-masks hw [] ys taken h = fits_beside-none taken
front-masks hw (x ∷ xs) ys taken h = elim (cases_Bool (is_software x)) [
  | inl soft ↦
      grind (arith, masks-cons, soft, front-masks hw xs ys taken (ap (λ ms. fits_beside ms taken) (sym (masks-cons hw x (xs ++ ys) true soft)) ∙ h))
  | inr hard ↦
      ap (λ ms. fits_beside ms taken) (masks-cons hw x xs false hard)
      ∙ fits_beside-others (mask_of hw x) (hardware_masks hw (xs ++ ys)) (hardware_masks hw xs) taken (λ more. front-masks hw xs ys more)
      (ap (λ ms. fits_beside ms taken) (sym (masks-cons hw x (xs ++ ys) false hard)) ∙ h)
]

pub front-fits : (hw : Hardware) (xs ys : List Kind) → AreFitting hw (xs ++ ys) → AreFitting hw xs
unfolding fits
front-fits hw xs ys h = record {
  fit = front-masks hw xs ys [] h.fit;
  one_pmu = λ i j d below low.
      subst (λ x. is_other_pmu hw (slice_index_or xs i d) x ≡ false) (get_or_append_left xs ys d j low)
      (subst (λ x. is_other_pmu hw x (slice_index_or (xs ++ ys) j d) ≡ false) (get_or_append_left xs ys d i (omega (arith, below, low)))
      (h.one_pmu i j d below (omega (arith, low, length-append xs ys))));
}

-- a member of a leader's group
pub record IsMember (v : World) (leader q : Key) : Type 0 where
  pub live : is_live v q ≡ true
  pub led : (entry_at v q).leader ≡ leader
  pub together : (entry_at v q).context ≡ (entry_at v leader).context

pub member-of : (v : World) (leader q : Key) → IsKept v.hardware v → 1 ≤ times q (entry_at v leader).members → IsMember v leader q
member-of v leader q h some =
    let parts : (is_live v q ≡ true) × (is_key leader (entry_at v q).leader ≡ true) =
    leads-parts (is_live v q) (is_key leader (entry_at v q).leader) (once-both (is_member_of (post_at v) leader q) (omega (arith, some, h.linked.members q leader))) in
    let led : (entry_at v q).leader ≡ leader = key-is (entry_at v q).leader leader (is_key-true leader (entry_at v q).leader parts.1) in
    record { live = parts.0; led = led; together = sym (h.grouped.together q parts.0) ∙ ap (λ k. (entry_at v k).context) led }

-- the members so far, the next one and the rest
pub record IsNext (v : World) (leader : Key) (done : List Key) (q : Key) (rest : List Key) : Type 0 where
  pub all : (entry_at v leader).members ≡ done ++ q ∷ rest

pub times-all : (v : World) (leader : Key) (done : List Key) (q : Key) (rest : List Key) → IsNext v leader done q rest → (x : Key)
    → times x (entry_at v leader).members ≡ times x done + (once_if (is_key x q) + times x rest)
times-all v leader done q rest next x = ap (times x) next.all ∙ (count-append (is_key x) done (q ∷ rest) ∙ ap (λ n. times x done + n) (times-cons x q rest))

pub stands : (v : World) (leader : Key) (done : List Key) (q : Key) (rest : List Key) → IsNext v leader done q rest → 1 ≤ times q (entry_at v leader).members
stands v leader done q rest next = omega (arith, times-all v leader done q rest next q, once-true (is_key q q) (is_key-same q q refl))

pub not-before : (v : World) (leader : Key) (done : List Key) (q : Key) (rest : List Key) → IsKept v.hardware v → IsNext v leader done q rest → 1 ≤ times q done → ⊥
not-before v leader done q rest h next some =
    omega (
      arith,
      some,
      times-all v leader done q rest next q,
      once-true (is_key q q) (is_key-same q q refl),
      h.linked.members q leader,
      at-most-once (is_member_of (post_at v) leader q),
    )

-- the posts of keys that were there
same-post : (child : TaskNo) (v w : World) (done : List Key) → AreCopied child v w done → (j : Key) → is_live v j ≡ true → post_at w j ≡ post_at v j
same-post child v w done f j live = λ i. post_of ((f.live j live ∙ sym live) i) (f.entries j live i)

first-live : (at : Key → Post) (slot : ℕ) (j : Key) → is_original_in at slot j ≡ true → (at j).live ≡ true
first-live at slot j h = grind (arith, false≢true)

has-original : (child : TaskNo) (v w : World) (done : List Key) (q : Key) → IsKept v.hardware v → AreCopied child v w done → is_live v q ≡ true → is_of_task (entry_at v q).context ≡ true
    → (j : Key) × (is_original_in (post_at w) (instance_at v q).event.0 j ≡ true) × (is_of_task (entry_at w j).context ≡ true)
has-original child v w done q h f live of_task = elim (cases_Bool (instance_at v q).copy) [
  | inl copy ↦
      let o : (j : Key) × (is_original_in (post_at v) (instance_at v q).event.0 j ≡ true) × (is_of_task (entry_at v j).context ≡ true) = h.apart.original q live copy in
      let there : is_live v o.0 ≡ true = first-live (post_at v) (instance_at v q).event.0 o.0 o.1 in (
        o.0,
        ap (λ p. p.live && p.event.0 == (instance_at v q).event.0 && not p.copy) (same-post child v w done f o.0 there) ∙ o.1,
        ap (λ e. is_of_task e.context) (f.entries o.0 there) ∙ o.2,
      )
  | inr first ↦ (
    q,
    ap (λ p. p.live && p.event.0 == (instance_at v q).event.0 && not p.copy) (same-post child v w done f q live) ∙ is-original v q live first,
    ap (λ e. is_of_task e.context) (f.entries q live) ∙ of_task,
  )
]

pub may-add : (child : TaskNo) (v w : World) (leader : Key) (done : List Key) (q : Key) (rest : List Key) (first : Option Key) → IsKept v.hardware v → MayCopy child v leader
    → IsNext v leader done q rest → AreCopied child v w done → HasRoom w (copy_from w child (instance_at v q) first) first
    → new_kinds w (copy_from w child (instance_at v q) first) first ≡ map (λ k. (instance_at v k).attr.kind) (done ++ q ∷ [])
    → MayAdd w (copy_from w child (instance_at v q) first)
may-add child v w leader done q rest first h may next f room kinds =
    let m : IsMember v leader q = member-of v leader q h (stands v leader done q rest next) in
    let kind : Key → Kind = λ k. (instance_at v k).attr.kind in
    let size : length (entry_at v leader).members ≡ length done + (1 + length rest) = omega (arith, ap length next.all, length-append done (q ∷ rest)) in
    let fits_all : AreFitting v.hardware (map kind (done ++ q ∷ []) ++ map kind rest) = grind (arith, append_assoc, map-append) in
    record {
      slot = h.numbered.slots q m.live;
      place = omega (arith, may.number);
      known = h.lawful.samples q m.live;
      kind = subst (λ hw. IsKind (length hw.kind_pmus) (kind q)) (sym f.hardware) (h.lawful.kinds q m.live);
      first_there = λ j live same place. elim (cases_Bool (is_live v j)) [
        | inl was ↦
            may.none_there j q was (ap (λ e. place_of e.context) (sym (f.entries j was)) ∙ place) (stands v leader done q rest next)
            (ap (λ e. e.instance.event.0) (sym (f.entries j was)) ∙ same)
        | inr none ↦
            let x : IsNewCopy child v w done j = f.fresh j none live in
            let y : Key = x.parent.0 in
            let some : 1 ≤ times y (entry_at v leader).members = omega (arith, x.parent.1, times-all v leader done q rest next y) in
            let my : IsMember v leader y = member-of v leader y h some in
            let is : y ≡ q = h.apart.one_each y q my.live m.live (ap (λ e. e.0) (sym x.parent.2) ∙ same) (ap place_of (my.together ∙ sym m.together)) in
            not-before v leader done q rest h next (subst (λ k. 1 ≤ times k done) is x.parent.1)
      ];
      fitting = subst (AreFitting w.hardware) (sym kinds) (subst (λ hw. AreFitting hw (map kind (done ++ q ∷ []))) (sym f.hardware) (front-fits v.hardware (map kind (done ++ q ∷ [])) (map kind rest) fits_all));
      ids = omega (arith, ap (λ x. x.next_id) f.quiet, may.ids, size);
      original = record {
        unused = λ no. absurd (false≢true (sym no));
        placed = λ no. absurd (false≢true (sym no));
        of_task = λ yes. refl;
        few = λ yes. omega (arith, f.few, may.few, size);
        original = λ yes. has-original child v w done q h f m.live (ap is_of_task m.together ∙ may.of_task);
      };
      group = room;
    }
