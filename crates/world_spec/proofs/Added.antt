-- The tables of a world after an instance came, and that it is kept.
use Rattle.std.specs.Prelude.{◌≡◌, ℕ, ◌+◌, ◌<◌, ◌≤◌, ◌==◌, Bool, true, false, List, [], ◌∷◌, ◌++◌, length, is_some, Option, Some, None, slice_index_or, slice_set, if◌then◌else◌}
use Rattle.std.{specs.List.{list_any}, proofs.{Common.{arith, refl, ap, subst, ◌∙◌, inl, inr}, lemmas.Bool.{cases_Bool, or_left, or_right}}}
use Rattle.std.proofs.lemmas.Bool.Decides.{nat_tests}
use Rattle.perf_base.specs.declared.{attr.Attr.{Attr}, numbers.{EventNo.{EventNo}, Key.{Key}}, reply.Sums.{Sums}}
use Rattle.stage_spec.specs.{Families.{plus}, Flags.{is_disabled}, Opening.{first_state}, Reading.{is_error}, Shares.{no_sums}}
use Rattle.world_spec.specs.Value.{World, Entry, Family, no_family, is_live, entry_at, instance_at, is_key}
use Rattle.world_spec.specs.Kept.{post_at, in_option, keys_of, plus_keys}
use Rattle.world_spec.specs.{Adding.{Newcomer, new_instance, new_entry, in_family, join, settled_in, drawn}, Comings.{HasRoom}}
use Rattle.world_spec.proofs.{Tables.{get-here, get-there, post_of, with_entry, entry-here, entry-there, entry-numbered}, Accounts.{IsSum}}
use Rattle.world_spec.proofs.{Keys.{key-is, at_place}, Moving.{leads-parts}, Coming.{core, Comes}}

-- the world after it came, by the leader that was given
abbrev pub added : World → Key → Newcomer → Option Key → World
added w k n leader = drawn n (settled_in k (new_entry w k n leader) (join k n leader w))

-- the post of an entry that is written, and of the others
pub written-post : (w : World) (k : Key) (e : Entry) → post_at (with_entry w k e) k ≡ post_of true e
written-post w k e = λ i. post_of (ap is_some (get-here w.entries k.0 e k.0 refl) i) (entry-here w k e k refl i)

pub other-post : (w : World) (k : Key) (e : Entry) (j : Key) → (j.0 ≡ k.0 → ⊥) → post_at (with_entry w k e) j ≡ post_at w j
other-post w k e j apart = λ i. post_of (ap is_some (get-there w.entries k.0 e j.0 apart) i) (entry-there w k e j apart i)

-- the entry of a leader whose group a sibling joins
abbrev pub grown_entry : World → Key → Key → Entry
grown_entry w k first = record (entry_at w first) { members = (entry_at w first).members ++ k ∷ [] }

grown-core : (w : World) (k first : Key) → is_live w first ≡ true → (j : Key) → core (post_at (with_entry w first (grown_entry w k first)) j) ≡ core (post_at w j)
grown-core w k first there j = grind (arith, nat_tests, core, with_entry, key-is, written-post, post_of, other-post)

pub comes-by : (w : World) (k : Key) (n : Newcomer) → is_live w k ≡ false → (leader : Option Key) → HasRoom w n leader
    → Comes (post_at w) (post_at (added w k n leader)) k (post_of true (new_entry w k n leader))
comes-by w k n dead None room = record {
  new = written-post w k (new_entry w k n None);
  alive = refl;
  dead = dead;
  others = λ j apart. ap core (other-post w k (new_entry w k n None) j apart);
}
comes-by w k n dead (Some first) room =
    let there : is_live w first ≡ true = (leads-parts (is_live w first) (is_key first (entry_at w first).leader) room.0).0 in
    let v : World = with_entry w first (grown_entry w k first) in
    record {
      new = written-post v k (new_entry w k n (Some first));
      alive = refl;
      dead = dead;
      others = λ j apart. ap core (other-post v k (new_entry w k n (Some first)) j apart) ∙ grown-core w k first there j;
    }

pub alone-members : (w : World) (k : Key) (n : Newcomer) (j : Key) → (j.0 ≡ k.0 → ⊥) → (post_at (added w k n None) j).members ≡ (post_at w j).members
alone-members w k n j apart = ap (λ x. x.members) (other-post w k (new_entry w k n None) j apart)

pub grown-members : (w : World) (k : Key) (n : Newcomer) (first : Key) → (first.0 ≡ k.0 → ⊥) → (post_at (added w k n (Some first)) first).members ≡ (post_at w first).members ++ k ∷ []
grown-members w k n first apart =
    let v : World = with_entry w first (grown_entry w k first) in
    ap (λ x. x.members) (other-post v k (new_entry w k n (Some first)) first apart) ∙ ap (λ x. x.members) (entry-here w first (grown_entry w k first) first refl)

pub joined-members : (w : World) (k : Key) (n : Newcomer) (first : Key) (j : Key) → (j.0 ≡ k.0 → ⊥) → (j.0 ≡ first.0 → ⊥) → (post_at (added w k n (Some first)) j).members ≡ (post_at w j).members
joined-members w k n first j apart off =
    let v : World = with_entry w first (grown_entry w k first) in
    ap (λ x. x.members) (other-post v k (new_entry w k n (Some first)) j apart) ∙ ap (λ x. x.members) (entry-there w first (grown_entry w k first) j off)

-- the instances of the others stay
grown-instance : (w : World) (k first j : Key) → instance_at (with_entry w first (grown_entry w k first)) j ≡ instance_at w j
grown-instance w k first j = grind (arith, nat_tests, entry-here, entry-numbered, entry-there)

pub other-instance : (w : World) (k : Key) (n : Newcomer) (leader : Option Key) (j : Key) → (j.0 ≡ k.0 → ⊥) → instance_at (added w k n leader) j ≡ instance_at w j
other-instance w k n None j apart = ap (λ x. x.instance) (entry-there w k (new_entry w k n None) j apart)
other-instance w k n (Some first) j apart =
    ap (λ x. x.instance) (entry-there (with_entry w first (grown_entry w k first)) k (new_entry w k n (Some first)) j apart) ∙ grown-instance w k first j

pub new-entry_at : (w : World) (k : Key) (n : Newcomer) (leader : Option Key) → entry_at (added w k n leader) k ≡ new_entry w k n leader
new-entry_at w k n None = entry-here w k (new_entry w k n None) k refl
new-entry_at w k n (Some first) = entry-here (with_entry w first (grown_entry w k first)) k (new_entry w k n (Some first)) k refl

pub entry-instance : (w : World) (k : Key) (n : Newcomer) (leader : Option Key) → (new_entry w k n leader).instance ≡ new_instance w n
entry-instance w k n None = refl
entry-instance w k n (Some first) = refl

-- sums of a family that a key comes to with nothing
pub sums-le : (p : Sums → ℕ) → IsSum p → (s t : Key → Sums) → ((q : Key) → p (t q) ≤ p (s q)) → (keys : List Key) → p (plus_keys t keys) ≤ p (plus_keys s keys)
sums-le p is s t h [] = omega arith
sums-le p is s t h (q ∷ keys) = omega (arith, is.both (s q) (plus_keys s keys), is.both (t q) (plus_keys t keys), h q, sums-le p is s t h keys)

pub sums-append : (p : Sums → ℕ) → IsSum p → (s : Key → Sums) (xs ys : List Key) → p (plus_keys s (xs ++ ys)) ≡ p (plus_keys s xs) + p (plus_keys s ys)
sums-append p is s [] ys = omega (arith, is.none)
sums-append p is s (x ∷ xs) ys = omega (arith, is.both (s x) (plus_keys s (xs ++ ys)), is.both (s x) (plus_keys s xs), sums-append p is s xs ys)

family-le : (p : Sums → ℕ) → IsSum p → (s t : Key → Sums) (k : Key) → ((q : Key) → p (t q) ≤ p (s q)) → p (t k) ≡ 0 → (copy : Bool) (f : Family)
    → p (plus_keys t (keys_of (in_family copy k f))) ≤ p (plus_keys s (keys_of f))
family-le p is s t k h none true f =
    omega (
      arith,
      sums-append p is t (in_option f.original) (f.copies ++ k ∷ []),
      sums-append p is t f.copies (k ∷ []),
      is.both (t k) no_sums,
      is.none,
      none,
      sums-append p is s (in_option f.original) f.copies,
      sums-le p is s t h (in_option f.original),
      sums-le p is s t h f.copies,
    )
family-le p is s t k h none false f =
    omega (arith, is.both (t k) (plus_keys t f.copies), none, sums-append p is s (in_option f.original) f.copies, sums-le p is s t h f.copies)

pub added-sums : (p : Sums → ℕ) → IsSum p → (w : World) (s t : Key → Sums) (k : Key) (bound : ℕ) → ((q : Key) → p (t q) ≤ p (s q)) → p (t k) ≡ 0 → (event : ℕ) (copy : Bool)
    → event < length w.families
    → ((slot : ℕ) → p (plus (plus_keys s (keys_of (slice_index_or w.families slot no_family))) (slice_index_or w.folded slot no_sums)) < bound)
    → (slot : ℕ) → p (plus (plus_keys t (keys_of (slice_index_or (slice_set w.families event (in_family copy k (slice_index_or w.families event no_family))) slot no_family))) (slice_index_or w.folded slot no_sums)) < bound
added-sums p is w s t k bound h none event copy low small slot =
    let away : Sums = slice_index_or w.folded slot no_sums in
    at_place (λ f. p (plus (plus_keys t (keys_of f)) away) < bound) w.families event (in_family copy k (slice_index_or w.families event no_family)) no_family slot low
    (λ e.
    let f : Family = slice_index_or w.families event no_family in
    let before : p (plus (plus_keys s (keys_of f)) away) < bound = subst (λ x. p (plus (plus_keys s (keys_of (slice_index_or w.families x no_family))) away) < bound) e (small slot) in
    omega (arith, before, is.both (plus_keys s (keys_of f)) away, is.both (plus_keys t (keys_of (in_family copy k f))) away, family-le p is s t k h none copy f))
    (λ apart.
    let keys : List Key = keys_of (slice_index_or w.families slot no_family) in
    omega (arith, small slot, is.both (plus_keys s keys) away, is.both (plus_keys t keys) away, sums-le p is s t h keys))

-- slots that were used
any-front : (test : EventNo → Bool) (xs ys : List EventNo) → list_any test xs ≡ true → list_any test (xs ++ ys) ≡ true
any-front test [] ys h = absurd (cc)
any-front test (x ∷ xs) ys h = elim (cases_Bool (test x)) [
  | inl e ↦ or_left (test x) (list_any test (xs ++ ys)) e
  | inr e ↦ or_right (test x) (list_any test (xs ++ ys)) (any-front test xs ys (rw e at h))
]

any-back : (test : EventNo → Bool) (xs ys : List EventNo) → list_any test ys ≡ true → list_any test (xs ++ ys) ≡ true
any-back test [] ys h = h
any-back test (x ∷ xs) ys h = or_right (test x) (list_any test (xs ++ ys)) (any-back test xs ys h)

pub used-more : (copy : Bool) (used : List EventNo) (e new : EventNo) → list_any (λ x. x.0 == e.0) used ≡ true → list_any (λ x. x.0 == e.0) (if copy then used else used ++ new ∷ []) ≡ true
used-more true used e new h = h
used-more false used e new h = any-front (λ x. x.0 == e.0) used (new ∷ []) h

pub used-new : (copy : Bool) (used : List EventNo) (e : EventNo) → copy ≡ false → list_any (λ x. x.0 == e.0) (if copy then used else used ++ e ∷ []) ≡ true
used-new true used e h = absurd (cc)
used-new false used e h = any-back (λ x. x.0 == e.0) used (e ∷ []) (or_left (e.0 == e.0) false (grind (arith, nat_tests)))

-- a new instance is not in error
pub fresh-state : (b : Bool) (a : Attr) → is_disabled a ≡ b → is_error (first_state a) ≡ false
fresh-state true a h = rw h refl
fresh-state false a h = rw h refl
