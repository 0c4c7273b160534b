-- The copies of an original go one after the other, and then the original: what is left of the family, and that
-- processors that do not reach it stand as they stood.
use Rattle.std.specs.Prelude.{◌≡◌, ℕ, ◌+◌, ◌<◌, ◌≤◌, ◌==◌, Bool, true, false, ◌&&◌, suc, List, [], ◌∷◌, ◌++◌, count_by, length, map, take, drop, Some, None, is_some, slice_index_or}
use Rattle.std.{specs.List.{list_any}, proofs.{Common.{arith, refl, sym, ap, subst, ◌∙◌, inl, inr, take_all}, Math.ListN.{drop_of_length-le}}}
use Rattle.std.proofs.{Math.Seq.{take-suc, drop-cons}, lemmas.Bool.{cases_eq, cases_Bool, false≢true, Decides.{nat_tests}}}
use Rattle.std.proofs.lemmas.List.{map-append, get_or-set_same}
use Rattle.perf_base.specs.declared.numbers.{CpuNo.{CpuNo}, EventNo.{EventNo}, Key.{Key}}
use Rattle.perf_base.specs.declared.lines.ToolLine.TheVariants as line
use Rattle.stage_spec.specs.{Closing.{closed}, Hardware.{Hardware}, History.{ToolStep}, Stage.{is_of_family}}
use Rattle.stage_laws.specs.{Narrowing.{has_context, reaches}, OneByOne.{drop_one}, Sound.{IsSound}, Standings.{briefs}}
use Rattle.stage_laws.proofs.{Counts.{count-append}, EachSettled.{briefs-of_passes}, OneByOne.{map-none}, OneByOneDrops.{closed_one_by_one}}
use Rattle.stage_laws.proofs.{Others.{passes-same}, Untouched.{close-reaches}}
use Rattle.world_spec.specs.{Value.{World, no_family, is_live, entry_at, instance_at, seats_at, family_of, is_key, times}, StageOf.{stage_of}}
use Rattle.world_spec.specs.{Kept.{in_option, is_copy_in, is_original_in, once_if, post_at, IsKept}, Changes.{all_but}}
use Rattle.world_spec.{specs.{Adding.{drop_instance, out_of_family}, Goings.{MayGo}, Rescheduled.{IsUntouched}, Stepping.{HasItsShare}}, proofs.Coming.{number_true, three}}
use Rattle.world_spec.proofs.{Copies.{times-at}, Counting.{any-there}, Families.{family-ids}, Lines.{KeepsSlots}, Quiet.{quiet-keeps}}
use Rattle.world_spec.proofs.{Keys.{all_but-cons, all_but-none, is_key-same, once-true, times-cons}, Listings.{is-numbered}, Moving.{leads-parts}}
use Rattle.world_spec.proofs.Standing.{left-untouched}
use Rattle.event_commands.specs.{Changing.{family_keys, keys_named}, Closing.{HaveGone, IsClosed}, Reaching.{reaches_key}}
use Rattle.event_commands.proofs.{Going.{drop-families, one-key, none-gone, one-gone, both-gone}, Named.{in-family, at-family}, Reached.{reaches-are}}
use Rattle.event_commands.proofs.Targets.{original-in}
use Rattle.world_spec.proofs.Along.{once-both}
use Rattle.world_spec.proofs.Tables.{same_number}

-- a copy of an original
record IsCopyAt (w : World) (e : EventNo) (k : Key) : Type 0 where
  live : is_live w k ≡ true
  event : (instance_at w k).event ≡ e
  copy : (instance_at w k).copy ≡ true

copy-at : (hw : Hardware) (w : World) (e : EventNo) (k : Key) → IsKept hw w → 1 ≤ times k (family_of w e).copies → IsCopyAt w e k
copy-at hw w e k h some =
    let test : is_copy_in (post_at w) e.0 k ≡ true = once-both (is_copy_in (post_at w) e.0 k) (omega (arith, some, h.linked.copies k e.0)) in
    let first = leads-parts (is_live w k && (instance_at w k).event.0 == e.0) (instance_at w k).copy test in
    let second = leads-parts (is_live w k) ((instance_at w k).event.0 == e.0) first.0 in
    record { live = second.0; event = λ i. record { 0 = number_true (instance_at w k).event.0 e.0 second.1 i }; copy = first.1 }

copy-once : (hw : Hardware) (w : World) (e : EventNo) (k : Key) → IsKept hw w → times k (family_of w e).copies ≤ 1
copy-once hw w e k h = at-most-one (is_copy_in (post_at w) e.0 k) (h.linked.copies k e.0)
  where
    at-most-one : (b : Bool) → times k (family_of w e).copies ≡ once_if b → times k (family_of w e).copies ≤ 1
    at-most-one true is = omega (arith, is)
    at-most-one false is = omega (arith, is)

-- the family after one went
family-after : (hw : Hardware) (w new : World) (e : EventNo) (k : Key) → IsKept hw w → MayGo w k → e.0 < 256 → (instance_at w k).event ≡ e → new ≡ drop_instance k w
    → family_of new e ≡ out_of_family (instance_at w k).copy k (family_of w e)
family-after hw w new e k h may low is dropped = grind (arith, nat_tests, drop-families, get_or-set_same)

-- the first copy of those that are left
first-left : (copies keys : List Key) (n : ℕ) (d : Key) → keys ≡ drop n copies → n < length copies → keys ≡ slice_index_or copies n d ∷ drop (suc n) copies
first-left copies keys n d is low = is ∙ drop-cons copies n d low

all_but_first : (k : Key) (keys : List Key) → times k keys ≡ 0 → all_but k (k ∷ keys) ≡ keys
all_but_first k keys none = all_but-cons k k keys true (is_key-same k k refl) ∙ all_but-none k keys none

-- how far the copies have gone
pub record CopiesGone (e : EventNo) (n : ℕ) (w now : World) : Type 0 where
  pub gone : HaveGone e (take n (family_of w e).copies) w now
  pub left : family_of now e ≡ record (family_of w e) { copies = drop n (family_of w e).copies }

pub copies-left : (e : EventNo) (n : ℕ) (w now : World) (keys : List Key) → CopiesGone e n w now → keys ≡ (family_of now e).copies → keys ≡ drop n (family_of w e).copies
copies-left e n w now keys g told = told ∙ ap (λ f. f.copies) g.left

pub some-left : (e : EventNo) (n : ℕ) (w now : World) (keys : List Key) → CopiesGone e n w now → keys ≡ (family_of now e).copies → n < length (family_of w e).copies → 0 < length keys
some-left e n w now keys g told low =
    omega (arith, ap length (first-left (family_of w e).copies keys n (record { 0 = 0 }) (copies-left e n w now keys g told) low))

first-is : (e : EventNo) (n : ℕ) (w now : World) (keys : List Key) (d : Key) → CopiesGone e n w now → keys ≡ (family_of now e).copies → n < length (family_of w e).copies
    → slice_index_or keys 0 d ≡ slice_index_or (family_of w e).copies n d
first-is e n w now keys d g told low = ap (λ ks. slice_index_or ks 0 d) (first-left (family_of w e).copies keys n d (copies-left e n w now keys g told) low)

first-copy : (hw : Hardware) (e : EventNo) (w : World) (keys : List Key) (d : Key) → IsKept hw w → keys ≡ (family_of w e).copies → 0 < length keys → IsCopyAt w e (slice_index_or keys 0 d)
first-copy hw e w keys d h told some = grind (arith, nat_tests, copy-at, times-at, times-at keys 0 d some, ap (times (slice_index_or keys 0 d)) told)

pub copy-may_go : (hw : Hardware) (e : EventNo) (w : World) (keys : List Key) (d : Key) → IsKept hw w → keys ≡ (family_of w e).copies → 0 < length keys → MayGo w (slice_index_or keys 0 d)
copy-may_go hw e w keys d h told some =
    let c : IsCopyAt w e (slice_index_or keys 0 d) = first-copy hw e w keys d h told some in
    record { live = c.live; last = λ first. absurd (false≢true (sym first ∙ c.copy)) }

pub none-yet : (e : EventNo) (w : World) → CopiesGone e 0 w w
none-yet e w = record { gone = none-gone e w; left = refl }

pub one-more : (hw : Hardware) (e : EventNo) (n : ℕ) (w now new : World) (keys : List Key) (d : Key) → IsKept hw now → e.0 < 256 → CopiesGone e n w now → keys ≡ (family_of now e).copies
    → n < length (family_of w e).copies → new ≡ drop_instance (slice_index_or keys 0 d) now
    → stage_of new ≡ drop_one (instance_at now (slice_index_or keys 0 d)).id (stage_of now) → CopiesGone e (n + 1) w new
one-more hw e n w now new keys d h small g told low dropped stage =
    let copies : List Key = (family_of w e).copies in
    let k : Key = slice_index_or keys 0 d in
    let some : 0 < length keys = some-left e n w now keys g told low in
    let c : IsCopyAt now e k = first-copy hw e now keys d h told some in
    let may : MayGo now k = copy-may_go hw e now keys d h told some in
    let one : n + 1 ≡ suc n = omega arith in
    let k_is : k ≡ slice_index_or copies n d = first-is e n w now keys d g told low in
    let rest : (family_of now e).copies ≡ k ∷ drop (suc n) copies = grind (arith, nat_tests, first-left, copies-left) in
    let once : times k (drop (suc n) copies) ≡ 0 =
    omega (arith, copy-once hw now e k h, ap (times k) rest, times-cons k k (drop (suc n) copies), once-true (is_key k k) (is_key-same k k refl)) in
    let fewer : all_but k (family_of now e).copies ≡ drop (n + 1) copies = grind (arith, nat_tests, all_but_first) in
    record {
      gone = subst (λ ks. HaveGone e ks w new)
          (ap (λ x. take n copies ++ x ∷ []) k_is ∙ sym (ap (λ m. take m copies) one ∙ take-suc copies n d low))
          (both-gone e (take n copies) (k ∷ []) w now new g.gone (one-gone hw now new e k h may c.event dropped stage)
          (λ j there. elim (cases_eq (times j (take n copies)) 0) [
            | inl none ↦ none
            | inr more ↦
                let is : j ≡ k = one-key j k there in
                absurd (false≢true (sym (g.gone.dead j (omega (arith, more))) ∙ (ap (is_live now) is ∙ c.live)))
          ]));
      left = family-after hw now new e k h may small c.event dropped
          ∙ (ap (λ b. out_of_family b k (family_of now e)) c.copy ∙ ((λ i. record (g.left i) { copies = fewer i })));
    }

pub all-gone : (e : EventNo) (n : ℕ) (w now : World) → CopiesGone e n w now → length (family_of w e).copies ≤ n → HaveGone e (family_of w e).copies w now
all-gone e n w now g past = subst (λ ks. HaveGone e ks w now) (take_all n (family_of w e).copies past) g.gone

pub none-left : (e : EventNo) (n : ℕ) (w now : World) → CopiesGone e n w now → length (family_of w e).copies ≤ n → family_of now e ≡ record (family_of w e) { copies = [] }
none-left e n w now g past = g.left ∙ ap (λ ks. record (family_of w e) { copies = ks }) (drop_of_length-le (family_of w e).copies past)

-- the original goes last
pub original-may_go : (hw : Hardware) (w : World) (e : EventNo) (k : Key) → IsKept hw w → (family_of w e).original ≡ Some k → (family_of w e).copies ≡ [] → MayGo w k
original-may_go hw w e k h is none =
    let here = original-in hw w e k h is in
    grind (arith, nat_tests, once-true)

pub not-copy : (hw : Hardware) (w : World) (e : EventNo) (k : Key) → IsKept hw w → (family_of w e).original ≡ Some k → (instance_at w k).copy ≡ false
not-copy hw w e k h is =
    let one : times k (in_option (family_of w e).original) ≡ 1 = ap (λ o. times k (in_option o)) is ∙ omega (arith, times-cons k k [], once-true (is_key k k) (is_key-same k k refl)) in
    let test : is_original_in (post_at w) e.0 k ≡ true = once-both (is_original_in (post_at w) e.0 k) (omega (arith, one, h.linked.originals k e.0)) in
    (three (is_live w k) ((instance_at w k).event.0 == e.0) (instance_at w k).copy test).2

pub original-gone : (hw : Hardware) (w new : World) (e : EventNo) (k : Key) → IsKept hw w → (family_of w e).original ≡ Some k → (family_of w e).copies ≡ [] → new ≡ drop_instance k w
    → stage_of new ≡ drop_one (instance_at w k).id (stage_of w) → HaveGone e (in_option (family_of w e).original) w new
original-gone hw w new e k h is none dropped stage =
    subst (λ o. HaveGone e (in_option o) w new) (sym is) (one-gone hw w new e k h (original-may_go hw w e k h is none) (original-in hw w e k h is).1 dropped stage)

pub family-gone : (hw : Hardware) (w new : World) (e : EventNo) (k : Key) → IsKept hw w → e.0 < 256 → (family_of w e).original ≡ Some k → (family_of w e).copies ≡ [] → new ≡ drop_instance k w
    → family_of new e ≡ no_family
family-gone hw w new e k h low is none dropped =
    family-after hw w new e k h (original-may_go hw w e k h is none) low (original-in hw w e k h is).1 dropped
    ∙ (ap (λ b. out_of_family b k (family_of w e)) (not-copy hw w e k h is) ∙ ap (λ ks. record { original = None; copies = ks }) none)

pub no-original_gone : (e : EventNo) (w : World) → (family_of w e).original ≡ None → HaveGone e (in_option (family_of w e).original) w w
no-original_gone e w is = subst (λ o. HaveGone e (in_option o) w w) (sym is) (none-gone e w)

pub no-family_left : (e : EventNo) (w : World) → (family_of w e).original ≡ None → (family_of w e).copies ≡ [] → family_of w e ≡ no_family
no-family_left e w is none = λ i. record { original = is i; copies = none i }

-- the whole family
pub whole-gone : (hw : Hardware) (e : EventNo) (w mid new : World) → IsKept hw mid → HaveGone e (family_of w e).copies w mid → family_of mid e ≡ record (family_of w e) { copies = [] }
    → HaveGone e (in_option (family_of mid e).original) mid new → HaveGone e ((family_of w e).copies ++ in_option (family_of w e).original) w new
whole-gone hw e w mid new h first left second =
    let same : (family_of mid e).original ≡ (family_of w e).original = ap (λ f. f.original) left in
    both-gone e (family_of w e).copies (in_option (family_of w e).original) w mid new first (subst (λ o. HaveGone e (in_option o) mid new) same second)
    (λ k some. elim (cases_eq (times k (family_of w e).copies) 0) [
      | inl none ↦ none
      | inr more ↦ grind (arith, nat_tests, in-family, count-append, false≢true, more)
    ])

-- on the stage
swapped-ids : (w : World) (e : EventNo) (n : ℕ) → count_by (λ id. n == id) (map (λ k. (instance_at w k).id) ((family_of w e).copies ++ in_option (family_of w e).original))
    ≡ count_by (λ id. n == id) (map (λ k. (instance_at w k).id) (family_keys w e))
swapped-ids w e n = grind (arith, nat_tests, map-append, count-append)

pub closed-stage : (hw : Hardware) (w new : World) (e : EventNo) → IsKept hw w → IsSound hw (stage_of w) → HaveGone e ((family_of w e).copies ++ in_option (family_of w e).original) w new
    → stage_of new ≡ closed e (stage_of w)
closed-stage hw w new e h sound g =
    g.stage
    ∙ closed_one_by_one e (stage_of w) (map (λ k. (instance_at w k).id) ((family_of w e).copies ++ in_option (family_of w e).original)) (is-numbered hw w h) sound.placed
    (λ n. swapped-ids w e n ∙ family-ids hw w e h n)

-- key by key
done-times : (w : World) (e : EventNo) (k : Key) → times k ((family_of w e).copies ++ in_option (family_of w e).original) ≡ times k (family_keys w e)
done-times w e k = grind (arith, nat_tests, count-append)

not-done : (hw : Hardware) (w : World) (e : EventNo) (k : Key) → IsKept hw w → is_of_family e (instance_at w k) ≡ false → times k ((family_of w e).copies ++ in_option (family_of w e).original) ≡ 0
not-done hw w e k h off = elim (cases_eq (times k (family_keys w e)) 0) [
  | inl none ↦ done-times w e k ∙ none
  | inr more ↦ grind (arith, nat_tests, in-family, more, false≢true, same_number)
]

pub is-closed : (hw : Hardware) (w new : World) (e : EventNo) → IsKept hw w → HaveGone e ((family_of w e).copies ++ in_option (family_of w e).original) w new → family_of new e ≡ no_family → IsClosed e w new
is-closed hw w new e h g left = record {
  world = g.world;
  gone = λ k live is. g.dead k (omega (arith, at-family hw w e k h live is, done-times w e k));
  live = λ k off. g.live k (not-done hw w e k h off);
  instances = λ k off. g.instances k (not-done hw w e k h off);
  contexts = λ k off. g.contexts k (not-done hw w e k h off);
  accounts = λ k off. g.accounts k (not-done hw w e k h off);
  standings = g.standings;
  family = left;
  families = g.families;
}

-- processors that do not reach the family
none-there : (p : Key → Bool) (keys : List Key) (k : Key) → list_any p keys ≡ false → 1 ≤ times k keys → p k ≡ false
none-there p keys k none some = elim (cases_Bool (p k)) [
  | inr off ↦ off
  | inl passes ↦ absurd (false≢true (sym none ∙ (ap (list_any p) (sym (map-none keys)) ∙ any-there p (λ q. q) k keys some passes)))
]

pub closed-others : (hw : Hardware) (w new : World) (e : EventNo) (cpu : CpuNo) → IsKept hw w → HaveGone e ((family_of w e).copies ++ in_option (family_of w e).original) w new
    → stage_of new ≡ closed e (stage_of w) → cpu.0 < 8 → reaches (stage_of w) (e ∷ []) cpu ≡ false → IsUntouched hw w new cpu
closed-others hw w new e cpu h g stage low off =
    let done : List Key = (family_of w e).copies ++ in_option (family_of w e).original in
    let away : (k : Key) → 1 ≤ times k done → reaches_key w cpu k ≡ false = λ k some.
    none-there (reaches_key w cpu) (keys_named w (e ∷ [])) k (sym (reaches-are hw w (e ∷ []) cpu h) ∙ off)
    (omega (arith, some, done-times w e k, count-append (is_key k) (family_keys w e) [])) in
    let running : new.quiet ≡ w.quiet = ap (λ (x : World). x.quiet) g.world in
    left-untouched hw w new cpu low (record {
      briefs = ap (λ s. briefs hw s cpu) stage
          ∙ briefs-of_passes hw cpu (stage_of w) (closed e (stage_of w)) (passes-same (stage_of w) (closed e (stage_of w)) cpu (close-reaches e (stage_of w) cpu off));
      seats = ap (λ (x : World). seats_at x cpu) g.world;
      groups = λ q lead has.
          let there : has_context (stage_of w) cpu (entry_at new q).context ≡ true = ap (λ y. has_context (stage_of (record w { quiet = y })) cpu (entry_at new q).context) (sym running) ∙ has in
          let stood = g.groups q lead (λ k some is. false≢true (sym (away k some) ∙ (ap (has_context (stage_of w) cpu) (sym is) ∙ there))) in
          let live : is_live new q ≡ true = (leads-parts (is_live new q) (is_key q (entry_at new q).leader) lead).0 in
          let stays : times q done ≡ 0 = grind (arith, nat_tests, false≢true) in
          (stood.0, ap (has_context (stage_of w) cpu) (sym (g.contexts q stays)) ∙ there, ap (λ i. i.id) (g.instances q stays), stood.1);
    })

-- what its line leaves
not-gone : (e : EventNo) (done : List Key) (w new : World) (k : Key) → HaveGone e done w new → is_live new k ≡ true → times k done ≡ 0
not-gone e done w new k g live = elim (cases_eq (times k done) 0) [
  | inl none ↦ none
  | inr more ↦ absurd (false≢true (sym (g.dead k (omega (arith, more))) ∙ live))
]

closed-opened : (w new : World) (e slot : EventNo) → IsClosed e w new → is_some (family_of new slot).original ≡ true → is_some (family_of w slot).original ≡ true
closed-opened w new e slot c some = grind (arith, nat_tests, false≢true)

pub closed-slots : (w new : World) (e : EventNo) → HaveGone e ((family_of w e).copies ++ in_option (family_of w e).original) w new → IsClosed e w new
    → KeepsSlots w new
closed-slots w new e g c =
    record {
      hardware = ap (λ (x : World). x.hardware) g.world;
      contexts = λ k live. g.contexts k (not-gone e ((family_of w e).copies ++ in_option (family_of w e).original) w new k g live);
      opened = λ slot some. closed-opened w new e slot c some;
      used = ap (λ (x : World). x.quiet.used) g.world;
      folded = ap (λ (x : World). x.folded) g.world;
      lost = ap (λ (x : World). x.lost) g.world;
      running = ap (λ (x : World). length x.quiet.running) g.world;
      clocks = ap (λ (x : World). x.quiet.clocks) g.world;
      totals = ap (λ (x : World). x.quiet.totals) g.world;
      next_id = ap (λ (x : World). x.quiet.next_id) g.world;
    }

pub closed-share : (w new : World) (e : EventNo) (k : Key) → IsKept w.hardware w → HaveGone e ((family_of w e).copies ++ in_option (family_of w e).original) w new → is_live new k ≡ true
    → HasItsShare w.hardware w new (ToolStep (line.Close e)) k
closed-share w new e k h g live =
    let none : times k ((family_of w e).copies ++ in_option (family_of w e).original) ≡ 0 = not-gone e ((family_of w e).copies ++ in_option (family_of w e).original) w new k g live in
    quiet-keeps w.hardware w new (ToolStep (line.Close e)) k h refl (record { live = sym (g.live k none) ∙ live; id = ap (λ i. i.id) (g.instances k none); account = g.accounts k none })
