-- A sibling that goes: the tables after it, and that the world is kept.
use Rattle.std.specs.Prelude.{◌≡◌, ℕ, ◌^◌, ◌<◌, ◌≤◌, ◌==◌, Bool, true, false, cond, List, [], ◌∷◌, length, map, None, slice_index_or, slice_set}
use Rattle.std.specs.{Cmp.{unsigned_tied}, FinMap.{FinMap, get, contains_key, remove, get-remove}, Option.{unwrap_or}, Ordering.{nat_cmp}}
use Rattle.std.proofs.{Common.{arith, refl, sym, ap, subst, ◌∙◌, inl, inr}, lemmas.Bool.{cases_eq, Decides.{nat_tests}}}
use Rattle.std.proofs.lemmas.{Cmp.{nat_cmp_total}, List.{length-map, length-set}}
use Rattle.perf_base.specs.{Scripts.{IsKind}, declared.{attr.Kind.{Kind}, numbers.Key.{Key}, reply.Sums.{Sums}, standing.Standing.{Standing}}}
use Rattle.perf_base.specs.Contexts.{context_of}
use Rattle.stage_spec.specs.{Checks.{has_unknown_sample}, Families.{plus}, Fits.{fits, fits_beside}, Hardware.{Hardware}, Opening.{is_used}}
use Rattle.stage_spec.specs.{Reading.{is_error}, Shares.{no_sums}}
use Rattle.world_spec.specs.Value.{World, Entry, Leaders, Family, no_family, no_leaders, no_entry, no_account, is_live, entry_at, instance_at, account_at, is_key, times}
use Rattle.world_spec.specs.StageOf.{stage_of, lists_at}
use Rattle.world_spec.specs.Kept.{post_at, once_if, in_option, is_copy_in, is_member_of, leads_in, kinds_in, keys_of, plus_keys, AreFitting, AreLawful, AreSmall, IsKept}
use Rattle.world_spec.specs.{Changes.{all_but}, Adding.{out_of_family, leave_group, taken_out}}
use Rattle.world_spec.proofs.Tables.{post_of, with_entry, entry-here, entry-there, entry-numbered}
use Rattle.world_spec.proofs.Accounts.{IsSum, counts_are_sums, times_are_sums}
use Rattle.world_spec.proofs.{Keys.{key-is, is_key-other, at_place, all_but-none, times-all_but_same, once-false}, Moving.{leads-parts}}
use Rattle.world_spec.proofs.{Coming.{core, by_coming}, ComingLinks.{last_of_two}, Copies.{goes-rising}, ComingGroups.{pick, map-apart}}
use Rattle.world_spec.proofs.{Added.{sums-le, sums-append, written-post, other-post}, AddedKept.{both-picks}}
use Rattle.world_spec.proofs.Going.{shell, still-apart, still-live, goes-numbered, goes-apart, goes-originals, goes-copies}
use Rattle.world_spec.proofs.GoneSibling.{GoesAlone, not-led, gone-members, gone-listed, gone-grouped, fitting-fewer}

-- a key that does not lead; an original goes after its copies
pub record SiblingMayGo (w : World) (k : Key) : Type 0 where
  pub live : is_live w k ≡ true
  pub sibling : is_key k (entry_at w k).leader ≡ false
  pub last : (instance_at w k).copy ≡ false → (j : Key) → is_copy_in (post_at w) (instance_at w k).event.0 j ≡ false

-- the world after it went
abbrev pub left_world : World → Key → World
left_world w k = taken_out k (instance_at w k) (leave_group k false w)

abbrev pub fewer_entry : World → Key → Entry
fewer_entry w k = record (entry_at w (entry_at w k).leader) { members = all_but k (entry_at w (entry_at w k).leader).members }

-- a table after a key was removed
pub get-removed : {X : Type 0} (m : FinMap nat_cmp X) (k q : ℕ) → get (remove m k) q ≡ cond (q == k) None (get m q)
get-removed m k q = get-remove nat_cmp_total m k q ∙ ap (λ b. cond b None (get m q)) (unsigned_tied q k)

pub get-gone : {X : Type 0} (m : FinMap nat_cmp X) (k q : ℕ) → q ≡ k → get (remove m k) q ≡ None
get-gone m k q e = let same : (q == k) ≡ true = grind (arith, nat_tests, e) in get-removed m k q ∙ ap (λ b. cond b None (get m q)) same

pub get-left : {X : Type 0} (m : FinMap nat_cmp X) (k q : ℕ) → (q ≡ k → ⊥) → get (remove m k) q ≡ get m q
get-left m k q apart = let other : (q == k) ≡ false = grind (arith, nat_tests, apart) in get-removed m k q ∙ ap (λ b. cond b None (get m q)) other

left-post : (w : World) (k j : Key) → (j.0 ≡ k.0 → ⊥) → post_at (left_world w k) j ≡ post_at (with_entry w (entry_at w k).leader (fewer_entry w k)) j
left-post w k j apart = grind (arith, nat_tests, with_entry, get-left, post_of)

pub left-instance : (w : World) (k j : Key) → (j.0 ≡ k.0 → ⊥) → instance_at (left_world w k) j ≡ instance_at w j
left-instance w k j apart = grind (arith, nat_tests, get-left, with_entry, entry-here, entry-numbered, entry-there)

left-core : (w : World) (k : Key) → is_live w (entry_at w k).leader ≡ true → (j : Key) → (j.0 ≡ k.0 → ⊥) → core (post_at (left_world w k) j) ≡ core (post_at w j)
left-core w k there j apart = grind (arith, nat_tests, core, left-post, with_entry, key-is, written-post, post_of, other-post)

pub left-goes : (hw : Hardware) (w : World) (k : Key) → IsKept hw w → is_live w k ≡ true → GoesAlone (post_at w) (post_at (left_world w k)) k
left-goes hw w k h live =
    let same : (j : Key) → (j.0 ≡ k.0 → ⊥) → core (post_at (left_world w k) j) ≡ core (post_at w j) = grind (arith, left-core, leads-parts) in
    grind (arith, nat_tests, get-gone, with_entry, shell, same)

-- sums of fewer keys
sums-fewer : (p : Sums → ℕ) → IsSum p → (s : Key → Sums) (k : Key) (keys : List Key) → p (plus_keys s (all_but k keys)) ≤ p (plus_keys s keys)
sums-fewer p is s k [] = omega arith
sums-fewer p is s k (q ∷ keys) = grind (arith, nat_tests, sums-fewer p is s k keys)

family-fewer : (p : Sums → ℕ) → IsSum p → (s t : Key → Sums) (k : Key) → ((q : Key) → p (t q) ≤ p (s q)) → (copy : Bool) (f : Family)
    → p (plus_keys t (keys_of (out_of_family copy k f))) ≤ p (plus_keys s (keys_of f))
family-fewer p is s t k h true f =
    omega (
      arith,
      sums-append p is t (in_option f.original) (all_but k f.copies),
      sums-append p is s (in_option f.original) f.copies,
      sums-le p is s t h (in_option f.original),
      sums-le p is s t h f.copies,
      sums-fewer p is t k f.copies,
    )
family-fewer p is s t k h false f = omega (arith, sums-append p is s (in_option f.original) f.copies, sums-le p is s t h f.copies)

left-sums : (p : Sums → ℕ) → IsSum p → (w : World) (s t : Key → Sums) (k : Key) (bound : ℕ) → ((q : Key) → p (t q) ≤ p (s q)) → (event : ℕ) (copy : Bool) → event < length w.families
    → ((slot : ℕ) → p (plus (plus_keys s (keys_of (slice_index_or w.families slot no_family))) (slice_index_or w.folded slot no_sums)) < bound)
    → (slot : ℕ) → p (plus (plus_keys t (keys_of (slice_index_or (slice_set w.families event (out_of_family copy k (slice_index_or w.families event no_family))) slot no_family))) (slice_index_or w.folded slot no_sums)) < bound
left-sums p is w s t k bound h event copy low small slot =
    let away : Sums = slice_index_or w.folded slot no_sums in
    at_place (λ f. p (plus (plus_keys t (keys_of f)) away) < bound) w.families event (out_of_family copy k (slice_index_or w.families event no_family)) no_family slot low
    (λ e.
    let f : Family = slice_index_or w.families event no_family in
    let before : p (plus (plus_keys s (keys_of f)) away) < bound = subst (λ x. p (plus (plus_keys s (keys_of (slice_index_or w.families x no_family))) away) < bound) e (small slot) in
    omega (arith, before, is.both (plus_keys s (keys_of f)) away, is.both (plus_keys t (keys_of (out_of_family copy k f))) away, family-fewer p is s t k h copy f))
    (λ apart.
    let keys : List Key = keys_of (slice_index_or w.families slot no_family) in
    omega (arith, small slot, is.both (plus_keys s keys) away, is.both (plus_keys t keys) away, sums-le p is s t h keys))

account-gone : (w : World) (k : Key) → account_at (left_world w k) k ≡ no_account
account-gone w k = ap (λ o. unwrap_or o no_account) (get-gone w.accounts k.0 k.0 refl)

pub account-left : (w : World) (k j : Key) → (j.0 ≡ k.0 → ⊥) → account_at (left_world w k) j ≡ account_at w j
account-left w k j apart = ap (λ o. unwrap_or o no_account) (get-left w.accounts k.0 j.0 apart)

account-less : (p : Sums → ℕ) → p no_sums ≡ 0 → (w : World) (k q : Key) → p (account_at (left_world w k) q).sums ≤ p (account_at w q).sums
account-less p none w k = grind (arith, nat_tests, by_coming, account-gone, account-left)

-- accounts and families without it stay small
pub small-left : (w : World) (k : Key) (entries : FinMap nat_cmp Entry) (standings : FinMap nat_cmp Standing) (contexts : List Leaders) → (instance_at w k).event.0 < length w.families → AreSmall w
    → AreSmall (record w {
      entries = entries;
      accounts = remove w.accounts k.0;
      standings = standings;
      contexts = contexts;
      families = slice_set w.families (instance_at w k).event.0 (out_of_family (instance_at w k).copy k (slice_index_or w.families (instance_at w k).event.0 no_family));
    })
small-left w k entries standings contexts low h =
    let s : Key → Sums = λ q. (account_at w q).sums in
    let t : Key → Sums = λ q. (account_at (left_world w k) q).sums in
    record {
      counts = left-sums (λ x. x.count) counts_are_sums w s t k (2 ^ 63) (account-less (λ x. x.count) refl w k) (instance_at w k).event.0 (instance_at w k).copy low h.counts;
      times = left-sums (λ x. x.enabled) times_are_sums w s t k (2 ^ 63) (account-less (λ x. x.enabled) refl w k) (instance_at w k).event.0 (instance_at w k).copy low h.times;
      ran = by_coming (λ q. (t q).running ≤ (t q).enabled) k
          (subst (λ a. a.sums.running ≤ a.sums.enabled) (sym (account-gone w k)) (omega arith))
          (λ q apart. subst (λ a. a.sums.running ≤ a.sums.enabled) (sym (account-left w k q apart)) (h.ran q));
      folded_ran = h.folded_ran;
      clocks = h.clocks;
      totals = h.totals;
      lost = h.lost;
      ids = h.ids;
    }

pub fewer-keys : {X : Type 0} (m : FinMap nat_cmp X) (k : Key) (before after : Key → Bool) → ((j : Key) → contains_key m j.0 ≡ before j) → after k ≡ false
    → ((j : Key) → (j.0 ≡ k.0 → ⊥) → after j ≡ before j) → (j : Key) → contains_key (remove m k.0) j.0 ≡ after j
fewer-keys m k before after h gone others = grind (arith, nat_tests, by_coming, get-gone, get-left)

left-none : (w : World) (k : Key) → (post_at (left_world w k) k).members ≡ []
left-none w k = ap (λ o. (unwrap_or o no_entry).members) (get-gone (with_entry w (entry_at w k).leader (fewer_entry w k)).entries k.0 k.0 refl)

left-fewer : (w : World) (k : Key) → ((entry_at w k).leader.0 ≡ k.0 → ⊥) → (post_at (left_world w k) (entry_at w k).leader).members ≡ all_but k (entry_at w (entry_at w k).leader).members
left-fewer w k far = ap (λ x. x.members) (left-post w k (entry_at w k).leader far) ∙ ap (λ x. x.members) (entry-here w (entry_at w k).leader (fewer_entry w k) (entry_at w k).leader refl)

left-others : (w : World) (k j : Key) → (j.0 ≡ k.0 → ⊥) → (j.0 ≡ (entry_at w k).leader.0 → ⊥) → (post_at (left_world w k) j).members ≡ (post_at w j).members
left-others w k j apart off = ap (λ x. x.members) (left-post w k j apart) ∙ ap (λ x. x.members) (entry-there w (entry_at w k).leader (fewer_entry w k) j off)

-- so of each key that stays the members are the same but for the one that went
pub left-members : (hw : Hardware) (w : World) (k : Key) → IsKept hw w → SiblingMayGo w k → (j : Key) → (j.0 ≡ k.0 → ⊥) → (post_at (left_world w k) j).members ≡ all_but k (entry_at w j).members
left-members hw w k h may j apart =
    let first : Key = (entry_at w k).leader in
    let far : first.0 ≡ k.0 → ⊥ = λ e. not-led (post_at w) k may.sibling h.grouped k may.live e in
    elim (cases_eq j.0 first.0) [
      | inl e ↦ ap (λ x. (post_at (left_world w k) x).members) (key-is j first e) ∙ (left-fewer w k far ∙ ap (λ x. all_but k (entry_at w x).members) (sym (key-is j first e)))
      | inr off ↦ left-others w k j apart off ∙ sym (all_but-none k (entry_at w j).members (h.linked.members k j
          ∙ once-false (is_member_of (post_at w) j k) (last_of_two (is_live w k) (is_key j first) (λ x. is_key-other j first (λ e. off (sym e))))))
    ]

pub nothing-fits : (hw : Hardware) → AreFitting hw []
unfolding fits fits_beside
nothing-fits hw = record { fit = refl; one_pmu = λ i j d below low. absurd (omega (arith, low)) }

kinds-left : (hw : Hardware) (w : World) (k : Key) → IsKept hw w → SiblingMayGo w k → (j : Key) → AreFitting hw (kinds_in (post_at (left_world w k)) j)
kinds-left hw w k h may =
    let t : World = left_world w k in
    let kind : Key → Kind = λ q. (instance_at w q).attr.kind in
    by_coming (λ j. AreFitting hw (kinds_in (post_at t) j)) k
    (subst (λ ms. AreFitting hw (map (λ q. (instance_at t q).attr.kind) ms)) (sym (left-none w k)) (nothing-fits hw))
    (λ j apart. subst (AreFitting hw) (sym (ap (map (λ q. (instance_at t q).attr.kind)) (left-members hw w k h may j apart)
    ∙ map-apart (λ q. (instance_at t q).attr.kind) kind k (λ q far. ap (λ i. i.attr.kind) (left-instance w k q far)) (all_but k (entry_at w j).members) (times-all_but_same k (entry_at w j).members)))
    (fitting-fewer hw kind k (entry_at w j).members (h.fitting j)))

lawful-left : (hw : Hardware) (w : World) (k : Key) → IsKept hw w → GoesAlone (post_at w) (post_at (left_world w k)) k → AreLawful (left_world w k)
lawful-left hw w k h g =
    let t : World = left_world w k in
    let far : (j : Key) → is_live t j ≡ true → j.0 ≡ k.0 → ⊥ = still-apart (post_at w) (post_at t) k g.goes in
    let was : (j : Key) → is_live t j ≡ true → is_live w j ≡ true = still-live (post_at w) (post_at t) k g.goes in
    record {
      errors = λ j live error. ap (λ x. is_key j x.leader) (g.same j (far j live))
          ∙ h.lawful.errors j (was j live) (ap (λ i. is_error i.own) (sym (left-instance w k j (far j live))) ∙ error);
      samples = λ j live. ap (λ i. has_unknown_sample i.attr) (left-instance w k j (far j live)) ∙ h.lawful.samples j (was j live);
      kinds = λ j live. subst (λ i. IsKind (length w.hardware.kind_pmus) i.attr.kind) (sym (left-instance w k j (far j live))) (h.lawful.kinds j (was j live));
      used = λ j live first. ap (λ i. is_used (stage_of w) i.event) (left-instance w k j (far j live))
          ∙ h.lawful.used j (was j live) (sym (ap (λ i. i.copy) (left-instance w k j (far j live))) ∙ first);
      placed = λ j live first. ap (λ x. x.context) (g.same j (far j live))
          ∙ (h.lawful.placed j (was j live) (sym (ap (λ i. i.copy) (left-instance w k j (far j live))) ∙ first) ∙ sym (ap (λ i. context_of i.attr) (left-instance w k j (far j live))));
    }

pub left-kept : (hw : Hardware) (w : World) (k : Key) → SiblingMayGo w k → IsKept hw w → IsKept hw (left_world w k)
left-kept hw w k may h =
    let t : World = left_world w k in
    let g : GoesAlone (post_at w) (post_at t) k = left-goes hw w k h may.live in
    let far : (entry_at w k).leader.0 ≡ k.0 → ⊥ = λ e. not-led (post_at w) k may.sibling h.grouped k may.live e in
    let low : (instance_at w k).event.0 < length w.families = omega (arith, h.numbered.slots k may.live, h.tables.families) in
    let listed : (b : Bool) (j : Key) (place : ℕ) → times j (pick b (slice_index_or w.contexts place no_leaders)) ≡ once_if (leads_in (post_at t) place b j) =
    gone-listed (post_at w) (post_at t) k g may.sibling w.contexts (both-picks w w.contexts (post_at w) h.linked.pinned h.linked.flexible) in
    record {
      tables = record {
        accounts = fewer-keys w.accounts k (is_live w) (is_live t) h.tables.accounts g.goes.gone (λ j apart. ap (λ x. x.live) (g.same j apart));
        standings = fewer-keys w.standings k (is_live w) (is_live t) h.tables.standings g.goes.gone (λ j apart. ap (λ x. x.live) (g.same j apart));
        families = length-set w.families (instance_at w k).event.0 _ ∙ h.tables.families;
        folded = h.tables.folded;
        lost = h.tables.lost;
        clocks = h.tables.clocks;
        totals = h.tables.totals;
        seats = h.tables.seats;
      };
      shape = record {
        running = h.shape.running;
        tasks = h.shape.tasks;
        contexts = length-map w.contexts (lists_at t) ∙ (sym (length-map w.contexts (lists_at w)) ∙ h.shape.contexts);
      };
      running = record { live = h.running.live; once = h.running.once };
      linked = record {
        originals = goes-originals (post_at w) (post_at t) k g.goes w.families low h.linked.originals;
        copies = goes-copies (post_at w) (post_at t) k g.goes w.families low h.linked.copies;
        members = gone-members (post_at w) (post_at t) k g may.sibling h.grouped (left-none w k) (left-fewer w k far) (left-others w k) h.linked.members;
        pinned = listed true;
        flexible = listed false;
      };
      copies = goes-rising (post_at w) (post_at t) k g.goes w.families low (goes-copies (post_at w) (post_at t) k g.goes w.families low h.linked.copies) h.copies;
      grouped = gone-grouped (post_at w) (post_at t) k g may.sibling (left-none w k) (left-fewer w k far) (left-others w k) h.grouped;
      numbered = goes-numbered (post_at w) (post_at t) k w.quiet.next_id g.goes h.numbered;
      apart = goes-apart (post_at w) (post_at t) k g.goes may.last h.apart;
      fitting = kinds-left hw w k h may;
      lawful = lawful-left hw w k h g;
      seated = h.seated;
      small = small-left w k (remove (with_entry w (entry_at w k).leader (fewer_entry w k)).entries k.0) (remove w.standings k.0) w.contexts low h.small;
    }
