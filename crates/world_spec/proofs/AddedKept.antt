-- A world is kept when an instance comes.
use Rattle.std.specs.Prelude.{◌≡◌, ℕ, ◌+◌, ◌^◌, ◌<◌, ◌≤◌, Bool, true, false, List, [], ◌∷◌, ◌++◌, length, Option, Some, None, slice_index_or, if◌then◌else◌}
use Rattle.std.specs.{FinMap.{FinMap, contains_key, insert}, Option.{unwrap_or}, Ordering.{nat_cmp}}
use Rattle.std.proofs.{Common.{arith, refl, sym, ap, subst, ◌∙◌}, lemmas.{Bool.{false≢true}, List.{length-map, length-set}}}
use Rattle.perf_base.specs.{Scripts.{IsKind}, declared.{numbers.Key.{Key}, reply.Sums.{Sums}}, Contexts.{context_of}}
use Rattle.stage_spec.specs.{Checks.{has_unknown_sample}, Flags.{is_disabled}, Hardware.{Hardware}, Opening.{is_used}, Reading.{is_error}}
use Rattle.stage_spec.specs.Stage.{place_of}
use Rattle.world_spec.specs.Value.{World, Account, Leaders, no_family, no_leaders, no_account, is_live, entry_at, instance_at, account_at, is_key, times}
use Rattle.world_spec.specs.StageOf.{stage_of, lists_at}
use Rattle.world_spec.specs.Kept.{Post, post_at, once_if, is_original_in, leads_in, AreFitting, AreLawful, AreSmall, IsKept}
use Rattle.world_spec.specs.{Adding.{Newcomer, new_instance, new_entry, in_family}, Comings.{MayCome, IsOfOriginal, HasRoom, new_kinds, AddKeptLaw}}
use Rattle.world_spec.proofs.{Tables.{get-here, get-there, post_of}, Renaming.{dead-entry}, Accounts.{counts_are_sums, times_are_sums}}
use Rattle.world_spec.proofs.{Moving.{leads-parts}, Coming.{Comes, live-apart, was-live, by_coming, comes-numbered, comes-apart, number_true, three}}
use Rattle.world_spec.proofs.{ComingLinks.{comes-originals, comes-copies, comes-alone, comes-joined}, Copies.{comes-rising}}
use Rattle.world_spec.proofs.ComingGroups.{pick, comes-listed, comes-unlisted, grouped-alone, grouped-joined, fitting-alone, fitting-joined}
use Rattle.world_spec.proofs.Added.{added, comes-by, alone-members, grown-members, joined-members, other-instance, new-entry_at, entry-instance, added-sums, used-more, used-new, fresh-state}

-- the post of the newcomer
abbrev arriving : World → Key → Newcomer → Option Key → Post
arriving w k n leader = post_of true (new_entry w k n leader)

-- its account has nothing
abbrev empty_account : World → Key → Newcomer → Option Key → Account
empty_account w k n leader = account_at (added w k n leader) k

account-new : (w : World) (k : Key) (n : Newcomer) (leader : Option Key) → (p : Sums → ℕ) → p (record { count = 0; enabled = 0; running = 0 }) ≡ 0
    → p (account_at (added w k n leader) k).sums ≡ 0
account-new w k n None p zero_is = ap (λ o. p (unwrap_or o no_account).sums) (get-here w.accounts k.0 _ k.0 refl) ∙ zero_is
account-new w k n (Some first) p zero_is = ap (λ o. p (unwrap_or o no_account).sums) (get-here w.accounts k.0 _ k.0 refl) ∙ zero_is

account-other : (w : World) (k : Key) (n : Newcomer) (leader : Option Key) (j : Key) → (j.0 ≡ k.0 → ⊥) → account_at (added w k n leader) j ≡ account_at w j
account-other w k n None j apart = ap (λ o. unwrap_or o no_account) (get-there w.accounts k.0 _ j.0 apart)
account-other w k n (Some first) j apart = ap (λ o. unwrap_or o no_account) (get-there w.accounts k.0 _ j.0 apart)

account-le : (w : World) (k : Key) (n : Newcomer) (leader : Option Key) → (p : Sums → ℕ) → p (record { count = 0; enabled = 0; running = 0 }) ≡ 0
    → (j : Key) → p (account_at (added w k n leader) j).sums ≤ p (account_at w j).sums
account-le w k n leader p zero_is = by_coming (λ j. p (account_at (added w k n leader) j).sums ≤ p (account_at w j).sums) k
    (omega (arith, account-new w k n leader p zero_is)) (λ j apart. omega (arith, ap (λ a. p a.sums) (account-other w k n leader j apart)))

small-added : (w : World) (k : Key) (n : Newcomer) (leader : Option Key) → n.event.0 < length w.families → w.quiet.next_id + 1 < 2 ^ 63 → AreSmall w → AreSmall (added w k n leader)
small-added w k n None low room h = record {
  counts = added-sums (λ s. s.count) counts_are_sums w (λ q. (account_at w q).sums) (λ q. (account_at (added w k n None) q).sums) k (2 ^ 63)
      (account-le w k n None (λ s. s.count) refl) (account-new w k n None (λ s. s.count) refl) n.event.0 n.copy low h.counts;
  times = added-sums (λ s. s.enabled) times_are_sums w (λ q. (account_at w q).sums) (λ q. (account_at (added w k n None) q).sums) k (2 ^ 63)
      (account-le w k n None (λ s. s.enabled) refl) (account-new w k n None (λ s. s.enabled) refl) n.event.0 n.copy low h.times;
  ran = by_coming (λ j. (account_at (added w k n None) j).sums.running ≤ (account_at (added w k n None) j).sums.enabled) k
      (omega (arith, account-new w k n None (λ s. s.running) refl)) (λ j apart. subst (λ a. a.sums.running ≤ a.sums.enabled) (sym (account-other w k n None j apart)) (h.ran j));
  folded_ran = h.folded_ran;
  clocks = h.clocks;
  totals = h.totals;
  lost = h.lost;
  ids = room;
}
small-added w k n (Some first) low room h = record {
  counts = added-sums (λ s. s.count) counts_are_sums w (λ q. (account_at w q).sums) (λ q. (account_at (added w k n (Some first)) q).sums) k (2 ^ 63)
      (account-le w k n (Some first) (λ s. s.count) refl) (account-new w k n (Some first) (λ s. s.count) refl) n.event.0 n.copy low h.counts;
  times = added-sums (λ s. s.enabled) times_are_sums w (λ q. (account_at w q).sums) (λ q. (account_at (added w k n (Some first)) q).sums) k (2 ^ 63)
      (account-le w k n (Some first) (λ s. s.enabled) refl) (account-new w k n (Some first) (λ s. s.enabled) refl) n.event.0 n.copy low h.times;
  ran = by_coming (λ j. (account_at (added w k n (Some first)) j).sums.running ≤ (account_at (added w k n (Some first)) j).sums.enabled) k
      (omega (arith, account-new w k n (Some first) (λ s. s.running) refl))
      (λ j apart. subst (λ a. a.sums.running ≤ a.sums.enabled) (sym (account-other w k n (Some first) j apart)) (h.ran j));
  folded_ran = h.folded_ran;
  clocks = h.clocks;
  totals = h.totals;
  lost = h.lost;
  ids = room;
}

-- only leaders are in error, and so on
post-live : (w : World) (k : Key) (n : Newcomer) (leader : Option Key) → Comes (post_at w) (post_at (added w k n leader)) k (arriving w k n leader)
    → (j : Key) → (j.0 ≡ k.0 → ⊥) → is_live (added w k n leader) j ≡ true → is_live w j ≡ true
post-live w k n leader c j apart live = was-live (post_at w) (post_at (added w k n leader)) k (arriving w k n leader) c j apart live

added-hardware : (w : World) (k : Key) (n : Newcomer) (leader : Option Key) → (added w k n leader).hardware ≡ w.hardware
added-hardware w k n None = refl
added-hardware w k n (Some first) = refl

pub context-new : (w : World) (k : Key) (n : Newcomer) (leader : Option Key) → (new_entry w k n leader).context ≡ n.context
context-new w k n None = refl
context-new w k n (Some first) = refl

lawful-added : (w : World) (k : Key) (n : Newcomer) (leader : Option Key) → Comes (post_at w) (post_at (added w k n leader)) k (arriving w k n leader)
    → (added w k n leader).quiet.used ≡ (if n.copy then w.quiet.used else w.quiet.used ++ n.event ∷ []) → has_unknown_sample n.attr ≡ false
    → IsKind (length w.hardware.kind_pmus) n.attr.kind → (n.copy ≡ false → n.context ≡ context_of n.attr) → AreLawful w → AreLawful (added w k n leader)
lawful-added w k n leader c used known kind placed h =
    let t : World = added w k n leader in
    let mine : instance_at t k ≡ new_instance w n = ap (λ x. x.instance) (new-entry_at w k n leader) ∙ entry-instance w k n leader in
    record {
      errors = by_coming (λ j. is_live t j ≡ true → is_error (instance_at t j).own ≡ true → is_key j (entry_at t j).leader ≡ true) k
          (λ live error. absurd (false≢true (sym (ap (λ i. is_error i.own) mine ∙ fresh-state (is_disabled n.attr) n.attr refl) ∙ error)))
          (λ j apart live error. ap (λ x. is_key j x.leader) (c.others j apart)
          ∙ h.errors j (post-live w k n leader c j apart live) (ap (λ i. is_error i.own) (sym (other-instance w k n leader j apart)) ∙ error));
      samples = by_coming (λ j. is_live t j ≡ true → has_unknown_sample (instance_at t j).attr ≡ false) k
          (λ live. ap (λ i. has_unknown_sample i.attr) mine ∙ known)
          (λ j apart live. ap (λ i. has_unknown_sample i.attr) (other-instance w k n leader j apart) ∙ h.samples j (post-live w k n leader c j apart live));
      kinds = subst (λ (m : Hardware). (j : Key) → is_live t j ≡ true → IsKind (length m.kind_pmus) (instance_at t j).attr.kind) (sym (added-hardware w k n leader))
          (by_coming (λ j. is_live t j ≡ true → IsKind (length w.hardware.kind_pmus) (instance_at t j).attr.kind) k
          (λ live. subst (λ i. IsKind (length w.hardware.kind_pmus) i.attr.kind) (sym mine) kind)
          (λ j apart live. subst (λ i. IsKind (length w.hardware.kind_pmus) i.attr.kind) (sym (other-instance w k n leader j apart)) (h.kinds j (post-live w k n leader c j apart live))));
      used = by_coming (λ j. is_live t j ≡ true → (instance_at t j).copy ≡ false → is_used (stage_of t) (instance_at t j).event ≡ true) k
          (λ live first. ap (λ i. is_used (stage_of t) i.event) mine ∙ (ap (λ us. is_used (record (stage_of t) { used = us }) n.event) used
          ∙ used-new n.copy w.quiet.used n.event (sym (ap (λ i. i.copy) mine) ∙ first)))
          (λ j apart live first.
          let same : instance_at t j ≡ instance_at w j = other-instance w k n leader j apart in
          ap (λ i. is_used (stage_of t) i.event) same ∙ (ap (λ us. is_used (record (stage_of t) { used = us }) (instance_at w j).event) used
          ∙ used-more n.copy w.quiet.used (instance_at w j).event n.event (h.used j (post-live w k n leader c j apart live) (sym (ap (λ i. i.copy) same) ∙ first))));
      placed = by_coming (λ j. is_live t j ≡ true → (instance_at t j).copy ≡ false → (entry_at t j).context ≡ context_of (instance_at t j).attr) k
          (λ live first. ap (λ x. x.context) c.new ∙ (context-new w k n leader ∙ (placed (sym (ap (λ i. i.copy) mine) ∙ first) ∙ sym (ap (λ i. context_of i.attr) mine))))
          (λ j apart live first.
          let same : instance_at t j ≡ instance_at w j = other-instance w k n leader j apart in
          ap (λ x. x.context) (c.others j apart) ∙ (h.placed j (post-live w k n leader c j apart live) (sym (ap (λ i. i.copy) same) ∙ first) ∙ sym (ap (λ i. context_of i.attr) same)));
    }

-- the tables have the new key
same-keys : {X : Type 0} (m : FinMap nat_cmp X) (k : Key) (v : X) (before after : Key → Bool) → ((j : Key) → contains_key m j.0 ≡ before j) → after k ≡ true
    → ((j : Key) → (j.0 ≡ k.0 → ⊥) → after j ≡ before j) → (j : Key) → contains_key (insert m k.0 v) j.0 ≡ after j
same-keys m k v before after h new others = grind (arith, by_coming, get-here, get-there)

-- no original of a slot that was not used
slot-free : (w : World) → AreLawful w → (n : Newcomer) → IsOfOriginal w n → n.copy ≡ false → (j : Key) → is_original_in (post_at w) n.event.0 j ≡ false
slot-free w h n o first j = grind (arith, three, number_true, false≢true)

pub both-picks : (w : World) (contexts : List Leaders) (at : Key → Post) → ((j : Key) (place : ℕ) → times j (slice_index_or contexts place no_leaders).pinned ≡ once_if (leads_in at place true j))
    → ((j : Key) (place : ℕ) → times j (slice_index_or contexts place no_leaders).flexible ≡ once_if (leads_in at place false j))
    → (b : Bool) (j : Key) (place : ℕ) → times j (pick b (slice_index_or contexts place no_leaders)) ≡ once_if (leads_in at place b j)
both-picks w contexts at pinned flexible true j place = pinned j place
both-picks w contexts at pinned flexible false j place = flexible j place

added-kept : (hw : Hardware) (w : World) (k : Key) (n : Newcomer) (leader : Option Key) → AreFitting hw (new_kinds w n leader) → HasRoom w n leader → MayCome hw w k n → IsOfOriginal w n
    → IsKept hw w → IsKept hw (added w k n leader)
added-kept hw w k n None fits room may of h =
    let t : World = added w k n None in
    let p : Post = arriving w k n None in
    let c : Comes (post_at w) (post_at t) k p = comes-by w k n may.fresh None room in
    let size : length w.contexts ≡ 72 = sym (length-map w.contexts (lists_at w)) ∙ h.shape.contexts in
    let listed : (b : Bool) (j : Key) (place : ℕ) → times j (pick b (slice_index_or t.contexts place no_leaders)) ≡ once_if (leads_in (post_at t) place b j) =
    comes-listed (post_at w) (post_at t) k p c refl w.contexts (omega (arith, may.place, size)) (both-picks w w.contexts (post_at w) h.linked.pinned h.linked.flexible) in
    record {
      tables = record {
        accounts = same-keys w.accounts k _ (is_live w) (is_live t) h.tables.accounts (ap (λ x. x.live) c.new) (λ j apart. ap (λ x. x.live) (c.others j apart));
        standings = same-keys w.standings k _ (is_live w) (is_live t) h.tables.standings (ap (λ x. x.live) c.new) (λ j apart. ap (λ x. x.live) (c.others j apart));
        families = length-set w.families n.event.0 (in_family n.copy k (slice_index_or w.families n.event.0 no_family)) ∙ h.tables.families;
        folded = h.tables.folded;
        lost = h.tables.lost;
        clocks = h.tables.clocks;
        totals = h.tables.totals;
        seats = h.tables.seats;
      };
      shape = record {
        running = h.shape.running;
        tasks = h.shape.tasks;
        contexts = length-map t.contexts (lists_at t) ∙ (length-set w.contexts (place_of n.context) _ ∙ size);
      };
      running = record { live = h.running.live; once = h.running.once };
      linked = record {
        originals = comes-originals (post_at w) (post_at t) k p c w.families (omega (arith, may.slot, h.tables.families)) h.linked.originals (slot-free w h.lawful n of);
        copies = comes-copies (post_at w) (post_at t) k p c w.families (omega (arith, may.slot, h.tables.families)) h.linked.copies;
        members = comes-alone (post_at w) (post_at t) k p c h.grouped refl refl (alone-members w k n) h.linked.members;
        pinned = listed true;
        flexible = listed false;
      };
      copies = comes-rising (post_at w) (post_at t) k p w.quiet.next_id c refl h.numbered w.families (omega (arith, may.slot, h.tables.families)) h.linked.copies of.few h.copies;
      grouped = grouped-alone (post_at w) (post_at t) k p c refl refl (alone-members w k n) h.grouped;
      numbered = comes-numbered (post_at w) (post_at t) k p w.quiet.next_id c refl may.slot may.place h.numbered;
      apart = comes-apart (post_at w) (post_at t) k p c may.first_there of.of_task of.original h.apart;
      fitting = fitting-alone hw (post_at w) (post_at t) k p c refl (alone-members w k n) h.linked.members fits h.fitting;
      lawful = lawful-added w k n None c refl may.known may.kind of.placed h.lawful;
      seated = h.seated;
      small = small-added w k n None (omega (arith, may.slot, h.tables.families)) may.room h.small;
    }
added-kept hw w k n (Some first) fits room may of h =
    let t : World = added w k n (Some first) in
    let p : Post = arriving w k n (Some first) in
    let c : Comes (post_at w) (post_at t) k p = comes-by w k n may.fresh (Some first) room in
    let live : is_live w first ≡ true = (leads-parts (is_live w first) (is_key first (entry_at w first).leader) room.0).0 in
    let far : first.0 ≡ k.0 → ⊥ = live-apart (post_at w) k may.fresh first live in
    let listed : (b : Bool) (j : Key) (place : ℕ) → times j (pick b (slice_index_or t.contexts place no_leaders)) ≡ once_if (leads_in (post_at t) place b j) =
    comes-unlisted (post_at w) (post_at t) k first p c live refl w.contexts (both-picks w w.contexts (post_at w) h.linked.pinned h.linked.flexible) in
    record {
      tables = record {
        accounts = same-keys w.accounts k _ (is_live w) (is_live t) h.tables.accounts (ap (λ x. x.live) c.new) (λ j apart. ap (λ x. x.live) (c.others j apart));
        standings = same-keys w.standings k _ (is_live w) (is_live t) h.tables.standings (ap (λ x. x.live) c.new) (λ j apart. ap (λ x. x.live) (c.others j apart));
        families = length-set w.families n.event.0 (in_family n.copy k (slice_index_or w.families n.event.0 no_family)) ∙ h.tables.families;
        folded = h.tables.folded;
        lost = h.tables.lost;
        clocks = h.tables.clocks;
        totals = h.tables.totals;
        seats = h.tables.seats;
      };
      shape = record {
        running = h.shape.running;
        tasks = h.shape.tasks;
        contexts = length-map w.contexts (lists_at t) ∙ (sym (length-map w.contexts (lists_at w)) ∙ h.shape.contexts);
      };
      running = record { live = h.running.live; once = h.running.once };
      linked = record {
        originals = comes-originals (post_at w) (post_at t) k p c w.families (omega (arith, may.slot, h.tables.families)) h.linked.originals (slot-free w h.lawful n of);
        copies = comes-copies (post_at w) (post_at t) k p c w.families (omega (arith, may.slot, h.tables.families)) h.linked.copies;
        members = comes-joined (post_at w) (post_at t) k first p c h.grouped live refl refl (grown-members w k n first far) (joined-members w k n first) h.linked.members;
        pinned = listed true;
        flexible = listed false;
      };
      copies = comes-rising (post_at w) (post_at t) k p w.quiet.next_id c refl h.numbered w.families (omega (arith, may.slot, h.tables.families)) h.linked.copies of.few h.copies;
      grouped = grouped-joined (post_at w) (post_at t) k first p c room.0 room.1 room.2 refl refl (grown-members w k n first far) (joined-members w k n first) h.grouped;
      numbered = comes-numbered (post_at w) (post_at t) k p w.quiet.next_id c refl may.slot may.place h.numbered;
      apart = comes-apart (post_at w) (post_at t) k p c may.first_there of.of_task of.original h.apart;
      fitting = fitting-joined hw (post_at w) (post_at t) k first p c refl (ap (λ x. x.members) (dead-entry w k may.fresh)) (grown-members w k n first far) (joined-members w k n first) h.linked.members fits h.fitting;
      lawful = lawful-added w k n (Some first) c refl may.known may.kind of.placed h.lawful;
      seated = h.seated;
      small = small-added w k n (Some first) (omega (arith, may.slot, h.tables.families)) may.room h.small;
    }

pub add-kept : AddKeptLaw
add-kept hw w k n may of room h = added-kept hw w k n n.leader may.fitting room may of h
