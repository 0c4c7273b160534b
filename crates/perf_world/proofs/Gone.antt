-- What an instance that goes leaves of the tables of a world.
use Rattle.std.specs.Prelude.{◌≡◌, ℕ, ◌≤◌, ◌==◌, Bool, true, false, ◌&&◌, List, [], ◌∷◌, map, slice_index_or, slice_set}
use Rattle.std.{specs.List.{fold, list_all}, proofs.{Common.{arith, refl, sym, ap, subst, ◌∙◌}, lemmas.Bool.Decides.{nat_tests}}}
use Rattle.perf_base.specs.declared.{numbers.{EventNo.{EventNo}, Key.{Key}, RingNo.{RingNo}, CpuNo.{CpuNo}}, reply.Sums.{Sums}}
use Rattle.stage_spec.specs.{declared.instance.{Instance.{Instance}, TaskStatus.{TaskStatus}}, Families.{plus}, Hardware.{Hardware, is_counted_on}}
use Rattle.stage_spec.specs.{Shares.{no_sums}, Effective.{is_ready}, Places.{may_count_on}, Stage.{members_of}, Verdict.{is_eligible}}
use Rattle.world_spec.specs.Value.{World, Leaders, no_family, is_live, entry_at, instance_at, account_at, is_key, times}
use Rattle.world_spec.specs.{StageOf.{after_first, group_at}, Kept.{post_at, leads, is_copy_in, keys_of, plus_keys, once_if, IsKept}}
use Rattle.world_spec.specs.{Adding.{freed, leave_group, taken_out, out_of_family, drop_instance}, Changes.{with_leaders, in_list, all_but}}
use Rattle.world_spec.proofs.{Accounts.{counts_are_sums, times_are_sums}, Keys.{times-cons, once-true}, Tables.{keys-written}}
use Rattle.world_tables.specs.{Columns.{Columns, is_there, entry_in, account_in, taken}, Places.{Slots, Places, IsBelow, with_family}}
use Rattle.perf_world.{specs.{Parts.{free_one, left_events, left_contexts, behind}, Seen.{seen, IsWorld}}, proofs.Kept.{part-of-sum, in-family}}
use Rattle.perf_world.proofs.Tables.{freed-keys}
use Rattle.world_spec.proofs.{WaysGone.{leader-live}}

-- freed siblings, in the world and in the table
module _ (hw : Hardware) (contexts : List Leaders) (families : Slots) (processors : Places) (tasks : List TaskStatus) (used : List EventNo) (mapped : List RingNo) (next : ℕ) where
  freed-seen : (keys : List Key) (t : Columns) → fold freed (seen hw t contexts families processors tasks used mapped next) keys ≡ seen hw (fold free_one t keys) contexts families processors tasks used mapped next
  freed-seen [] t = refl
  freed-seen (k ∷ keys) t = freed-seen keys (free_one t k)

  group-left : (k : Key) (leads : Bool) (t : Columns)
      → leave_group k leads (seen hw t contexts families processors tasks used mapped next) ≡ seen hw (left_events leads k t) (left_contexts leads k t contexts) families processors tasks used mapped next
  group-left k true t =
      let w : World = seen hw t contexts families processors tasks used mapped next in
      ap (with_leaders (entry_at w k).context (λ l. behind (after_first (entry_at w k).members) (in_list (entry_at w k).pinned (all_but k) l))) (freed-seen (after_first (entry_in t k).members) t)
  group-left k false t = refl

  pub gone : (k : Key) (t : Columns)
      → seen hw (taken k (left_events (is_key k (entry_in t k).leader) k t)) (left_contexts (is_key k (entry_in t k).leader) k t contexts)
      (with_family (entry_in t k).instance.event.0 (out_of_family (entry_in t k).instance.copy k) families) processors tasks used mapped next
      ≡ drop_instance k (seen hw t contexts families processors tasks used mapped next)
  gone k t = sym (ap (taken_out k (entry_in t k).instance) (group-left k (is_key k (entry_in t k).leader) t))

-- the key is there until it is taken out
freed-all : (keys : List Key) (t : Columns) → ((q : Key) → 1 ≤ times q keys → is_there t q ≡ true) → (q : Key) → is_there (fold free_one t keys) q ≡ is_there t q
freed-all [] t h q = refl
freed-all (k ∷ keys) t h q =
    let here : is_there t k ≡ true = h k (omega (arith, times-cons k k keys, once-true (is_key k k) (let same : is_key k k ≡ true = grind (arith, nat_tests) in same))) in
    freed-all keys (free_one t k) (λ j there. freed-keys t k here j ∙ h j (omega (arith, there, times-cons j k keys))) q ∙ freed-keys t k here q

pub left-there : (k : Key) (leads : Bool) (t : Columns) → is_there t (entry_in t k).leader ≡ true → ((q : Key) → 1 ≤ times q (after_first (entry_in t k).members) → is_there t q ≡ true)
    → (q : Key) → is_there (left_events leads k t) q ≡ is_there t q
left-there k true t leader h q = freed-all (after_first (entry_in t k).members) t h q
left-there k false t leader h q = keys-written t.entries (entry_in t k).leader.0 _ leader q.0

pub after-times : (q : Key) (keys : List Key) → times q (after_first keys) ≤ times q keys
after-times q [] = omega arith
after-times q (k ∷ keys) = omega (arith, times-cons q k keys)

pub counted : (b c : Bool) → 1 ≤ once_if (b && c) → b ≡ true
counted true c h = refl
counted false c h = absurd (omega (arith, h))

module _ (hw : Hardware) (w : World) (h : IsKept hw w) where
  -- members of a group are there
  pub members-there : (k q : Key) → 1 ≤ times q (after_first (entry_at w k).members) → is_live w q ≡ true
  members-there k q there = counted (is_live w q) (is_key k (entry_at w q).leader) (omega (arith, there, after-times q (entry_at w k).members, h.linked.members q k))

  -- a copy stands once among those of its slot
  pub copy-once : (k : Key) → is_live w k ≡ true → (instance_at w k).copy ≡ true → times k (slice_index_or w.families (instance_at w k).event.0 no_family).copies ≡ 1
  copy-once k live copy =
      let slot : ℕ = (instance_at w k).event.0 in
      let same : (slot == slot) ≡ true = grind (arith, nat_tests) in
      let it : is_copy_in (post_at w) slot k ≡ true = cc (live, same, copy) in
      h.linked.copies k slot ∙ once-true (is_copy_in (post_at w) slot k) it

  -- what a copy has counted fits into the folded sums
  pub fold-room : (k : Key) → is_live w k ≡ true → IsBelow (plus (slice_index_or w.folded (instance_at w k).event.0 no_sums) (account_at w k).sums)
  fold-room k live =
      let slot : ℕ = (instance_at w k).event.0 in
      let keys : List Key = keys_of (slice_index_or w.families slot no_family) in
      let count : (account_at w k).sums.count ≤ (plus_keys (λ q. (account_at w q).sums) keys).count = part-of-sum (λ s. s.count) counts_are_sums (λ q. (account_at w q).sums) k keys (in-family hw w k h live) in
      let time : (account_at w k).sums.enabled ≤ (plus_keys (λ q. (account_at w q).sums) keys).enabled = part-of-sum (λ s. s.enabled) times_are_sums (λ q. (account_at w q).sums) k keys (in-family hw w k h live) in
      record {
        count = omega (arith, count, h.small.counts slot);
        enabled = omega (arith, time, h.small.times slot);
        running = omega (arith, time, h.small.times slot, h.small.ran k, h.small.folded_ran slot);
      }

  -- the leader of an instance is there
  pub leader-there : (k : Key) → is_live w k ≡ true → is_live w (entry_at w k).leader ≡ true
  leader-there k live = leader-live hw w k h live

-- the families after the folded sums took in what an instance has counted
abbrev pub fold_families : Key → World → Slots → Slots
fold_families k w f = record f { folded = slice_set f.folded (instance_at w k).event.0 (plus (slice_index_or f.folded (instance_at w k).event.0 no_sums) (account_at w k).sums) }

pub folded-in : (t : Columns) (f after : Slots) (k : Key) (i : Instance) (s : Sums) → i ≡ (entry_in t k).instance → s ≡ (account_in t k).sums
    → after ≡ record f { folded = slice_set f.folded i.event.0 (plus (slice_index_or f.folded i.event.0 no_sums) s) }
    → after ≡ record f { folded = slice_set f.folded (entry_in t k).instance.event.0 (plus (slice_index_or f.folded (entry_in t k).instance.event.0 no_sums) (account_in t k).sums) }
folded-in t f after k i s is has e = grind (arith, nat_tests)

pub both-true : (b c : Bool) → b ≡ true → c ≡ true → (b && c) ≡ true
both-true b c x y = ap (λ d. d && c) x ∙ y

-- the machine stays
freed-hardware : (keys : List Key) (w : World) → (fold freed w keys).hardware ≡ w.hardware
freed-hardware [] w = refl
freed-hardware (k ∷ keys) w = freed-hardware keys (freed w k)

group-hardware : (k : Key) (leads : Bool) (w : World) → (leave_group k leads w).hardware ≡ w.hardware
group-hardware k true w = freed-hardware (after_first (entry_at w k).members) w
group-hardware k false w = refl

pub dropped-kept : (k : Key) (w : World) → IsKept w.hardware (drop_instance k w) → IsWorld (drop_instance k w)
dropped-kept k w h = subst (λ hw. IsKept hw (drop_instance k w)) (sym (group-hardware k (is_key k (entry_at w k).leader) w)) h

-- a key at a place of a list stands in it
pub member-live : (hw : Hardware) (w : World) (h : IsKept hw w) (k q : Key) → 1 ≤ times q (entry_at w k).members → is_live w q ≡ true
member-live hw w h k q there = counted (is_live w q) (is_key k (entry_at w q).leader) (omega (arith, there, h.linked.members q k))

-- a test of all members of a group
all-mapped : {X : Type 0} (p : X → Bool) (f : Key → X) (keys : List Key) → list_all p (map f keys) ≡ list_all (λ k. p (f k)) keys
all-mapped p f [] = refl
all-mapped p f (k ∷ keys) = ap (λ b. p (f k) && b) (all-mapped p f keys)

pub all-members : (p : Instance → Bool) (hw : Hardware) (w : World) (h : IsKept hw w) (k : Key) → leads (post_at w) k ≡ true
    → list_all p (members_of (group_at w k)) ≡ list_all (λ q. p (instance_at w q)) (entry_at w k).members
all-members p hw w h k lead = sym (ap (list_all (λ q. p (instance_at w q))) (h.grouped.leader_first k lead) ∙ sym (all-mapped p (instance_at w) (k ∷ after_first (entry_at w k).members)))

pub eligible-by : (hw : Hardware) (cpu : CpuNo) (w : World) (h : IsKept hw w) (k : Key) → leads (post_at w) k ≡ true → is_ready (instance_at w k).own ≡ true
    → may_count_on cpu (instance_at w k).attr.cpu ≡ true
    → is_eligible hw cpu (group_at w k) ≡ list_all (λ q. is_counted_on hw cpu (instance_at w q).attr.kind) (entry_at w k).members
eligible-by hw cpu w h k lead ready place =
    let all : Bool = list_all (λ i. is_counted_on hw cpu i.attr.kind) (members_of (group_at w k)) in
    ap (λ b. b && may_count_on cpu (instance_at w k).attr.cpu && all) ready ∙ (ap (λ b. b && all) place ∙ all-members (λ i. is_counted_on hw cpu i.attr.kind) hw w h k lead)
