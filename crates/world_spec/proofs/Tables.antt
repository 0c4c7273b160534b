-- What the tables have at each key after an entry, an account or a standing was written, and what posts show of it.
use Rattle.std.specs.{Prelude.{◌≡◌, ℕ, ◌==◌, Bool, true, false, cond, Some}, Cmp.{unsigned_tied}}
use Rattle.std.specs.{FinMap.{FinMap, get, contains_key, insert, get-insert}, Option.{unwrap_or}, Ordering.{nat_cmp}}
use Rattle.std.proofs.{lemmas.{Cmp.{nat_cmp_total}, Bool.{cases_eq, Decides.{nat_tests}}}, Common.{arith, sym, ap, ◌∙◌, inl, inr}}
use Rattle.perf_base.specs.declared.numbers.Key.{Key}
use Rattle.stage_spec.specs.declared.instance.Instance.{Instance}
use Rattle.world_spec.specs.{Value.{World, Entry, is_live, entry_at, instance_at, no_entry}, Kept.{Post, post_at}, Changes.{with_instance}}

-- a table after a write
pub get-written : {X : Type 0} (m : FinMap nat_cmp X) (k : ℕ) (v : X) (q : ℕ) → get (insert m k v) q ≡ cond (q == k) (Some v) (get m q)
get-written m k v q = get-insert nat_cmp_total m k v q ∙ ap (λ b. cond b (Some v) (get m q)) (unsigned_tied q k)

pub same_number : (q k : ℕ) → q ≡ k → (q == k) ≡ true
same_number q k e = grind (arith, nat_tests)

pub other_number : (q k : ℕ) → (q ≡ k → ⊥) → (q == k) ≡ false
other_number q k apart = grind (arith, nat_tests)

pub get-here : {X : Type 0} (m : FinMap nat_cmp X) (k : ℕ) (v : X) (q : ℕ) → q ≡ k → get (insert m k v) q ≡ Some v
get-here m k v q e = get-written m k v q ∙ ap (λ b. cond b (Some v) (get m q)) (same_number q k e)

pub get-there : {X : Type 0} (m : FinMap nat_cmp X) (k : ℕ) (v : X) (q : ℕ) → (q ≡ k → ⊥) → get (insert m k v) q ≡ get m q
get-there m k v q apart = get-written m k v q ∙ ap (λ b. cond b (Some v) (get m q)) (other_number q k apart)

-- a write at a key that is there leaves the keys
pub keys-written : {X : Type 0} (m : FinMap nat_cmp X) (k : ℕ) (v : X) → contains_key m k ≡ true → (q : ℕ) → contains_key (insert m k v) q ≡ contains_key m q
keys-written m k v there q = grind (arith, nat_tests, get-here, get-there)

-- the post of an entry
abbrev pub post_of : Bool → Entry → Post
post_of live e = record {
  live = live;
  id = e.instance.id;
  event = e.instance.event;
  copy = e.instance.copy;
  kind = e.instance.attr.kind;
  context = e.context;
  leader = e.leader;
  members = e.members;
  pinned = e.pinned;
}

abbrev pub with_entry : World → Key → Entry → World
with_entry w k e = record w { entries = insert w.entries k.0 e }

pub entry-here : (w : World) (k : Key) (e : Entry) (q : Key) → q.0 ≡ k.0 → entry_at (with_entry w k e) q ≡ e
entry-here w k e q same = ap (λ o. unwrap_or o no_entry) (get-here w.entries k.0 e q.0 same)

pub entry-there : (w : World) (k : Key) (e : Entry) (q : Key) → (q.0 ≡ k.0 → ⊥) → entry_at (with_entry w k e) q ≡ entry_at w q
entry-there w k e q apart = ap (λ o. unwrap_or o no_entry) (get-there w.entries k.0 e q.0 apart)

pub live-written : (w : World) (k : Key) (e : Entry) → is_live w k ≡ true → (q : Key) → is_live (with_entry w k e) q ≡ is_live w q
live-written w k e there q = keys-written w.entries k.0 e there q.0

-- the entry of a key goes by its number
pub entry-numbered : (w : World) (k q : Key) → q.0 ≡ k.0 → entry_at w q ≡ entry_at w k
entry-numbered w k q e = ap (λ n. unwrap_or (get w.entries n) no_entry) e

-- a change of an instance that keeps its post keeps all posts
abbrev pub KeepsPost : (Instance → Instance) → Type 0
KeepsPost f = (live : Bool) (e : Entry) → post_of live (record e { instance = f e.instance }) ≡ post_of live e

pub post-same : (f : Instance → Instance) → KeepsPost f → (w : World) (k : Key) → is_live w k ≡ true → (q : Key) → post_at (with_instance f k w) q ≡ post_at w q
post-same f keeps w k there q =
    let e : Entry = record (entry_at w k) { instance = f (instance_at w k) } in
    ap (λ live. post_of live (entry_at (with_entry w k e) q)) (live-written w k e there q) ∙ elim (cases_eq q.0 k.0) [
      | inl same ↦ ap (post_of (is_live w q)) (entry-here w k e q same) ∙ (keeps (is_live w q) (entry_at w k) ∙ ap (post_of (is_live w q)) (sym (entry-numbered w k q same)))
      | inr apart ↦ ap (post_of (is_live w q)) (entry-there w k e q apart)
    ]

pub posts-same : (f : Instance → Instance) → KeepsPost f → (w : World) (k : Key) → is_live w k ≡ true → post_at (with_instance f k w) ≡ post_at w
posts-same f keeps w k there = λ i q. post-same f keeps w k there q i
