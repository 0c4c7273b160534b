-- A group whose leader was copied, and how its copies grow.
use Rattle.std.specs.Prelude.{◌≡◌, ℕ, zero, suc, take, drop, ◌+◌, ◌<◌, ◌≤◌, Bool, true, false, ◌&&◌, List, [], ◌∷◌, ◌++◌, length, map, Some, None, slice_index_or}
use Rattle.std.{proofs.{Common.{arith, refl, sym, ap, subst, ◌∙◌, get_or-set_same}, lemmas.Bool.{false≢true}}}
use Rattle.std.proofs.lemmas.List.{length-map, length-append, map-append, take_more}
use Rattle.perf_base.specs.declared.{attr.Kind.{Kind}, numbers.{Key.{Key}, TaskNo.{TaskNo}}}
use Rattle.perf_base.specs.declared.standing.Context.TheVariants as context
use Rattle.stage_spec.specs.{declared.instance.Instance.{Instance}, Forks.{copied_state}, Stage.{place_of}}
use Rattle.stage_laws.proofs.{Counts.{count-append}, Tasks.{some-same}}
use Rattle.world_spec.specs.{Adding.{Newcomer, new_entry, add}, Changes.{in_list}, Comings.{HasRoom}}
use Rattle.world_spec.specs.{Copying.{leaders_in, LeadsLast, FollowsParent, copy_from, copy_comes}, Kept.{post_at, leads, kinds_in, IsKept}}
use Rattle.world_spec.specs.{Staying.{HasCome}, StageOf.{after_first, lists_at}}
use Rattle.world_spec.specs.Value.{World, Entry, Leaders, leaders_of, is_live, entry_at, instance_at, is_key, times}
use Rattle.world_spec.proofs.{Added.{new-entry_at}, GoneLeaderStage.{map-within}}
use Rattle.world_spec.proofs.{Keys.{key-is, is_key-same, is_key-other, is_key-true, times-cons, once-true}, Moving.{leads-parts}}
use Rattle.world_spec.proofs.Tables.{get-here, get-there, entry-here, entry-there, live-written}
use Rattle.perf_world.specs.Parts.{MayAdd}
use Rattle.fork_inherit.{specs.Copies.{parent_of, MayCopy, AreCopied}, proofs.Copied.{copied-none, next-copied}}
use Rattle.fork_inherit.proofs.{Group.{IsMember, IsNext, member-of, stands, not-before, may-add}, Single.{has-come}}

-- The copies of some members were made, the leader's first, and it leads the others in the last group of its list.
pub record IsBegun (child : TaskNo) (v w : World) (leader first : Key) (done : List Key) : Type 0 where
  pub copied : AreCopied child v w done
  pub begins : 1 ≤ times leader done
  pub outside : is_live v first ≡ false
  pub leads : leads (post_at w) first ≡ true
  pub home : (entry_at w first).context ≡ context.Task child
  pub size : length (entry_at w first).members ≡ length done
  pub kinds : kinds_in (post_at w) first ≡ map (λ k. (instance_at v k).attr.kind) done
  pub last : LeadsLast (leaders_of w (context.Task child)) (entry_at v leader).pinned first

abbrev kind_of : World → Key → Kind
kind_of v k = (instance_at v k).attr.kind

-- a key that came, with its own state set
abbrev own_entry : World → Key → Instance → Entry
own_entry u k i = record (entry_at u k) { instance = record (instance_at u k) { own = copied_state i.own } }

-- the copy of the leader
pub first-may : (child : TaskNo) (v : World) (leader : Key) → IsKept v.hardware v → MayCopy child v leader → MayAdd v (copy_from v child (instance_at v leader) None)
first-may child v leader h may =
    may-add child v v leader [] leader (after_first (entry_at v leader).members) None h may (record { all = h.grouped.leader_first leader may.leads }) (copied-none child v h) tt refl

pushed-in : (b : Bool) (k : Key) (l : Leaders) → leaders_in b (in_list b (λ keys. keys ++ k ∷ []) l) ≡ leaders_in b l ++ k ∷ []
pushed-in true k l = refl
pushed-in false k l = refl

pub begun : (child : TaskNo) (v : World) (leader k : Key) → IsKept v.hardware v → MayCopy child v leader → is_live v k ≡ false
    → IsBegun child v (copy_comes k child (instance_at v leader) None v) leader k (leader ∷ [])
begun child v leader k h may dead =
    let i : Instance = instance_at v leader in
    let n : Newcomer = copy_from v child i None in
    let u : World = add k n v in
    let t : World = copy_comes k child i None v in
    let adds : MayAdd v n = first-may child v leader h may in
    let c : HasCome v u k n = has-come v k n h dead adds in
    let parts : (is_live v leader ≡ true) × (is_key leader (entry_at v leader).leader ≡ true) = leads-parts (is_live v leader) (is_key leader (entry_at v leader).leader) may.leads in
    let led : (entry_at v leader).leader ≡ leader = key-is (entry_at v leader).leader leader (is_key-true leader (entry_at v leader).leader parts.1) in
    let here : entry_at t k ≡ own_entry u k i = entry-here u k (own_entry u k i) k refl in
    let new : entry_at u k ≡ new_entry v k n None = new-entry_at v k n None in
    let live : is_live t k ≡ true = live-written u k (own_entry u k i) c.live k ∙ c.live in
    let mine : (entry_at t k).leader ≡ k = ap (λ e. e.leader) here ∙ ap (λ e. e.leader) new in
    let members : (entry_at t k).members ≡ k ∷ [] = ap (λ e. e.members) here ∙ ap (λ e. e.members) new in
    let kind : (instance_at t k).attr.kind ≡ i.attr.kind = ap (λ e. e.instance.attr.kind) here ∙ ap (λ e. e.instance.attr.kind) new in
    let low : place_of (context.Task child) < length v.contexts = omega (arith, may.number, h.shape.contexts, length-map v.contexts (lists_at v)) in
    let pinned : Bool = (entry_at v leader).pinned in
    let listed : leaders_of t (context.Task child) ≡ in_list pinned (λ keys. keys ++ k ∷ []) (leaders_of v (context.Task child)) =
    grind (arith, get_or-set_same) in
    record {
      copied = next-copied child v v [] leader k None (copied-none child v h) parts.0 dead adds
          (parts.1, may.listed ∙ ap (λ q. (entry_at v q).pinned) (sym led)) (λ m is. absurd (cc));
      begins = omega (arith, times-cons leader leader [], once-true (is_key leader leader) (is_key-same leader leader refl));
      outside = dead;
      leads = (λ x. live x && is_key k (mine x)) ∙ is_key-same k k refl;
      home = ap (λ e. e.context) here ∙ ap (λ e. e.context) new;
      size = ap length members;
      kinds = ap (map (λ q. (instance_at t q).attr.kind)) members ∙ (λ x. kind x ∷ []);
      last = record {
        before = leaders_in pinned (leaders_of v (context.Task child));
        last = ap (leaders_in pinned) listed ∙ pushed-in pinned k (leaders_of v (context.Task child));
      };
    }

-- the copy of a sibling
room-there : (child : TaskNo) (v w : World) (leader first : Key) (done : List Key) (q : Key) (rest : List Key) → IsKept v.hardware v → IsBegun child v w leader first done
    → IsNext v leader done q rest → HasRoom w (copy_from w child (instance_at v q) (Some first)) (Some first)
room-there child v w leader first done q rest h b next = grind (arith, length-append)

pub sibling-may : (child : TaskNo) (v w : World) (leader first : Key) (done : List Key) (q : Key) (rest : List Key) → IsKept v.hardware v → MayCopy child v leader
    → IsBegun child v w leader first done → IsNext v leader done q rest → MayAdd w (copy_from w child (instance_at v q) (Some first))
sibling-may child v w leader first done q rest h may b next =
    may-add child v w leader done q rest (Some first) h may next b.copied (room-there child v w leader first done q rest h b next)
    (ap (λ ks. ks ++ kind_of v q ∷ []) b.kinds ∙ sym (map-append (kind_of v) done (q ∷ [])))

follows : (child : TaskNo) (v w : World) (leader first : Key) (done : List Key) (q : Key) (rest : List Key) → IsKept v.hardware v → IsBegun child v w leader first done
    → IsNext v leader done q rest → FollowsParent w child (parent_of v q) (Some first)
follows child v w leader first done q rest h b next =
    let m : IsMember v leader q = member-of v leader q h (stands v leader done q rest next) in
    let apart : leader.0 ≡ q.0 → ⊥ = λ e. not-before v leader done q rest h next (subst (λ k. 1 ≤ times k done) (key-is leader q e) b.begins) in (
      ap (is_key q) m.led ∙ is_key-other q leader apart,
      record { before = b.last.before; last = ap (λ k. leaders_in (entry_at v k).pinned (leaders_of w (context.Task child))) m.led ∙ b.last.last },
    )

pub next-begun : (child : TaskNo) (v w : World) (leader first : Key) (done : List Key) (q : Key) (rest : List Key) (k : Key) → IsKept v.hardware v → MayCopy child v leader
    → IsBegun child v w leader first done → IsNext v leader done q rest → is_live w k ≡ false
    → IsBegun child v (copy_comes k child (instance_at v q) (Some first) w) leader first (done ++ q ∷ [])
next-begun child v w leader first done q rest k h may b next dead =
    let i : Instance = instance_at v q in
    let n : Newcomer = copy_from w child i (Some first) in
    let u : World = add k n w in
    let t : World = copy_comes k child i (Some first) w in
    let m : IsMember v leader q = member-of v leader q h (stands v leader done q rest next) in
    let kept : IsKept w.hardware w = subst (λ hw. IsKept hw w) (sym b.copied.hardware) b.copied.kept in
    let adds : MayAdd w n = sibling-may child v w leader first done q rest h may b next in
    let c : HasCome w u k n = has-come w k n kept dead adds in
    let parts : (is_live w first ≡ true) × (is_key first (entry_at w first).leader ≡ true) = leads-parts (is_live w first) (is_key first (entry_at w first).leader) b.leads in
    let far : (j : Key) → is_live w j ≡ true → j.0 ≡ k.0 → ⊥ = λ j live e. false≢true (sym dead ∙ (ap (is_live w) (sym (key-is j k e)) ∙ live)) in
    let grown : Entry = record (entry_at w first) { members = (entry_at w first).members ++ k ∷ [] } in
    let now : entry_at t first ≡ grown = grind (arith, entry-there, get-there, get-here) in
    let live : is_live t first ≡ true = live-written u k (own_entry u k i) c.live first ∙ (c.others.live first (far first parts.0) ∙ parts.0) in
    let kinds : (j : Key) → 1 ≤ times j (entry_at w first).members → kind_of t j ≡ kind_of w j = λ j some.
    (let apart : j.0 ≡ k.0 → ⊥ = far j (member-of w first j kept some).live in
    ap (λ e. e.instance.attr.kind) (entry-there u k (own_entry u k i) j apart) ∙ ap (λ x. x.attr.kind) (c.others.instances j apart)) in
    let kind : kind_of t k ≡ kind_of v q = ap (λ e. e.instance.attr.kind) (entry-here u k (own_entry u k i) k refl) ∙ ap (λ x. x.attr.kind) c.instance in
    record {
      copied = next-copied child v w done q k (Some first) b.copied m.live dead adds (follows child v w leader first done q rest h b next)
          (λ x is. subst (λ y. is_live v y ≡ false) (some-same first x is) b.outside);
      begins = omega (arith, b.begins, count-append (is_key leader) done (q ∷ []));
      outside = b.outside;
      leads = (λ x. live x && is_key first (now x).leader) ∙ parts.1;
      home = ap (λ e. e.context) now ∙ b.home;
      size = ap (λ e. length e.members) now ∙ omega (arith, length-append (entry_at w first).members (k ∷ []), length-append done (q ∷ []), b.size);
      kinds =
          ap (λ e. map (kind_of t) e.members) now
          ∙ (map-append (kind_of t) (entry_at w first).members (k ∷ [])
          ∙ ((λ x. (map-within (kind_of t) (kind_of w) (entry_at w first).members kinds ∙ b.kinds) x ++ kind x ∷ []) ∙ sym (map-append (kind_of v) done (q ∷ []))));
      last = record { before = b.last.before; last = b.last.last };
    }

-- the sibling at a place
pub split-at : (xs : List Key) (i : ℕ) (d : Key) → i < length xs → xs ≡ take i xs ++ slice_index_or xs i d ∷ drop (suc i) xs
split-at [] i d low = absurd (omega (arith, low))
split-at (x ∷ xs) zero d low = refl
split-at (x ∷ xs) (suc i) d low = ap (λ ys. x ∷ ys) (split-at xs i d (omega (arith, low)))

pub record IsAt (child : TaskNo) (v w : World) (leader first q : Key) (m : ℕ) : Type 0 where
  pub live : is_live w q ≡ true
  pub adds : MayAdd w (copy_from w child (instance_at w q) (Some first))
  pub next : (k : Key) → is_live w k ≡ false → IsBegun child v (copy_comes k child (instance_at w q) (Some first) w) leader first (take (m + 1) (entry_at v leader).members)

pub sibling-at : (child : TaskNo) (v w : World) (leader first : Key) (m : ℕ) (keys : List Key) (d : Key) → IsKept v.hardware v → MayCopy child v leader
    → IsBegun child v w leader first (take m (entry_at v leader).members) → keys ≡ (entry_at w leader).members → m < length keys → IsAt child v w leader first (slice_index_or keys m d) m
sibling-at child v w leader first m keys d h may b is low =
    let members : List Key = (entry_at v leader).members in
    let same : keys ≡ members = is ∙ ap (λ e. e.members) (b.copied.entries leader (leads-parts (is_live v leader) (is_key leader (entry_at v leader).leader) may.leads).0) in
    let q : Key = slice_index_or members m d in
    let there : m < length members = omega (arith, low, ap length same) in
    let next : IsNext v leader (take m members) q (drop (suc m) members) = record { all = split-at members m d there } in
    let live : is_live v q ≡ true = (member-of v leader q h (stands v leader (take m members) q (drop (suc m) members) next)).live in
    let instance : instance_at w q ≡ instance_at v q = ap (λ e. e.instance) (b.copied.entries q live) in
    subst (λ ks. IsAt child v w leader first (slice_index_or ks m d) m) (sym same) (record {
      live = b.copied.live q live;
      adds = subst (λ i. MayAdd w (copy_from w child i (Some first))) (sym instance) (sibling-may child v w leader first (take m members) q (drop (suc m) members) h may b next);
      next = λ k dead.
          subst (λ i. IsBegun child v (copy_comes k child i (Some first) w) leader first (take (m + 1) members)) (sym instance)
          (subst (IsBegun child v (copy_comes k child (instance_at v q) (Some first) w) leader first) (sym (take_more members m d there))
          (next-begun child v w leader first (take m members) q (drop (suc m) members) k h may b next dead));
    })

pub leader-at : (child : TaskNo) (v t : World) (leader k : Key) → IsKept v.hardware v → MayCopy child v leader → is_live v k ≡ false → t ≡ copy_comes k child (instance_at v leader) None v
    → IsBegun child v t leader k (take 1 (entry_at v leader).members)
leader-at child v t leader k h may dead is =
    subst (λ x. IsBegun child v x leader k (take 1 (entry_at v leader).members)) (sym is)
    (subst (IsBegun child v (copy_comes k child (instance_at v leader) None v) leader k) (sym (ap (take 1) (h.grouped.leader_first leader may.leads))) (begun child v leader k h may dead))

pub still-leads : (child : TaskNo) (v w : World) (leader first : Key) (done : List Key) → MayCopy child v leader → IsBegun child v w leader first done → leads (post_at w) leader ≡ true
still-leads child v w leader first done may b =
    let parts : (is_live v leader ≡ true) × (is_key leader (entry_at v leader).leader ≡ true) = leads-parts (is_live v leader) (is_key leader (entry_at v leader).leader) may.leads in
    (λ i. b.copied.live leader parts.0 i && is_key leader (b.copied.entries leader parts.0 i).leader) ∙ parts.1

pub same-members : (child : TaskNo) (v w : World) (leader first : Key) (done : List Key) → MayCopy child v leader → IsBegun child v w leader first done → (entry_at w leader).members ≡ (entry_at v leader).members
same-members child v w leader first done may b =
    ap (λ e. e.members) (b.copied.entries leader (leads-parts (is_live v leader) (is_key leader (entry_at v leader).leader) may.leads).0)

-- a turn of the loop over the siblings
pub record IsHere (child : TaskNo) (v w : World) (leader first q : Key) (m : ℕ) (keys : List Key) : Type 0 where
  pub low : m < length keys
  pub at : IsAt child v w leader first q m

pub ends-are : (child : TaskNo) (v u : World) (leader first : Key) (ends : List Key) → IsKept v.hardware v → MayCopy child v leader → is_live v first ≡ false → u ≡ copy_comes first child (instance_at v leader) None v
    → ends ≡ (entry_at u leader).members → ends ≡ (entry_at v leader).members
ends-are child v u leader first ends h may dead is ended = ended ∙ same-members child v u leader first (take 1 (entry_at v leader).members) may (leader-at child v u leader first h may dead is)

pub sibling-here : (child : TaskNo) (v w : World) (leader first : Key) (m : ℕ) (ends keys : List Key) (d : Key) → IsKept v.hardware v → MayCopy child v leader → ends ≡ (entry_at v leader).members → m < length ends
    → IsBegun child v w leader first (take m (entry_at v leader).members) → keys ≡ (entry_at w leader).members → IsHere child v w leader first (slice_index_or keys m d) m keys
sibling-here child v w leader first m ends keys d h may ended below b is =
    let same : keys ≡ (entry_at v leader).members = is ∙ same-members child v w leader first (take m (entry_at v leader).members) may b in
    let low : m < length keys = omega (arith, below, ap length ended, ap length same) in
    record { low = low; at = sibling-at child v w leader first m keys d h may b is low }
