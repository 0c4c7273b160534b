-- The groups of a list that are copied, one after the other.
use Rattle.std.specs.Prelude.{◌≡◌, ℕ, ◌+◌, ◌<◌, ◌≤◌, ◌==◌, suc, Bool, true, false, not, ◌&&◌, List, [], ◌∷◌, ◌++◌, length, map, take, drop, flat_map, slice_index_or, if◌then◌else◌}
use Rattle.std.proofs.{Common.{arith, refl, sym, ap, subst, ◌∙◌, inl, inr}, lemmas.Bool.{cases_eq, cases_Bool, false≢true, Decides.{nat_tests}}}
use Rattle.std.proofs.lemmas.List.{append-nil, length-append, map-append, take_more, Folds.{length-flat_map-take}, Sums.{fold-append}}
use Rattle.std.proofs.lemmas.Grind.{flat_map-append}
use Rattle.perf_base.specs.declared.{numbers.{Key.{Key}, TaskNo.{TaskNo}}, standing.Context.{Context}}
use Rattle.perf_base.specs.declared.standing.Context.TheVariants as context
use Rattle.stage_spec.specs.{Flags.{is_inherited, is_pinned}, Forks.{copy_of}, Shares.{no_sums}, Stage.{Stage, place_of}}
use Rattle.stage_laws.{specs.OneByOne.{Parent, add_instance, add_copies}, proofs.{Counts.{count-append}, Others.{place-cases}}}
use Rattle.world_spec.specs.{Copying.{leaders_in}, Kept.{post_at, leads, leads_in, is_of_task, once_if, IsKept}, StageOf.{stage_of}}
use Rattle.world_spec.{specs.Value.{World, Leaders, leaders_of, is_live, entry_at, instance_at, is_key, times}, proofs.GoneLeaderStage.{map-within}}
use Rattle.world_spec.proofs.{Keys.{key-is, is_key-same, is_key-true, times-cons, once-true, once-false}, Moving.{leads-parts}}
use Rattle.fork_inherit.specs.Copies.{parent_of, inherited_members, inherited_keys, leaders_from, IsNewCopy, AreCopied, MayCopy, MayCopyList}
use Rattle.fork_inherit.proofs.{Begun.{split-at}, Group.{IsMember, member-of}, Room.{list-leads}}
use Rattle.world_tables.specs.Places.{picked}
use Rattle.world_spec.proofs.Copying.{at-most-once}
use Rattle.world_spec.proofs.{Along.{once-three}, Coming.{number_true}}

-- more copies after some
same-parent : (child : TaskNo) (v w : World) (done : List Key) → IsKept v.hardware v → AreCopied child v w done → (q : Key) → is_live v q ≡ true → parent_of w q ≡ parent_of v q
same-parent child v w done h f q live =
    let leader : Key = (entry_at v q).leader in
    let lives : is_live v leader ≡ true = (leads-parts (is_live v leader) (is_key leader (entry_at v leader).leader) (h.grouped.led q live)).0 in
    let pinned : (entry_at w (entry_at w q).leader).pinned ≡ (entry_at v leader).pinned =
    ap (λ e. (entry_at w e.leader).pinned) (f.entries q live) ∙ ap (λ e. e.pinned) (f.entries leader lives) in
    λ i. record { instance = (f.entries q live i).instance; leads = is_key q (f.entries q live i).leader; pinned = pinned i }

pub copied-then : (child : TaskNo) (v w t : World) (done more : List Key) → IsKept v.hardware v → AreCopied child v w done → AreCopied child w t more
    → ((q : Key) → 1 ≤ times q more → is_live v q ≡ true) → AreCopied child v t (done ++ more)
copied-then child v w t done more h f g lives =
    let step : Stage → Parent → Stage = λ s p. add_instance child p (copy_of s s.next_id p.instance) s in
    let parents : map (parent_of w) more ≡ map (parent_of v) more = map-within (parent_of w) (parent_of v) more (λ q some. same-parent child v w done h f q (lives q some)) in
    record {
      kept = subst (λ hw. IsKept hw t) f.hardware g.kept;
      stage =
          g.stage
          ∙ ((λ i. add_copies child (parents i) (f.stage i))
          ∙ (sym (fold-append step (stage_of v) (map (parent_of v) done) (map (parent_of v) more))
          ∙ ap (λ ps. add_copies child ps (stage_of v)) (sym (map-append (parent_of v) done more))));
      live = λ k live. g.live k (f.live k live);
      entries = λ k live. g.entries k (f.live k live) ∙ f.entries k live;
      accounts = λ k live. g.accounts k (f.live k live) ∙ f.accounts k live;
      standings = λ k live. g.standings k (f.live k live) ∙ f.standings k live;
      fresh = λ k none live. elim (cases_Bool (is_live w k)) [
        | inl there ↦
            let x : IsNewCopy child v w done k = f.fresh k none there in
            record {
              copy = ap (λ e. e.instance.copy) (g.entries k there) ∙ x.copy;
              context = ap (λ e. e.context) (g.entries k there) ∙ x.context;
              account = g.accounts k there ∙ (x.account ∙ (λ i. record { sums = no_sums; left = (sym (g.entries k there) i).instance.attr.period }));
              standing = g.standings k there ∙ x.standing;
              later = omega (arith, x.later, ap (λ e. e.instance.id) (g.entries k there));
              parent = (x.parent.0, omega (arith, x.parent.1, count-append (is_key x.parent.0) done more), ap (λ e. e.instance.event) (g.entries k there) ∙ x.parent.2);
            }
        | inr new ↦
            let x : IsNewCopy child w t more k = g.fresh k new live in
            record {
              copy = x.copy;
              context = x.context;
              account = x.account;
              standing = x.standing;
              later = omega (arith, x.later, ap (λ q. q.next_id) f.quiet);
              parent = (
                x.parent.0,
                omega (arith, x.parent.1, count-append (is_key x.parent.0) done more),
                x.parent.2 ∙ ap (λ e. e.instance.event) (f.entries x.parent.0 (lives x.parent.0 x.parent.1)),
              );
            }
      ];
      contexts = λ p off. g.contexts p off ∙ f.contexts p off;
      originals = λ e. g.originals e ∙ f.originals e;
      folded = g.folded ∙ f.folded;
      lost = g.lost ∙ f.lost;
      hardware = g.hardware ∙ f.hardware;
      quiet =
          let size : v.quiet.next_id + length done + length more ≡ v.quiet.next_id + length (done ++ more) = omega (arith, length-append done more) in
          g.quiet ∙ ((λ i. record (f.quiet i) { next_id = (f.quiet i).next_id + length more }) ∙ (λ i. record v.quiet { next_id = size i }));
      few = omega (arith, f.few, g.few, length-append done more);
    }

-- a key of the inherited groups of some leaders
in-flat : (f : Key → List Key) (y : Key) (xs : List Key) → 1 ≤ times y (flat_map f xs) → (x : Key) × (1 ≤ times x xs) × (1 ≤ times y (f x))
in-flat f y [] some = absurd (omega (arith, some))
in-flat f y (x ∷ xs) some = elim (cases_eq (times y (f x)) 0) [
  | inl none ↦
      let r : (q : Key) × (1 ≤ times q xs) × (1 ≤ times y (f q)) = in-flat f y xs (omega (arith, some, none, count-append (is_key y) (f x) (flat_map f xs))) in
      (r.0, omega (arith, r.1, times-cons r.0 x xs), r.2)
  | inr there ↦ (x, omega (arith, times-cons x x xs, once-true (is_key x x) (is_key-same x x refl)), omega (arith, there))
]

of-inherited : (b : Bool) (y : Key) (keys : List Key) → 1 ≤ times y (if b then keys else []) → 1 ≤ times y keys
of-inherited true y keys some = some
of-inherited false y keys some = absurd (omega (arith, some))

pub record IsInherited (v : World) (leaders : List Key) (y : Key) : Type 0 where
  pub live : is_live v y ≡ true
  pub leader : 1 ≤ times (entry_at v y).leader leaders
  pub together : (entry_at v y).context ≡ (entry_at v (entry_at v y).leader).context

pub inherited-key : (v : World) (leaders : List Key) (y : Key) → IsKept v.hardware v → 1 ≤ times y (inherited_keys v leaders) → IsInherited v leaders y
inherited-key v leaders y h some =
    let r : (x : Key) × (1 ≤ times x leaders) × (1 ≤ times y (inherited_members v x)) = in-flat (inherited_members v) y leaders some in
    let m : IsMember v r.0 y = member-of v r.0 y h (of-inherited (is_inherited (instance_at v r.0).attr) y (entry_at v r.0).members r.2) in
    grind (arith, nat_tests)

-- the leaders of a list
pub in-list : (v : World) (parent : TaskNo) (pinned : Bool) → IsKept v.hardware v → (q : Key) → times q (leaders_from v parent pinned) ≡ once_if (leads_in (post_at v) (8 + parent.0) pinned q)
in-list v parent true h q = h.linked.pinned q (8 + parent.0)
in-list v parent false h q = h.linked.flexible q (8 + parent.0)

pub led-place : (v : World) (parent : TaskNo) (pinned : Bool) → IsKept v.hardware v → (q : Key) → 1 ≤ times q (leaders_from v parent pinned) → place_of (entry_at v q).context ≡ 8 + parent.0
led-place v parent pinned h q some =
    number_true (place_of (entry_at v q).context) (8 + parent.0)
    (once-three (leads (post_at v) q) (place_of (entry_at v q).context == 8 + parent.0) (if (entry_at v q).pinned then pinned else not pinned) (omega (arith, some, in-list v parent pinned h q))).1

task-by-place : (c : Context) (n : ℕ) → place_of c ≡ 8 + n → n < 64 → is_of_task c ≡ true
task-by-place (context.Processor cpu) n is low = grind (arith, nat_tests, place-cases)
task-by-place (context.Task task) n is low = refl

pub same-list : (child parent : TaskNo) (pinned : Bool) (v w : World) (done : List Key) → (parent.0 ≡ child.0 → ⊥) → AreCopied child v w done → leaders_from w parent pinned ≡ leaders_from v parent pinned
same-list child parent pinned v w done apart f = ap (leaders_in pinned) (f.contexts (place_of (context.Task parent)) (λ same. apart (omega (arith, same))))

flat-has : (f : Key → List Key) (k x : Key) (xs : List Key) → 1 ≤ times x xs → times k (f x) ≤ times k (flat_map f xs)
flat-has f k x [] some = absurd (omega (arith, some))
flat-has f k x (y ∷ xs) some = elim (cases_Bool (is_key x y)) [
  | inl same ↦ grind (arith, nat_tests, key-is, is_key-true, same, count-append)
  | inr off ↦
      let rest : times k (f x) ≤ times k (flat_map f xs) = flat-has f k x xs (omega (arith, some, times-cons x y xs, once-false (is_key x y) off)) in
      omega (arith, rest, count-append (is_key k) (f y) (flat_map f xs))
]

pub record IsListAt (child parent : TaskNo) (pinned : Bool) (v w : World) (place : ℕ) (q : Key) : Type 0 where
  pub live : is_live w q ≡ true
  pub may : is_inherited (instance_at w q).attr ≡ true → MayCopy child w q
  pub next : (t : World) → AreCopied child w t (inherited_members w q) → AreCopied child v t (inherited_keys v (take (place + 1) (leaders_from v parent pinned)))

-- a leader of the list, with those before it
record IsPlace (v : World) (parent : TaskNo) (pinned : Bool) (place : ℕ) (q : Key) : Type 0 where
  there : 1 ≤ times q (leaders_from v parent pinned)
  not_before : times q (take place (leaders_from v parent pinned)) ≡ 0
  leads : leads (post_at v) q ≡ true
  live : is_live v q ≡ true
  before : (x : Key) → times x (take place (leaders_from v parent pinned)) ≤ times x (leaders_from v parent pinned)
  upto : take (place + 1) (leaders_from v parent pinned) ≡ take place (leaders_from v parent pinned) ++ q ∷ []
  size : length (inherited_keys v (take place (leaders_from v parent pinned))) + length (inherited_members v q) ≤ length (inherited_keys v (leaders_from v parent pinned))

is-place : (v : World) (parent : TaskNo) (pinned : Bool) (place : ℕ) (d : Key) → IsKept v.hardware v → place < length (leaders_from v parent pinned)
    → IsPlace v parent pinned place (slice_index_or (leaders_from v parent pinned) place d)
is-place v parent pinned place d h low =
    let keys : List Key = leaders_from v parent pinned in
    let q : Key = slice_index_or keys place d in
    let parts : (x : Key) → times x keys ≡ times x (take place keys) + (once_if (is_key x q) + times x (drop (suc place) keys)) = λ x.
    ap (times x) (split-at keys place d low) ∙ (count-append (is_key x) (take place keys) (q ∷ drop (suc place) keys) ∙ ap (λ n. times x (take place keys) + n) (times-cons x q (drop (suc place) keys))) in
    let own : once_if (is_key q q) ≡ 1 = once-true (is_key q q) (is_key-same q q refl) in
    let there : 1 ≤ times q keys = omega (arith, parts q, own) in
    let lead : leads (post_at v) q ≡ true = list-leads v.hardware v (context.Task parent) pinned h q there in
    record {
      there = there;
      not_before = omega (arith, parts q, own, in-list v parent pinned h q, at-most-once (leads_in (post_at v) (8 + parent.0) pinned q));
      leads = lead;
      live = (leads-parts (is_live v q) (is_key q (entry_at v q).leader) lead).0;
      before = λ x. omega (arith, parts x);
      upto = take_more keys place d low;
      size = length-flat_map-take (inherited_members v) keys place d low;
    }

chosen : (b : Bool) (keys : List Key) → b ≡ true → (if b then keys else []) ≡ keys
chosen true keys is = refl
chosen false keys is = absurd (false≢true is)

may-copy : (child parent : TaskNo) (pinned : Bool) (v w : World) (place : ℕ) (q : Key) → IsKept v.hardware v → MayCopyList child parent pinned v
    → AreCopied child v w (inherited_keys v (take place (leaders_from v parent pinned))) → IsPlace v parent pinned place q → is_inherited (instance_at w q).attr ≡ true → MayCopy child w q
may-copy child parent pinned v w place q h may f at wanted =
    let keys : List Key = leaders_from v parent pinned in
    let done : List Key = inherited_keys v (take place keys) in
    let entry : entry_at w q ≡ entry_at v q = f.entries q at.live in
    let all : inherited_members v q ≡ (entry_at v q).members = chosen (is_inherited (instance_at v q).attr) (entry_at v q).members (ap (λ e. is_inherited e.instance.attr) (sym entry) ∙ wanted) in
    let size : length done + length (entry_at w q).members ≤ length (inherited_keys v keys) = omega (arith, at.size, ap length all, ap (λ e. length e.members) entry) in
    record {
      leads = (λ i. f.live q at.live i && is_key q (entry i).leader) ∙ (leads-parts (is_live v q) (is_key q (entry_at v q).leader) at.leads).1;
      number = may.numbers.0;
      listed = ap (λ e. is_pinned e.instance.attr) entry ∙ (may.listed q at.there ∙ ap (λ e. e.pinned) (sym entry));
      of_task = ap (λ e. is_of_task e.context) entry ∙ task-by-place (entry_at v q).context parent.0 (led-place v parent pinned h q at.there) may.numbers.1;
      none_there = λ j k live there some same.
          (let member : 1 ≤ times k (entry_at v q).members = subst (λ e. 1 ≤ times k e.members) entry some in
          let m : IsMember v q k = member-of v q k h member in
          let inherited : 1 ≤ times k (inherited_keys v keys) = omega (arith, member, ap (times k) all, flat-has (inherited_members v) k q keys at.there) in
          let event : (instance_at w j).event.0 ≡ (instance_at v k).event.0 = same ∙ ap (λ e. e.instance.event.0) (f.entries k m.live) in
          elim (cases_Bool (is_live v j)) [
            | inl was ↦
                may.none_there j k was (ap (λ e. place_of e.context) (sym (f.entries j was)) ∙ there) inherited (ap (λ e. e.instance.event.0) (sym (f.entries j was)) ∙ event)
            | inr none ↦
                let x : IsNewCopy child v w done j = f.fresh j none live in
                let y : Key = x.parent.0 in
                let i : IsInherited v (take place keys) y = inherited-key v (take place keys) y h x.parent.1 in
                let first : place_of (entry_at v y).context ≡ 8 + parent.0 =
                ap place_of i.together ∙ led-place v parent pinned h (entry_at v y).leader (omega (arith, i.leader, at.before (entry_at v y).leader)) in
                let second : place_of (entry_at v k).context ≡ 8 + parent.0 = ap place_of m.together ∙ led-place v parent pinned h q at.there in
                let is : y ≡ k = h.apart.one_each y k i.live m.live (ap (λ e. e.0) (sym x.parent.2) ∙ event) (first ∙ sym second) in
                let led : (entry_at v y).leader ≡ q = ap (λ z. (entry_at v z).leader) is ∙ m.led in
                omega (arith, at.not_before, subst (λ z. 1 ≤ times z (take place keys)) led i.leader)
          ]);
      ids = omega (arith, ap (λ x. x.next_id) f.quiet, may.ids, size);
      few = omega (arith, f.few, may.few, size);
    }

pub list-at : (child parent : TaskNo) (pinned : Bool) (v w : World) (place : ℕ) (keys : List Key) (d : Key) → IsKept v.hardware v → MayCopyList child parent pinned v
    → AreCopied child v w (inherited_keys v (take place (leaders_from v parent pinned))) → keys ≡ leaders_from v parent pinned → place < length keys
    → IsListAt child parent pinned v w place (slice_index_or keys place d)
list-at child parent pinned v w place keys d h may f is low =
    let all : List Key = leaders_from v parent pinned in
    let q : Key = slice_index_or all place d in
    let at : IsPlace v parent pinned place q = is-place v parent pinned place d h (omega (arith, low, ap length is)) in
    let same : inherited_members w q ≡ inherited_members v q = λ i. if is_inherited (f.entries q at.live i).instance.attr then (f.entries q at.live i).members else [] in
    subst (λ ks. IsListAt child parent pinned v w place (slice_index_or ks place d)) (sym is) (record {
      live = f.live q at.live;
      may = may-copy child parent pinned v w place q h may f at;
      next = λ t g.
          (let more : AreCopied child w t (inherited_members v q) = subst (AreCopied child w t) same g in
          let both : AreCopied child v t (inherited_keys v (take place all) ++ inherited_members v q) =
          copied-then child v w t (inherited_keys v (take place all)) (inherited_members v q) h f more
          (λ y some. (member-of v q y h (of-inherited (is_inherited (instance_at v q).attr) y (entry_at v q).members some)).live) in
          let upto : inherited_keys v (take (place + 1) all) ≡ inherited_keys v (take place all) ++ inherited_members v q =
          ap (inherited_keys v) at.upto ∙ (flat_map-append (inherited_members v) (take place all) (q ∷ []) ∙ ap (λ ks. inherited_keys v (take place all) ++ ks) (append-nil (inherited_members v q))) in
          subst (AreCopied child v t) (sym upto) both);
    })

pub as-picked : (pinned : Bool) (l : Leaders) → picked pinned l ≡ leaders_in pinned l
as-picked true l = refl
as-picked false l = refl

-- a turn of the loop over the leaders
pub record IsListHere (child parent : TaskNo) (pinned : Bool) (v w : World) (place : ℕ) (q : Key) (keys : List Key) : Type 0 where
  pub low : place < length keys
  pub at : IsListAt child parent pinned v w place q

pub list-here : (child parent : TaskNo) (pinned : Bool) (v w : World) (place : ℕ) (ends keys : List Key) (d : Key) → IsKept v.hardware v → MayCopyList child parent pinned v
    → AreCopied child v w (inherited_keys v (take place (leaders_from v parent pinned))) → ends ≡ picked pinned (leaders_of v (context.Task parent)) → place < length ends
    → keys ≡ picked pinned (leaders_of w (context.Task parent)) → IsListHere child parent pinned v w place (slice_index_or keys place d) keys
list-here child parent pinned v w place ends keys d h may f ended below is = grind (arith, nat_tests, as-picked, same-list, list-at)
