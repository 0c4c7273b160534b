-- What a fork adds is a copy of each instance, one after the other in the order of their ids.
use Rattle.std.specs.Prelude.{◌≡◌, ℕ, zero, suc, ◌+◌, Bool, true, false, ◌&&◌, find, Option, Some, None, if◌then◌else◌, List, [], ◌∷◌, ◌++◌, map, flat_map, length, sum_by}
use Rattle.std.{specs.Option.{option_or}, proofs.Common.{arith, refl, sym, ap, ◌∙◌, append-nil, append_assoc, get_or, set, get_or-set_same}}
use Rattle.std.proofs.lemmas.{Bool.{cases_lt, and_right}, Grind.{flat_map-append}, List.{set-set, set-get_or, set_past, length-append, length-map}}
use Rattle.std.proofs.lemmas.List.{Folds.{find-append}, Sums.{sum_by-cons}}
use Rattle.perf_base.specs.declared.numbers.{EventNo.{EventNo}, TaskNo.{TaskNo}}
use Rattle.perf_base.specs.declared.standing.Context.TheVariants as context
use Rattle.stage_spec.specs.declared.instance.Instance.{Instance}
use Rattle.stage_spec.specs.Stage.{Stage, Group, members_of, group_size, alone, Lists, lists_of, no_groups, groups_in, members, is_of_family, is_original, original_of, place_of, task_on, change_context}
use Rattle.stage_spec.specs.{Verdict.{task_lists}, Opening.{joined, add_group}}
use Rattle.stage_spec.specs.Forks.{inherited_groups, copy_of, copies_from, copy_group, copy_groups, copied, copied_state, present_period, new_copies, forked}
use Rattle.stage_laws.specs.OneByOne.{Parent, parents_in, fork_parents, join_last, add_sibling, add_copy, add_instance, add_copies, CopiesLeaveOriginalsLaw, ForkOneByOneLaw}

-- copies added to the groups of one context
unfoldable added : Stage → ℕ → List Parent → Lists → Lists
added s id [] l = l
added s id (p ∷ parents) l = added s (id + 1) parents (add_copy p (copy_of s id p.instance) l)

added-append : (s : Stage) (id : ℕ) (ps qs : List Parent) (l : Lists) → added s id (ps ++ qs) l ≡ added s (id + length ps) qs (added s id ps l)
unfolding added
added-append s id [] qs l = ap (λ n. added s n qs l) (omega arith)
added-append s id (p ∷ ps) qs l = grind (arith, added-append s (id + 1) ps qs (add_copy p (copy_of s id p.instance) l))

-- groups that go last among the pinned or the flexible ones
abbrev pushed : Bool → List Group → Lists → Lists
pushed true groups l = record l { pinned = l.pinned ++ groups }
pushed false groups l = record l { flexible = l.flexible ++ groups }

pub join-pushed : (i : Instance) (groups : List Group) (g : Group) → join_last i (groups ++ g ∷ []) ≡ groups ++ joined i g ∷ []
unfolding join_last
join-pushed i [] g = refl
join-pushed i (h ∷ []) g = refl
join-pushed i (h ∷ k ∷ groups) g = ap (λ gs. h ∷ gs) (join-pushed i (k ∷ groups) g)

sibling-pushed : (pinned : Bool) (i : Instance) (g : Group) (l : Lists) → add_sibling pinned i (pushed pinned (g ∷ []) l) ≡ pushed pinned (joined i g ∷ []) l
sibling-pushed true i g l = ap (λ gs. record l { pinned = gs }) (join-pushed i l.pinned g)
sibling-pushed false i g l = ap (λ gs. record l { flexible = gs }) (join-pushed i l.flexible g)

group-pushed : (pinned : Bool) (g : Group) (l : Lists) → add_group pinned g l ≡ pushed pinned (g ∷ []) l
group-pushed true g l = refl
group-pushed false g l = refl

pushed-none : (pinned : Bool) (l : Lists) → pushed pinned [] l ≡ l
pushed-none true l = ap (λ gs. record l { pinned = gs }) (append-nil l.pinned)
pushed-none false l = ap (λ gs. record l { flexible = gs }) (append-nil l.flexible)

pushed-twice : (pinned : Bool) (g : Group) (groups : List Group) (l : Lists) → pushed pinned groups (pushed pinned (g ∷ []) l) ≡ pushed pinned (g ∷ groups) l
pushed-twice true g groups l = ap (λ gs. record l { pinned = gs }) (append_assoc l.pinned (g ∷ []) groups)
pushed-twice false g groups l = ap (λ gs. record l { flexible = gs }) (append_assoc l.flexible (g ∷ []) groups)

-- the copies of a group, one after the other
abbrev sibling_parent : Bool → Instance → Parent
sibling_parent pinned i = record { instance = i; leads = false; pinned = pinned }

added-siblings : (s : Stage) (id : ℕ) (pinned : Bool) (g : Group) (siblings : List Instance) (l : Lists)
    → added s id (map (sibling_parent pinned) siblings) (pushed pinned (g ∷ []) l) ≡ pushed pinned (record g { siblings = g.siblings ++ copies_from s id siblings } ∷ []) l
unfolding added copies_from
added-siblings s id pinned g [] l = ap (λ is. pushed pinned (record g { siblings = is } ∷ []) l) (sym (append-nil g.siblings))
added-siblings s id pinned g (i ∷ siblings) l =
    let copy : Instance = copy_of s id i in
    grind (arith, sibling-pushed, copy, append_assoc, added-siblings s (id + 1) pinned (joined copy g) siblings l)

added-group : (s : Stage) (id : ℕ) (pinned : Bool) (g : Group) (l : Lists) → added s id (parents_in pinned g) l ≡ pushed pinned (copy_group s id g ∷ []) l
unfolding added
added-group s id pinned g l = grind (arith, group-pushed, added-siblings)

parents-length : (pinned : Bool) (g : Group) → length (parents_in pinned g) ≡ group_size g
parents-length pinned g = ap (λ n. suc n) (length-map g.siblings (sibling_parent pinned))

added-groups : (s : Stage) (id : ℕ) (pinned : Bool) (groups : List Group) (l : Lists) → added s id (flat_map (parents_in pinned) groups) l ≡ pushed pinned (copy_groups s id groups) l
unfolding added copy_groups
added-groups s id pinned [] l = sym (pushed-none pinned l)
added-groups s id pinned (g ∷ groups) l =
    added-append s id (parents_in pinned g) (flat_map (parents_in pinned) groups) l
    ∙ (ap (λ n. added s (id + n) (flat_map (parents_in pinned) groups) (added s id (parents_in pinned g) l)) (parents-length pinned g)
    ∙ (ap (added s (id + group_size g) (flat_map (parents_in pinned) groups)) (added-group s id pinned g l)
    ∙ (added-groups s (id + group_size g) pinned groups (pushed pinned (copy_group s id g ∷ []) l)
    ∙ pushed-twice pinned (copy_group s id g) (copy_groups s (id + group_size g) groups) l)))

parents-count : (pinned : Bool) (groups : List Group) → length (flat_map (parents_in pinned) groups) ≡ sum_by group_size groups
parents-count pinned [] = refl
parents-count pinned (g ∷ groups) = search (length-append, parents-length, sum_by-cons, parents-count pinned groups)

added-all : (s : Stage) (l : Lists) → added s s.next_id (fork_parents l) no_groups ≡ copied s l
added-all s l = grind (arith, added-append, parents-count, added-groups)

-- a copy that is added is no original, so the originals stay
-- what is found among the instances of some groups, with an instance that is not it
abbrev found_in : (Instance → Bool) → List Group → Option Instance
found_in p groups = find p (members groups)

found_in-append : (p : Instance → Bool) (xs ys : List Group) → found_in p (xs ++ ys) ≡ option_or (found_in p xs) (found_in p ys)
found_in-append p xs ys = ap (find p) (flat_map-append members_of xs ys) ∙ find-append p (members xs) (members ys)

or_none : {X : Type 0} (o : Option X) → option_or o None ≡ o
or_none None = refl
or_none (Some x) = refl

not-found : (p : Instance → Bool) (i : Instance) (xs : List Instance) → p i ≡ false → find p (xs ++ i ∷ []) ≡ find p xs
not-found p i xs e = find-append p xs (i ∷ []) ∙ (rw e (or_none (find p xs)))

found-pushed : (p : Instance → Bool) (i : Instance) (groups : List Group) → p i ≡ false → found_in p (groups ++ alone i ∷ []) ≡ found_in p groups
found-pushed p i groups e = found_in-append p groups (alone i ∷ []) ∙ (rw e (or_none (found_in p groups)))

found-joined : (p : Instance → Bool) (i : Instance) (groups : List Group) → p i ≡ false → found_in p (join_last i groups) ≡ found_in p groups
unfolding join_last
found-joined p i [] e = refl
found-joined p i (g ∷ []) e = grind (arith, append-nil, not-found)
found-joined p i (g ∷ h ∷ groups) e = grind (arith, find-append, found-joined p i (h ∷ groups) e)

found-beside : (p : Instance → Bool) (xs others ys more : List Group) → found_in p xs ≡ found_in p others → found_in p ys ≡ found_in p more
    → found_in p (xs ++ ys) ≡ found_in p (others ++ more)
found-beside p xs others ys more h k = found_in-append p xs ys ∙ (rw (h, k) (sym (found_in-append p others more)))

abbrev found_lists : (Instance → Bool) → Lists → Option Instance
found_lists p l = found_in p (groups_in l)

add_copy-finds : (p : Instance → Bool) (leads pinned : Bool) (i : Instance) (l : Lists) → p i ≡ false
    → found_lists p (if leads then add_group pinned (alone i) l else add_sibling pinned i l) ≡ found_lists p l
add_copy-finds p true true i l e = found-beside p (l.pinned ++ alone i ∷ []) l.pinned l.flexible l.flexible (found-pushed p i l.pinned e) refl
add_copy-finds p true false i l e = found-beside p l.pinned l.pinned (l.flexible ++ alone i ∷ []) l.flexible refl (found-pushed p i l.flexible e)
add_copy-finds p false true i l e = found-beside p (join_last i l.pinned) l.pinned l.flexible l.flexible (found-joined p i l.pinned e) refl
add_copy-finds p false false i l e = found-beside p l.pinned l.pinned (join_last i l.flexible) l.flexible refl (found-joined p i l.flexible e)

set-finds : (p : Instance → Bool) (contexts : List Lists) (k : ℕ) (l : Lists) → found_lists p l ≡ found_lists p (get_or contexts k no_groups)
    → found_in p (flat_map groups_in (set contexts k l)) ≡ found_in p (flat_map groups_in contexts)
set-finds p [] k l same = refl
set-finds p (m ∷ contexts) zero l same = found-beside p (groups_in l) (groups_in m) (flat_map groups_in contexts) (flat_map groups_in contexts) same refl
set-finds p (m ∷ contexts) (suc k) l same = grind (arith, found-beside, set, set-finds p contexts k l same)

no_original : (e : EventNo) (i : Instance) → i.copy ≡ true → is_original e i ≡ false
no_original e i copy = rw copy (and_right (is_of_family e i) false refl)

instance-finds : (child : TaskNo) (parent : Parent) (i : Instance) (s : Stage) (e : EventNo) → i.copy ≡ true → original_of (add_instance child parent i s) e ≡ original_of s e
instance-finds child parent i s e copy = grind (arith, set-finds, add_copy-finds, no_original)

pub copies_leave_originals : CopiesLeaveOriginalsLaw
copies_leave_originals child [] s e = refl
copies_leave_originals child (p ∷ parents) s e =
    let copy : Instance = copy_of s s.next_id p.instance in
    copies_leave_originals child parents (add_instance child p copy s) e ∙ instance-finds child p copy s e refl

-- changes of one context, one after the other
set-twice : (f g : Lists → Lists) (contexts : List Lists) (k : ℕ)
    → set (set contexts k (f (get_or contexts k no_groups))) k (g (get_or (set contexts k (f (get_or contexts k no_groups))) k no_groups)) ≡ set contexts k (g (f (get_or contexts k no_groups)))
set-twice f g contexts k = grind (arith, cases_lt, set-set, get_or, set, get_or-set_same, set_past)

abbrev at : Stage → List Lists → ℕ → Stage
at s contexts id = record s { contexts = contexts; next_id = id }

-- a copy has the period of its original, at the stage to which it is added as at one before it
abbrev copy_with : Option Instance → ℕ → Instance → Instance
copy_with original id i = record {
  event = i.event;
  copy = true;
  id = id;
  attr = record i.attr { period = present_period original i.attr };
  own = copied_state i.own;
  ring = None;
  mapped = false;
}

abbrev HasSameOriginals : (before s : Stage) → Type 0
HasSameOriginals before s = (e : EventNo) → original_of s e ≡ original_of before e

add_copies-are : (before : Stage) (child : TaskNo) (parents : List Parent) (s : Stage) → HasSameOriginals before s
    → add_copies child parents s ≡ record (change_context (context.Task child) (added before s.next_id parents) s) { next_id = s.next_id + length parents }
unfolding added
add_copies-are before child [] s originals = grind (arith, set-get_or, set, get_or)
add_copies-are before child (p ∷ parents) s originals =
    let k : ℕ = place_of (context.Task child) in
    let copy : Instance = copy_of before s.next_id p.instance in
    let rest : Lists → Lists = added before (s.next_id + 1) parents in
    let once : List Lists = set s.contexts k (add_copy p copy (get_or s.contexts k no_groups)) in
    ap (λ i. add_copies child parents (add_instance child p i s)) (ap (λ o. copy_with o s.next_id p.instance) (originals p.instance.event))
    ∙ (add_copies-are before child parents (add_instance child p copy s) (λ e. instance-finds child p copy s e refl ∙ originals e)
    ∙ (ap (λ cs. at s cs (s.next_id + 1 + length parents)) (set-twice (add_copy p copy) rest s.contexts k)
    ∙ ap (at s (set s.contexts k (rest (add_copy p copy (get_or s.contexts k no_groups))))) (omega arith)))

pub forked_one_by_one : ForkOneByOneLaw
unfolding forked
forked_one_by_one cpu child s placed fresh =
    let l : Lists = task_lists s (task_on s cpu) in
    let k : ℕ = place_of (context.Task child) in
    let copies : added s s.next_id (fork_parents l) (lists_of s (context.Task child)) ≡ copied s l
    = ap (added s s.next_id (fork_parents l)) (placed.unknown child fresh) ∙ added-all s l in
    let count : length (fork_parents l) ≡ new_copies l
    = omega (
      arith,
      length-append (flat_map (parents_in true) (inherited_groups l.pinned)) (flat_map (parents_in false) (inherited_groups l.flexible)),
      parents-count true (inherited_groups l.pinned),
      parents-count false (inherited_groups l.flexible),
    ) in
    grind (arith, add_copies-are, l, set, k, copies, count)
