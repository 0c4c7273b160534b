-- What holds of each instance of a context, through the changes of a context.
use Rattle.std.{specs.Prelude.{◌≡◌, ℕ, ◌+◌, Bool, true, false, not, List, [], ◌∷◌, ◌++◌, map, filter, flat_map, sum_by}, proofs.Common.{refl}}
use Rattle.std.proofs.lemmas.Bool.{cond_both, not-true}
use Rattle.perf_base.specs.declared.{numbers.{CpuNo.{CpuNo}, EventNo.{EventNo}}, standing.{Own.{Own}, Standing.{Standing}}}
use Rattle.perf_base.specs.declared.standing.Standing.TheVariants as standing
use Rattle.stage_spec.specs.{declared.instance.Instance.{Instance}, Flags.{is_inherited}, Hardware.{Hardware}}
use Rattle.stage_spec.specs.Stage.{Stage, Group, members_of, group_size, alone, Lists, groups_in, change_group, change_lists, is_original, members, all_groups, all_instances}
use Rattle.stage_spec.specs.{Verdict.{Judged}, Settle.{failed, settle_lists}, Opening.{add_group, joined, join_group, join_lists}}
use Rattle.stage_spec.specs.{Closing.{staying, without, kept_group, freed_groups}, Rotation.{turn_lists}}
use Rattle.stage_spec.specs.Forks.{copy_of, copies_from, copy_groups, copied, inherited_groups}
use Rattle.stage_spec.proofs.Each.{Each, none-Each, cons-Each, head-Each, tail-Each, append-Each, map-Each, weaker-Each, filter-Each, flat_map-Each, InGroup, InGroups, InLists, InStage}
use Rattle.stage_spec.proofs.{Parts.{both-Each, front-Each, back-Each, joined-Each}, Contexts.{settle_pass-keeps, turned-keeps}}

-- between a context, its groups and the list of its instances
pub members-in : (P : Instance → Type 0) (l : Lists) → InLists P l → Each P (members (groups_in l))
members-in P l h = flat_map-Each (InGroup P) P members_of (λ g k. k) (groups_in l) (append-Each (InGroup P) l.pinned l.flexible h.in_pinned h.in_flexible)

pub InLists-from_members : (P : Instance → Type 0) (l : Lists) → Each P (members (groups_in l)) → InLists P l
InLists-from_members P l h =
    let groups : InGroups P (groups_in l) = joined-Each P members_of (groups_in l) h in
    record { in_pinned = front-Each (InGroup P) l.pinned l.flexible groups; in_flexible = back-Each (InGroup P) l.pinned l.flexible groups }

pub all_instances-in : (P : Instance → Type 0) (s : Stage) → InStage P s → Each P (all_instances s)
all_instances-in P s h =
    flat_map-Each (InGroup P) P members_of (λ g k. k) (all_groups s)
    (flat_map-Each (InLists P) (InGroup P) groups_in (λ l k. append-Each (InGroup P) l.pinned l.flexible k.in_pinned k.in_flexible) s.contexts h)

pub InStage-from_all : (P : Instance → Type 0) (s : Stage) → Each P (all_instances s) → InStage P s
InStage-from_all P s h =
    weaker-Each (λ l. InGroups P (groups_in l)) (InLists P)
    (λ l k. record { in_pinned = front-Each (InGroup P) l.pinned l.flexible k; in_flexible = back-Each (InGroup P) l.pinned l.flexible k }) s.contexts
    (joined-Each (InGroup P) groups_in s.contexts (joined-Each P members_of (all_groups s) h))

-- less of each, and two things of each
pub weaker-in : (P Q : Instance → Type 0) → ((i : Instance) → P i → Q i) → (l : Lists) → InLists P l → InLists Q l
weaker-in P Q f l h = record {
  in_pinned = weaker-Each (InGroup P) (InGroup Q) (λ g. weaker-Each P Q f (members_of g)) l.pinned h.in_pinned;
  in_flexible = weaker-Each (InGroup P) (InGroup Q) (λ g. weaker-Each P Q f (members_of g)) l.flexible h.in_flexible;
}

pub both-in : (P Q R : Instance → Type 0) → ((i : Instance) → P i → Q i → R i) → (l : Lists) → InLists P l → InLists Q l → InLists R l
both-in P Q R f l h k = record {
  in_pinned = both-Each (InGroup P) (InGroup Q) (InGroup R) (λ g. both-Each P Q R f (members_of g)) l.pinned h.in_pinned k.in_pinned;
  in_flexible = both-Each (InGroup P) (InGroup Q) (InGroup R) (λ g. both-Each P Q R f (members_of g)) l.flexible h.in_flexible k.in_flexible;
}

-- settling and a tick, of what does not look at an instance's own state
abbrev pub LeavesOwn : (Instance → Type 0) → Type 0
LeavesOwn P = (i : Instance) (o : Own) → P i → P (record i { own = o })

failed-in : (P : Instance → Type 0) → LeavesOwn P → (v : Standing) (g : Group) → InGroup P g → InGroup P (failed v g)
failed-in P k standing.Out g h = h
failed-in P k standing.On g h = h
failed-in P k (standing.Refused c) g h = cons-Each P _ g.siblings (k g.leader _ (head-Each P g.leader g.siblings h)) (tail-Each P g.leader g.siblings h)

pub settle_lists-in : (P : Instance → Type 0) → LeavesOwn P → (hw : Hardware) (cpu : CpuNo) (before : List Judged) (l : Lists) → InLists P l → InLists P (settle_lists hw cpu before l)
settle_lists-in P k hw cpu before l h = record { in_pinned = settle_pass-keeps (InGroup P) (failed-in P k) hw cpu before [] l.pinned h.in_pinned; in_flexible = h.in_flexible }

pub turn_lists-in : (P : Instance → Type 0) (hw : Hardware) (cpu : CpuNo) (judged : List Judged) (l : Lists) → InLists P l → InLists P (turn_lists hw cpu judged l)
turn_lists-in P hw cpu judged l h = record { in_pinned = h.in_pinned; in_flexible = turned-keeps (InGroup P) hw cpu judged l.flexible h.in_flexible }

-- a change of each
pub change_lists-in : (P Q : Instance → Type 0) (f : Instance → Instance) → ((i : Instance) → P i → Q (f i)) → (l : Lists) → InLists P l → InLists Q (change_lists f l)
change_lists-in P Q f k l h = record {
  in_pinned = map-Each (InGroup P) (InGroup Q) (change_group f) (λ g. map-Each P Q f k (members_of g)) l.pinned h.in_pinned;
  in_flexible = map-Each (InGroup P) (InGroup Q) (change_group f) (λ g. map-Each P Q f k (members_of g)) l.flexible h.in_flexible;
}

-- those that stay
abbrev pub Stays : (goes : Instance → Bool) → (P Q : Instance → Type 0) → Type 0
Stays goes P Q = (i : Instance) → goes i ≡ false → P i → Q i

passing-Each : {X : Type 0} (P Q : X → Type 0) (test : X → Bool) → ((x : X) → test x ≡ true → P x → Q x) → (xs : List X) → Each P xs → Each Q (filter test xs)
unfolding Each
passing-Each P Q test k [] h = tt
passing-Each P Q test k (x ∷ xs) h =
    cond_both (test x) (x ∷ filter test xs) (filter test xs) (Each Q) (λ passes. (k x passes h.0, passing-Each P Q test k xs h.1)) (λ fails. passing-Each P Q test k xs h.1)

staying-in : (P Q : Instance → Type 0) (goes : Instance → Bool) → Stays goes P Q → (xs : List Instance) → Each P xs → Each Q (staying goes xs)
staying-in P Q goes k xs h = passing-Each P Q (λ i. not (goes i)) (λ i stays. k i (not-true (goes i) stays)) xs h

either-known : (P : Group → Type 0) (b : Bool) (xs ys : List Group) → (b ≡ true → Each P xs) → (b ≡ false → Each P ys) → Each P (elim b as (λ c. List Group) [ true ↦ xs | false ↦ ys ])
either-known P true xs ys h k = h refl
either-known P false xs ys h k = k refl

kept_group-in : (P Q : Instance → Type 0) (goes : Instance → Bool) → Stays goes P Q → (g : Group) → InGroup P g → InGroups Q (kept_group goes g)
kept_group-in P Q goes k g h =
    either-known (InGroup Q) (goes g.leader) [] (record g { siblings = staying goes g.siblings } ∷ []) (λ gone. none-Each (InGroup Q))
    (λ stays. cons-Each (InGroup Q) (record g { siblings = staying goes g.siblings }) []
    (cons-Each Q g.leader (staying goes g.siblings) (k g.leader stays (head-Each P g.leader g.siblings h)) (staying-in P Q goes k g.siblings (tail-Each P g.leader g.siblings h)))
    (none-Each (InGroup Q)))

freed_groups-in : (P Q : Instance → Type 0) (goes : Instance → Bool) → Stays goes P Q → (g : Group) → InGroup P g → InGroups Q (freed_groups goes g)
freed_groups-in P Q goes k g h =
    either-known (InGroup Q) (goes g.leader) (map alone (staying goes g.siblings)) []
    (λ gone. map-Each Q (InGroup Q) alone (λ i one. cons-Each Q i [] one (none-Each Q)) (staying goes g.siblings) (staying-in P Q goes k g.siblings (tail-Each P g.leader g.siblings h)))
    (λ stays. none-Each (InGroup Q))

pub without-in : (P Q : Instance → Type 0) (goes : Instance → Bool) → Stays goes P Q → (l : Lists) → InLists P l → InLists Q (without goes l)
without-in P Q goes k l h = record {
  in_pinned = flat_map-Each (InGroup P) (InGroup Q) (kept_group goes) (kept_group-in P Q goes k) l.pinned h.in_pinned;
  in_flexible = append-Each (InGroup Q) (flat_map (kept_group goes) l.flexible) (flat_map (freed_groups goes) (l.pinned ++ l.flexible))
      (flat_map-Each (InGroup P) (InGroup Q) (kept_group goes) (kept_group-in P Q goes k) l.flexible h.in_flexible)
      (flat_map-Each (InGroup P) (InGroup Q) (freed_groups goes) (freed_groups-in P Q goes k) (l.pinned ++ l.flexible)
      (append-Each (InGroup P) l.pinned l.flexible h.in_pinned h.in_flexible));
}

-- a new group, and a sibling that joins those that an original leads
pub add_group-in : (P : Instance → Type 0) (b : Bool) (g : Group) (l : Lists) → InGroup P g → InLists P l → InLists P (add_group b g l)
add_group-in P true g l h k = record { in_pinned = append-Each (InGroup P) l.pinned (g ∷ []) k.in_pinned (cons-Each (InGroup P) g [] h (none-Each (InGroup P))); in_flexible = k.in_flexible }
add_group-in P false g l h k = record {
  in_pinned = k.in_pinned;
  in_flexible = append-Each (InGroup P) l.flexible (g ∷ []) k.in_flexible
      (cons-Each (InGroup P) g [] h (none-Each (InGroup P)));
}

join_group-in : (P Q : Instance → Type 0) (e : EventNo) (i : Instance) → ((j : Instance) → P j → Q j) → ((leader : Instance) → is_original e leader ≡ true → P leader → Q i)
    → (g : Group) → InGroup P g → InGroup Q (join_group e i g)
join_group-in P Q e i same k g h =
    let now : InGroup Q g = weaker-Each P Q same (members_of g) h in
    cond_both (is_original e g.leader) (joined i g) g (InGroup Q)
    (λ leads. append-Each Q (members_of g) (i ∷ []) now (cons-Each Q i [] (k g.leader leads (head-Each P g.leader g.siblings h)) (none-Each Q))) (λ other. now)

pub join_lists-in : (P Q : Instance → Type 0) (e : EventNo) (i : Instance) → ((j : Instance) → P j → Q j) → ((leader : Instance) → is_original e leader ≡ true → P leader → Q i)
    → (l : Lists) → InLists P l → InLists Q (join_lists e i l)
join_lists-in P Q e i same k l h = record {
  in_pinned = map-Each (InGroup P) (InGroup Q) (join_group e i) (join_group-in P Q e i same k) l.pinned h.in_pinned;
  in_flexible = map-Each (InGroup P) (InGroup Q) (join_group e i) (join_group-in P Q e i same k) l.flexible h.in_flexible;
}

-- the copies of a fork
copies_from-in : (P Q : Instance → Type 0) (s : Stage) → ((id : ℕ) (i : Instance) → P i → Q (copy_of s id i)) → (id : ℕ) (xs : List Instance) → Each P xs → Each Q (copies_from s id xs)
unfolding copies_from Each
copies_from-in P Q s k id [] h = tt
copies_from-in P Q s k id (i ∷ xs) h = (k id i h.0, copies_from-in P Q s k (id + 1) xs h.1)

copy_groups-in : (P Q : Instance → Type 0) (s : Stage) → ((id : ℕ) (i : Instance) → P i → Q (copy_of s id i)) → (id : ℕ) (groups : List Group)
    → InGroups P groups → InGroups Q (copy_groups s id groups)
unfolding copy_groups Each
copy_groups-in P Q s k id [] h = tt
copy_groups-in P Q s k id (g ∷ groups) h =
    ((k id g.leader h.0.0, copies_from-in P Q s k (id + 1) g.siblings h.0.1), copy_groups-in P Q s k (id + group_size g) groups h.1)

pub copied-in : (P Q : Instance → Type 0) (s : Stage) → ((id : ℕ) (i : Instance) → P i → Q (copy_of s id i)) → (l : Lists) → InLists P l → InLists Q (copied s l)
copied-in P Q s k l h = record {
  in_pinned = copy_groups-in P Q s k s.next_id (inherited_groups l.pinned) (filter-Each (InGroup P) (λ g. is_inherited g.leader.attr) l.pinned h.in_pinned);
  in_flexible = copy_groups-in P Q s k (s.next_id + sum_by group_size (inherited_groups l.pinned)) (inherited_groups l.flexible)
      (filter-Each (InGroup P) (λ g. is_inherited g.leader.attr) l.flexible h.in_flexible);
}
