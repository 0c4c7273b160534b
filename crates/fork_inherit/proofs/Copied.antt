-- The copies of some instances, one after the other.
use Rattle.std.specs.Prelude.{◌≡◌, ℕ, ◌+◌, ◌<◌, true, false, List, [], ◌∷◌, ◌++◌, length, map, Option, Some, None, slice_index_or, slice_set}
use Rattle.std.{proofs.{Common.{arith, refl, sym, ap, subst, ◌∙◌, inl, inr}, lemmas.Bool.{cases_eq, false≢true}}}
use Rattle.std.proofs.lemmas.List.{length-append, map-append, get_or-set_same, get_or-set_other, Sums.{fold-append, sum_by-set}}
use Rattle.perf_base.specs.declared.numbers.{EventNo.{EventNo}, Key.{Key}, TaskNo.{TaskNo}}
use Rattle.perf_base.specs.declared.standing.Standing.TheVariants as standing
use Rattle.stage_spec.specs.{declared.instance.Instance.{Instance}, Forks.{copied_state, copy_of}, Shares.{no_sums}, Stage.{Stage, place_of}}
use Rattle.stage_laws.{specs.OneByOne.{Parent, add_instance, add_copies}, proofs.Counts.{count-append}}
use Rattle.world_spec.specs.Value.{World, Family, no_family, no_leaders, is_live, entry_at, instance_at, standing_at, family_of, is_key}
use Rattle.world_spec.specs.{StageOf.{stage_of}, Kept.{copies_in, IsKept}, Adding.{Newcomer, in_family, add}}
use Rattle.world_spec.{specs.{Copying.{copy_from, copy_comes, FollowsParent}, Staying.{HasCome}}, proofs.Copying.{copy-stage, copy-kept}}
use Rattle.world_spec.proofs.{Keys.{key-is, is_key-same, times-push, once-true}, Tables.{get-here, get-there, entry-here, entry-there, live-written}}
use Rattle.perf_world.specs.Parts.{MayAdd}
use Rattle.fork_inherit.{specs.Copies.{parent_of, IsNewCopy, AreCopied}, proofs.Single.{may-come, has-come}}

-- what a copy that comes leaves
record IsBeside (w u : World) (k : Key) (n : Newcomer) (leader : Option Key) : Type 0 where
  entries : (j : Key) → (j.0 ≡ k.0 → ⊥) → ((m : Key) → leader ≡ Some m → j.0 ≡ m.0 → ⊥) → entry_at u j ≡ entry_at w j
  standings : (j : Key) → (j.0 ≡ k.0 → ⊥) → standing_at u j ≡ standing_at w j
  out : standing_at u k ≡ standing.Out
  contexts : (p : ℕ) → (p ≡ place_of n.context → ⊥) → slice_index_or u.contexts p no_leaders ≡ slice_index_or w.contexts p no_leaders
  quiet : u.quiet ≡ record w.quiet { next_id = w.quiet.next_id + 1 }
  families : u.families ≡ slice_set w.families n.event.0 (in_family true k (family_of w n.event))
  hardware : u.hardware ≡ w.hardware

beside : (w : World) (k : Key) (child : TaskNo) (i : Instance) (leader : Option Key) → IsBeside w (add k (copy_from w child i leader) w) k (copy_from w child i leader) leader
beside w k child i None = grind (arith, get-there, get-here, get_or-set_other)
beside w k child i (Some m) = search (get-there, get-here)

-- none yet
pub copied-none : (child : TaskNo) (v : World) → IsKept v.hardware v → AreCopied child v v []
copied-none child v h = grind (arith, false≢true)

-- a copy that joins a family leaves the originals of all
original-there : (w : World) (k : Key) (event e : EventNo) → event.0 < length w.families
    → (slice_index_or (slice_set w.families event.0 (in_family true k (family_of w event))) e.0 no_family).original ≡ (family_of w e).original
original-there w k event e low = grind (arith, get_or-set_same, get_or-set_other)

-- one more
pub next-copied : (child : TaskNo) (v w : World) (done : List Key) (q k : Key) (leader : Option Key) → AreCopied child v w done → is_live v q ≡ true → is_live w k ≡ false
    → MayAdd w (copy_from w child (instance_at v q) leader) → FollowsParent w child (parent_of v q) leader → ((m : Key) → leader ≡ Some m → is_live v m ≡ false)
    → AreCopied child v (copy_comes k child (instance_at v q) leader w) (done ++ q ∷ [])
next-copied child v w done q k leader f live_q dead may follows outside =
    let i : Instance = instance_at v q in
    let n : Newcomer = copy_from w child i leader in
    let u : World = add k n w in
    let t : World = copy_comes k child i leader w in
    let h : IsKept w.hardware w = subst (λ hw. IsKept hw w) (sym f.hardware) f.kept in
    let c : HasCome w u k n = has-come w k n h dead may in
    let b : IsBeside w u k n leader = beside w k child i leader in
    let apart : (j : Key) → is_live w j ≡ true → j.0 ≡ k.0 → ⊥ = λ j live e. false≢true (sym dead ∙ (ap (is_live w) (sym (key-is j k e)) ∙ live)) in
    let there : (j : Key) → (j.0 ≡ k.0 → ⊥) → entry_at t j ≡ entry_at u j = λ j off. entry-there u k (record (entry_at u k) { instance = record (instance_at u k) { own = copied_state i.own } }) j off in
    let here : entry_at t k ≡ record (entry_at u k) { instance = record (instance_at u k) { own = copied_state i.own } } =
    entry-here u k (record (entry_at u k) { instance = record (instance_at u k) { own = copied_state i.own } }) k refl in
    let lives : (j : Key) → is_live t j ≡ is_live u j = live-written u k (record (entry_at u k) { instance = record (instance_at u k) { own = copied_state i.own } }) c.live in
    let not_leader : (j : Key) → is_live v j ≡ true → (m : Key) → leader ≡ Some m → j.0 ≡ m.0 → ⊥ = grind (arith, false≢true, key-is) in
    record {
      kept = subst (λ hw. IsKept hw t) f.hardware (copy-kept w.hardware w k child i leader (may-come w k n dead may) may.original may.group h);
      stage =
          let step : Stage → Parent → Stage = λ s p. add_instance child p (copy_of s s.next_id p.instance) s in
          copy-stage w.hardware w k child (parent_of v q) leader h (may-come w k n dead may) may.original may.group follows
          ∙ (ap (λ s. step s (parent_of v q)) f.stage
          ∙ (sym (fold-append step (stage_of v) (map (parent_of v) done) (parent_of v q ∷ []))
          ∙ ap (λ ps. add_copies child ps (stage_of v)) (sym (map-append (parent_of v) done (q ∷ [])))));
      live = λ j live. lives j ∙ (c.others.live j (apart j (f.live j live)) ∙ f.live j live);
      entries = λ j live. there j (apart j (f.live j live)) ∙ (b.entries j (apart j (f.live j live)) (not_leader j live) ∙ f.entries j live);
      accounts = λ j live. c.others.accounts j (apart j (f.live j live)) ∙ f.accounts j live;
      standings = λ j live. b.standings j (apart j (f.live j live)) ∙ f.standings j live;
      fresh = λ j none live. elim (cases_eq j.0 k.0) [
        | inl e ↦
            subst (IsNewCopy child v t (done ++ q ∷ [])) (sym (key-is j k e)) (record {
              copy = ap (λ x. x.instance.copy) here ∙ ap (λ x. x.copy) c.instance;
              context = ap (λ x. x.context) here ∙ c.context;
              account = c.account ∙ (λ x. record { sums = no_sums; left = sym (ap (λ y. y.instance.attr.period) here ∙ ap (λ y. y.attr.period) c.instance) x });
              standing = b.out;
              later = omega (arith, ap (λ x. x.instance.id) here, ap (λ x. x.id) c.instance, ap (λ x. x.next_id) f.quiet);
              parent = (q, omega (arith, times-push q done q, once-true (is_key q q) (is_key-same q q refl)), ap (λ x. x.instance.event) here ∙ ap (λ x. x.event) c.instance);
            })
        | inr off ↦
            let was : is_live w j ≡ true = sym (c.others.live j off) ∙ (sym (lives j) ∙ live) in
            let x : IsNewCopy child v w done j = f.fresh j none was in
            let same : instance_at t j ≡ instance_at w j = ap (λ y. y.instance) (there j off) ∙ c.others.instances j off in
            record {
              copy = ap (λ y. y.copy) same ∙ x.copy;
              context = ap (λ y. y.context) (there j off) ∙ (c.others.contexts j off ∙ x.context);
              account = c.others.accounts j off ∙ (x.account ∙ (λ y. record { sums = no_sums; left = (sym same y).attr.period }));
              standing = b.standings j off ∙ x.standing;
              later = omega (arith, x.later, ap (λ y. y.id) same);
              parent = (x.parent.0, omega (arith, x.parent.1, count-append (is_key x.parent.0) done (q ∷ [])), ap (λ y. y.event) same ∙ x.parent.2);
            }
      ];
      contexts = λ p off. b.contexts p off ∙ f.contexts p off;
      originals = λ e. ap (λ (fs : List Family). (slice_index_or fs e.0 no_family).original) b.families ∙ (original-there w k n.event e (omega (arith, may.slot, h.tables.families)) ∙ f.originals e);
      folded = c.folded ∙ f.folded;
      lost = c.others.lost ∙ f.lost;
      hardware = b.hardware ∙ f.hardware;
      quiet =
          let size : v.quiet.next_id + length done + 1 ≡ v.quiet.next_id + length (done ++ q ∷ []) = omega (arith, length-append done (q ∷ [])) in
          b.quiet ∙ ((λ x. record (f.quiet x) { next_id = (f.quiet x).next_id + 1 }) ∙ (λ x. record v.quiet { next_id = size x }));
      few =
          let family : Family = family_of w n.event in
          omega (
            arith,
            ap copies_in b.families,
            sum_by-set (λ x. length x.copies) w.families n.event.0 (in_family true k family) no_family (omega (arith, may.slot, h.tables.families)),
            length-append family.copies (k ∷ []),
            f.few,
            length-append done (q ∷ []),
          );
    }
