-- A view that is cut in two, or joined to another, keeps the rule. So does the start.
use Rattle.std.proofs.Common.{◌≡◌, ◌≢◌, ◌⊎◌, ℕ, zero, suc, Bool, true, List, [], ◌∷◌, ◌++◌, set, refl, sym, ap, ◌∙◌, subst, ⊎_elim, arith}
use mathlib.Core.{Option.{some, some-injective, some-ne-none}, List.{IsPrefix}}
use lib.ListN.{get_elem?}
use Rattle.atomic_table.{specs.Table.{Splits, Joins, opening}, proofs.Lists.{at_set, at_snoc, set_again, set_else}}
use Rattle.user_page.specs.{declared.{look.Look.{Look}, view.View.{View}}, Looks.{zero_look}}
use Rattle.user_page.specs.Views.{Place, IsWriter, IsWatcher, IsNote, both_ends, writer_of, watcher_of, note_of, spent, informed}
use Rattle.user_page.{specs.Rule.{Laid, IsOnly, Begins, Kept}, proofs.Only.{only_stays, only_goes, only_more}}
use Rattle.perf_base.proofs.Prefixes.{prefix_self}
use Rattle.user_page.proofs.Keeping.{after, is_writer, is_watcher, laid_writer, laid_watcher, writer_keeps, watcher_keeps, note_keeps, note_comes}
use Rattle.user_page.proofs.Stepping.{laid_as}

nothing_begins : (looks : List Look) → IsPrefix [] looks
nothing_begins looks = (looks, refl)

module _ (id : ℕ) (v : View) where
  -- what each view knew, the writer's part knows
  parts_begin : (looks : List Look) → v.looks ≡ looks → (u : View) → Begins looks u → Begins v.looks u
  parts_begin looks e u b = subst (λ (l : List Look). Begins l u) (sym e) b

  pub may_part : v.writes ≡ true → v.watches ≡ true → Splits Kept id v (writer_of v) (watcher_of v)
  may_part writes watches s k at =
      let left : List View = set s.views id (writer_of v) in
      let is : v ≡ k.writer = is_writer s k id v at writes in
      let looks : v.looks ≡ k.writer.looks = ap (λ (u : View). u.looks) is in
      let both : Laid s.words s.homes v v = subst (λ (u : View). Laid s.words s.homes v u) (sym (is_watcher s k id v at watches)) (laid_writer s k id v at writes) in
      let known : Begins v.looks v = parts_begin k.writer.looks looks v (k.begins id v at) in record {
        writer = writer_of v;
        watcher = watcher_of v;
        one_writes = only_more (λ u. u.writes) left (writer_of v) (only_stays (λ u. u.writes) s.views k.writer k.one_writes id v at (writer_of v) writes writes) (watcher_of v) refl;
        one_watches = only_goes (λ u. u.watches) s.views k.watcher k.one_watches id v at (writer_of v) (watcher_of v) watches refl watches;
        laid = laid_as s.words s.homes v v both (writer_of v) (watcher_of v) refl refl refl refl refl refl;
        begins = λ seat u there.
            ⊎_elim
            (λ (was : get_elem? left seat ≡ some u).
            ⊎_elim (λ (t : (seat ≡ id) × (writer_of v ≡ u)). subst (λ (z : View). Begins v.looks z) t.1 known)
            (λ (t : (seat ≢ id) × (get_elem? s.views seat ≡ some u)). parts_begin k.writer.looks looks u (k.begins seat u t.1)) (at_set s.views id seat (writer_of v) u was))
            (λ (e : watcher_of v ≡ u). subst (λ (z : View). Begins v.looks z) e known) (at_snoc left (watcher_of v) u seat there);
      }

  pub may_note : Splits Kept id v v (note_of v)
  may_note s k at =
      let same : set s.views id v ≡ s.views = set_again s.views id v at in
      let more : Kept (record s { views = s.views ++ note_of v ∷ [] }) = note_comes s k (note_of v) (refl, refl) ((k.begins id v at).0, nothing_begins k.writer.looks) in
      subst (λ (l : List View). Kept (record s { views = l ++ note_of v ∷ [] })) (sym same) more

  module _ (other : ℕ) (w : View) where
    pub may_inform : IsWriter v ⊎ IsWatcher v → IsNote w → Joins Kept id v other w (informed v w.looks) spent
    may_inform role none s k at apart there =
        let both : View = informed v w.looks in
        let was : get_elem? s.views other ≡ some w = sym (set_else s.views id other both apart) ∙ there in
        let new : IsPrefix w.looks k.writer.looks = (k.begins other w was).0 in
        let first : Kept (after s s.words s.homes id both) =
        ⊎_elim
        (λ (writer : IsWriter v).
        let t : Laid s.words s.homes v k.watcher = laid_writer s k id v at writer.0 in
        writer_keeps s k id v at s.words s.homes both writer writer (laid_as s.words s.homes v k.watcher t both k.watcher refl refl refl refl refl refl) (prefix_self v.looks)
        (subst (λ (u : View). IsPrefix w.looks u.looks) (sym (is_writer s k id v at writer.0)) new))
        (λ (watcher : IsWatcher v).
        let t : Laid s.words s.homes k.writer v = laid_watcher s k id v at watcher.0 in
        watcher_keeps s k id v at s.words s.homes both watcher watcher (laid_as s.words s.homes k.writer v t k.writer both refl refl refl refl refl refl) ((k.begins id v at).0, new)) role in
        note_keeps (after s s.words s.homes id both) first other w there spent none (refl, refl) (nothing_begins first.writer.looks, nothing_begins first.writer.looks)

-- the one seat of a new page
first_seat : (seat : ℕ) (v : View) → get_elem? (both_ends ∷ []) seat ≡ some v → (seat ≡ 0) × (both_ends ≡ v)
first_seat zero v at = (refl, some-injective both_ends v at)
first_seat (suc seat) v at = absurd (some-ne-none v (sym at))

only_seat : (test : View → Bool) → test both_ends ≡ true → IsOnly test (both_ends ∷ []) both_ends
only_seat test is = record { seat = 0; there = refl; is = is; alone = λ other u there passes. (first_seat other u there).0 }

-- a new page: the place between the ends is the last one
pub starts : (a b c : Place) → Kept (opening (4 ∷ []) (a ∷ b ∷ c ∷ []) both_ends)
starts a b c = record {
  writer = both_ends;
  watcher = both_ends;
  one_writes = only_seat (λ u. u.writes) refl;
  one_watches = only_seat (λ u. u.watches) refl;
  laid = record {
    middle = 2;
    fresh = 0;
    word = refl;
    flag = omega arith;
    count = refl;
    within = (omega arith, omega arith, omega arith);
    apart = ((λ e. absurd (omega (arith, e))), (λ e. absurd (omega (arith, e))), (λ e. absurd (omega (arith, e))));
    home = (c, refl);
    writer_home = λ _. (a, refl);
    watcher_home = λ _. (b, refl);
    newest = λ e. absurd (omega (arith, e));
    all_seen = λ _. refl;
    rises = λ i j d before within. absurd (omega (arith, before, within));
  };
  begins = λ seat u there. subst (λ (z : View). Begins (zero_look ∷ []) z) (first_seat seat u there).1 (prefix_self (zero_look ∷ []), nothing_begins (zero_look ∷ []));
}
