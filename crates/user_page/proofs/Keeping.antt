-- How the rule goes from one state to the next, where one view changes.
use Rattle.std.proofs.Common.{◌≡◌, ◌≢◌, ℕ, true, List, [], ◌∷◌, ◌++◌, set, sym, subst, ⊎_elim}
use mathlib.Core.{Option.{Option, some}, List.{IsPrefix}}
use lib.ListN.{get_elem?}
use Rattle.atomic_table.{specs.Table.{State}, proofs.Lists.{at_set, at_snoc}}
use Rattle.user_page.specs.{declared.{look.Look.{Look}, view.View.{View}}, Views.{Place, IsWriter, IsWatcher, IsNote}, Rule.{Laid, Begins, Kept}}
use Rattle.perf_base.proofs.Prefixes.{prefix_self, prefix_through}
use Rattle.user_page.proofs.{Only.{only_is, only_stays, only_other, only_more}}

abbrev pub Table : Type 0
Table = State Place View

-- the table after a step of the seat
abbrev pub after : Table → List ℕ → List (Option Place) → ℕ → View → Table
after s words homes id w = record { words = words; homes = homes; views = set s.views id w }

-- the table with one more seat
abbrev pub grown : Table → ℕ → View → View → Table
grown s id v n = record { words = s.words; homes = s.homes; views = set s.views id v ++ n ∷ [] }

pub begins_still : (xs ys : List Look) (v : View) → IsPrefix xs ys → Begins xs v → Begins ys v
begins_still xs ys v grows b = (prefix_through v.looks xs ys b.0 grows, prefix_through v.note xs ys b.1 grows)

module _ (s : Table) (k : Kept s) (id : ℕ) (v : View) (at : get_elem? s.views id ≡ some v) where
  pub is_writer : v.writes ≡ true → v ≡ k.writer
  is_writer = only_is (λ u. u.writes) s.views k.writer k.one_writes id v at

  pub is_watcher : v.watches ≡ true → v ≡ k.watcher
  is_watcher = only_is (λ u. u.watches) s.views k.watcher k.one_watches id v at

  pub laid_writer : v.writes ≡ true → Laid s.words s.homes v k.watcher
  laid_writer writes = subst (λ (u : View). Laid s.words s.homes u k.watcher) (sym (is_writer writes)) k.laid

  pub laid_watcher : v.watches ≡ true → Laid s.words s.homes k.writer v
  laid_watcher watches = subst (λ (u : View). Laid s.words s.homes k.writer u) (sym (is_watcher watches)) k.laid

  -- what a view knows, after one view has changed
  views_begin : (looks : List Look) (w : View) → IsPrefix k.writer.looks looks → Begins looks w → (seat : ℕ) (u : View) → get_elem? (set s.views id w) seat ≡ some u → Begins looks u
  views_begin looks w grows new seat u there =
      ⊎_elim (λ (t : (seat ≡ id) × (w ≡ u)). subst (λ (z : View). Begins looks z) t.1 new)
      (λ (t : (seat ≢ id) × (get_elem? s.views seat ≡ some u)). begins_still k.writer.looks looks u grows (k.begins seat u t.1)) (at_set s.views id seat w u there)

  pub writer_keeps : (words : List ℕ) (homes : List (Option Place)) (w : View) → IsWriter v → IsWriter w
      → Laid words homes w k.watcher → IsPrefix v.looks w.looks → IsPrefix w.note w.looks → Kept (after s words homes id w)
  writer_keeps words homes w role role' laid grows note = record {
    writer = w;
    watcher = k.watcher;
    one_writes = only_stays (λ u. u.writes) s.views k.writer k.one_writes id v at w role.0 role'.0;
    one_watches = only_other (λ u. u.watches) s.views k.watcher k.one_watches id v at w role.1 role'.1;
    laid = laid;
    begins = views_begin w.looks w (subst (λ (z : View). IsPrefix z.looks w.looks) (is_writer role.0) grows) (prefix_self w.looks, note);
  }

  pub watcher_keeps : (words : List ℕ) (homes : List (Option Place)) (w : View) → IsWatcher v → IsWatcher w
      → Laid words homes k.writer w → Begins k.writer.looks w → Kept (after s words homes id w)
  watcher_keeps words homes w role role' laid new = record {
    writer = k.writer;
    watcher = w;
    one_writes = only_other (λ u. u.writes) s.views k.writer k.one_writes id v at w role.1 role'.1;
    one_watches = only_stays (λ u. u.watches) s.views k.watcher k.one_watches id v at w role.0 role'.0;
    laid = laid;
    begins = views_begin k.writer.looks w (prefix_self k.writer.looks) new;
  }

  pub note_keeps : (w : View) → IsNote v → IsNote w → Begins k.writer.looks w → Kept (after s s.words s.homes id w)
  note_keeps w was none new = record {
    writer = k.writer;
    watcher = k.watcher;
    one_writes = only_other (λ u. u.writes) s.views k.writer k.one_writes id v at w was.0 none.0;
    one_watches = only_other (λ u. u.watches) s.views k.watcher k.one_watches id v at w was.1 none.1;
    laid = k.laid;
    begins = views_begin k.writer.looks w (prefix_self k.writer.looks) new;
  }

-- one more seat with a note
pub note_comes : (s : Table) (k : Kept s) (n : View) → IsNote n → Begins k.writer.looks n → Kept (record s { views = s.views ++ n ∷ [] })
note_comes s k n none new = record {
  writer = k.writer;
  watcher = k.watcher;
  one_writes = only_more (λ u. u.writes) s.views k.writer k.one_writes n none.0;
  one_watches = only_more (λ u. u.watches) s.views k.watcher k.one_watches n none.1;
  laid = k.laid;
  begins = λ seat u there.
      ⊎_elim (λ (was : get_elem? s.views seat ≡ some u). k.begins seat u was) (λ (e : n ≡ u). subst (λ (z : View). Begins k.writer.looks z) e new) (at_snoc s.views n u seat there);
}
