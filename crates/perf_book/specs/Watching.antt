-- inner
-- A run that a watcher of a page sees: what is published of it, as it goes on. This project's own profile.
use Rattle.std.specs.Prelude.{◌≡◌, ℕ, ◌+◌, true, List, [], ◌∷◌, ◌++◌, Option, Some, option_map}
use mathlib.Core.List.{IsPrefix}
use Rattle.perf_base.specs.{declared.{acts.Act.{Act}, numbers.EventNo.{EventNo}}, Scripts.{Scripted}}
use Rattle.user_page.specs.{declared.look.Look.{Look}, Looks.{PageName, WatcherEnd, last_look}}
use Rattle.report_spec.specs.Published.{published_looks}
use Rattle.ring_laws.specs.Growing.{does_line}
use Rattle.perf_book.specs.declared.publishing.Publisher.{Publisher}

-- the page on which a run is published and the event whose sums are, if there is one, and the page alone
abbrev pub watched_by : Option Publisher → Option (PageName × EventNo)
watched_by publisher = option_map (λ p. (p.writer.page, p.event)) publisher

abbrev pub page_of : Option (PageName × EventNo) → Option PageName
page_of watched = option_map (λ w. w.0) watched

-- just the looks of an order are published
abbrev pub HasPublished : Scripted → List Act → Publisher → Type 0
HasPublished s order p = p.writer.published ≡ published_looks s order p.event

-- Just the looks of all acts but the last are published, and the last is a line.
pub record IsBehind (s : Scripted) (order : List Act) (p : Publisher) : Type 0 where
  pub front : List Act
  pub last : Act
  pub line : does_line last ≡ true
  pub order_is : order ≡ front ++ last ∷ []
  pub published : HasPublished s front p

-- A watcher has made some looks, each a step on its page's word, and this is the last.
pub record HasLooked (looks : ℕ) (before after : WatcherEnd) (look : Look) : Type 0 where
  pub end : after ≡ record before { seen = after.seen; steps = before.steps + looks }
  pub prefix : IsPrefix before.seen after.seen
  pub last : last_look after.seen ≡ Some look

-- The look is one of those published, and it does not stand before the last of those that were seen before.
pub record IsSeenOf (before published : List Look) (look : Look) : Type 0 where
  pub seen : List Look
  pub later : IsPrefix before seen
  pub front : IsPrefix seen published
  pub last : last_look seen ≡ Some look
