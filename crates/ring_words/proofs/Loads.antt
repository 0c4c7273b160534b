-- An end's number of loads changes at loads of its own word alone.
use Rattle.std.proofs.Common.{◌≡◌, ◌≢◌, ◌↔◌, ℕ, ap, arith}
use Rattle.ring_words.specs.Views.{Holder}
use Rattle.ring_words.specs.Steps.{LoadsTail, LoadsHead, IsStep, tail_loaded, word_stored, head_stored, head_loaded, word_loaded, tail_stored, tail_checked, LoadsLaw}

abbrev tails : Holder → ℕ
tails m = m.0.tail_loads

abbrev heads : Holder → ℕ
heads m = m.0.head_loads

module _ (cell : ℕ) (m : Holder) (value : ℕ) (n : Holder) where
  tails_rise : LoadsTail cell m value n → tails n ≢ tails m
  tails_rise l same = absurd (omega (arith, same, ap tails l.view))

  heads_rise : LoadsHead cell m value n → heads n ≢ heads m
  heads_rise l same = absurd (omega (arith, same, ap heads l.view))

  tails_stay : tails n ≡ tails m → (tails n ≢ tails m) ↔ LoadsTail cell m value n
  tails_stay same = (λ moved. absurd (moved same), tails_rise)

  heads_stay : heads n ≡ heads m → (heads n ≢ heads m) ↔ LoadsHead cell m value n
  heads_stay same = (λ moved. absurd (moved same), heads_rise)

  tails_of : IsStep cell m value n → (tails n ≢ tails m) ↔ LoadsTail cell m value n
  tails_of (tail_loaded l) = (λ _. l, tails_rise)
  tails_of (word_stored l) = tails_stay (ap tails l.view)
  tails_of (head_stored l) = tails_stay (ap tails l.view)
  tails_of (head_loaded l) = tails_stay (ap tails l.view)
  tails_of (word_loaded l) = tails_stay (ap tails l.view)
  tails_of (tail_stored l) = tails_stay (ap tails l.view)
  tails_of (tail_checked l) = tails_stay (ap tails l.view)

  heads_of : IsStep cell m value n → (heads n ≢ heads m) ↔ LoadsHead cell m value n
  heads_of (tail_loaded l) = heads_stay (ap heads l.view)
  heads_of (word_stored l) = heads_stay (ap heads l.view)
  heads_of (head_stored l) = heads_stay (ap heads l.view)
  heads_of (head_loaded l) = (λ _. l, heads_rise)
  heads_of (word_loaded l) = heads_stay (ap heads l.view)
  heads_of (tail_stored l) = heads_stay (ap heads l.view)
  heads_of (tail_checked l) = heads_stay (ap heads l.view)

pub loads_law : LoadsLaw
loads_law cell m value n s = (tails_of cell m value n s, heads_of cell m value n s)
