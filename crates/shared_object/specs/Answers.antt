-- inner
-- What the calls of a shared object answer, and what the pass has then seen.
use Rattle.std.specs.Prelude.{◌≡◌, ◌≢◌, ℕ, ◌<◌, ◌≤◌, All, List, [], ◌∷◌, ◌++◌, length}
use mathlib.Core.List.{IsPrefix}
use Rattle.shared_object.specs.{Histories.{PassView, Closed, most_calls}, declared.answer.Answer.{Answer, TheVariants.{Done, Busy, Full}}}

-- p is the pass before the call, which closes the object
module _ {K C R : Type 0} (legal : List (C × R) → Type 0) (p : PassView K C R) where
  -- What closing gives: the history begins with all that the pass had seen, and the pass has found the turn free, and
  -- is else as it was: it made no call for it and parted none (this project's own profile).
  pub record IsClosed (closed : Closed K C R) : Type 0 where
    pub prefix : IsPrefix p.seen closed.calls
    pub legal_calls : legal closed.calls
    pub room : length closed.calls ≤ most_calls
    pub pass : closed.pass ≡ record p { found = p.found ++ 0 ∷ [] }

-- p is the pass before the call, and q the pass after it
module _ {K C R : Type 0} (legal : List (C × R) → Type 0) (p : PassView K C R) (call : C) (q : PassView K C R) where
  -- the call was made: its place is behind a history that begins with all that the pass had seen (this project's own
  -- profile)
  pub record IsDone (reply : R) (words : List ℕ) : Type 0 where
    pub history : List (C × R)
    pub prefix : IsPrefix p.seen history
    pub room : length history < most_calls
    pub pass : q ≡ record p { seen = history ++ (call, reply) ∷ []; own = p.own ++ length history ∷ []; found = p.found ++ words }
    pub legal_seen : legal (history ++ (call, reply) ∷ [])

  -- the history is full, and the pass has seen it all (this project's own profile)
  pub record IsFull (words : List ℕ) : Type 0 where
    pub history : List (C × R)
    pub prefix : IsPrefix p.seen history
    pub full : length history ≡ most_calls
    pub pass : q ≡ record p { seen = history; found = p.found ++ words }
    pub legal_seen : legal history

  -- what a single try answers: Busy where it found a word other than 0, else Full where the history is full, else Done
  -- (this project's own profile)
  abbrev pub Tries : Answer R → Type 0
  Tries (Done reply) = IsDone reply (0 ∷ [])
  Tries (Busy turn) = (turn ≢ 0) × (q ≡ record p { found = p.found ++ turn ∷ [] })
  Tries Full = IsFull (0 ∷ [])

  -- what a call answers that tries again while it finds a word other than 0 (this project's own profile)
  abbrev pub Calls : Answer R → Type 0
  Calls (Done reply) = (others : List ℕ) × All (λ word. word ≢ 0) others × IsDone reply (others ++ 0 ∷ [])
  Calls (Busy turn) = ⊥
  Calls Full = (others : List ℕ) × All (λ word. word ≢ 0) others × IsFull (others ++ 0 ∷ [])
