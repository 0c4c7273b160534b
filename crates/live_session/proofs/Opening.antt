-- A head, and the session that it begins.
use Rattle.std.specs.Prelude.{◌≡◌, ℕ, List, [], ◌++◌, Option, Some, None, option_map}
use Rattle.std.proofs.Common.{refl, sym, ap, subst, ◌∙◌, inl, inr}
use Rattle.perf_io.specs.Outside.{SourceShows}
use Rattle.line_input.specs.{Ahead.{ahead}, Heads.{HasHead}}
use Rattle.live_session.specs.{Sessions.{IsNoSession, IsRefusedHead}, declared.status.Status.{Status}}
use Rattle.live_session.specs.declared.status.Status.TheVariants as status

nothing-waits : (left : Option (List ℕ)) → option_map (λ l. [] ++ l) left ≡ left
nothing-waits None = refl
nothing-waits (Some bytes) = refl

module _ {S : Type 0} where
  -- nothing was read before it
  pub first-head : (shows : SourceShows S) (before : S) (waiting text : List ℕ) (at : Option (List ℕ)) → waiting ≡ [] → HasHead (ahead shows waiting before) at text → HasHead (shows.left before) at text
  first-head shows before waiting text at none h =
      subst (λ (x : Option (List ℕ)). HasHead x at text) (ap (λ (w : List ℕ). ahead shows w before) none ∙ nothing-waits (shows.left before)) h

  -- a head that is refused
  pub no-session : (shows : SourceShows S) (s : Status) (before after : S) (waiting text : List ℕ) → HasHead (shows.left before) (ahead shows waiting after) text → IsRefusedHead text s → IsNoSession shows before after s
  no-session shows status.NoMemory before after waiting text h r = inr (waiting, text, h)
  no-session shows (status.BadHead line reason) before after waiting text h r = (waiting, text, h, r)
  no-session shows s before after waiting text h r = absurd r
