-- inner
-- What a seat with the turn does with a call.
use Rattle.std.specs.Prelude.{◌≡◌, ◌<◌, ◌∷◌, ◌++◌, [], length, List}
use Rattle.shared_object.specs.{Histories.{most_calls}, Views.{all_seen, with_own}, declared.{view.View.{View}, answer.Answer.{Answer}}}
use Rattle.shared_object.specs.declared.answer.Answer.TheVariants.{Done, Busy, Full}

-- v is the view before, whose note is the whole history, and w the view after
module _ {K C R : Type 0} (legal : List (C × R) → Type 0) (call : C) (v : View K C R) where
  -- the call is made and stored where the history has room, and else the history is full (this project's own profile)
  abbrev pub Serves : Answer R → View K C R → Type 0
  Serves (Done reply) w = (length v.note < most_calls) × (w ≡ with_own (all_seen v v.note) (call, reply)) × legal (v.note ++ (call, reply) ∷ [])
  Serves (Busy turn) w = ⊥
  Serves Full w = (length v.note ≡ most_calls) × (w ≡ all_seen v v.note) × legal v.note
