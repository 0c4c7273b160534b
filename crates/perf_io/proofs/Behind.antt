-- What was written to a sink through a room.
use Rattle.std.proofs.{Common.{◌≡◌, ℕ, ◌≤◌, List, [], length, take, Option, Result, Ok, Err, inl, inr, arith, sym, subst}, Math.Seq.{take-length}}
use Rattle.std.{proofs.lemmas.Bool.{false≢true}, specs.{Prelude.{OnOk, OnErr}, Result.{IsErr}}}
use Rattle.perf_io.specs.{Outside.{Adds, Rose, SinkShows}, Wrote.{Wrote}, declared.outside.Failed.{Failed}}
use Rattle.perf_io.{specs.Rooms.{with_room, Grew}, proofs.Rooms.{added_behind, front_of_front}}
use Rattle.perf_io.proofs.Wrote.{Rose-before}

-- the room was empty before
from_start : (start a both : Option (List ℕ)) (before text : List ℕ) → a ≡ start → before ≡ [] → Adds (with_room start a before) both text → Adds (with_room start start []) both text
from_start start a both before text e z p =
    let q : Adds (with_room start start before) both text = subst (λ o. Adds (with_room start o before) both text) e p in
    subst (λ xs. Adds (with_room start start xs) both text) z q

-- a front was added
front_at : (start a b : Option (List ℕ)) (before room text : List ℕ) (n : ℕ) → a ≡ start → before ≡ [] → Grew start b → n ≤ length text
    → Adds (with_room start a before) (with_room start b room) (take n text) → (m : ℕ) × (m ≤ length text) × Adds a b (take m text)
front_at start a b before room text n e z g l p =
    let f = front_of_front start b room text n (from_start start a (with_room start b room) before (take n text) e z p) g l in
    (f.0, f.1, subst (λ o. Adds o b (take f.0 text)) (sym e) f.2)

-- the whole was added, where nothing waits
whole_at : (start a b : Option (List ℕ)) (before room text : List ℕ) → a ≡ start → before ≡ [] → Grew start b → room ≡ []
    → Adds (with_room start a before) (with_room start b room) text → Adds a b text
whole_at start a b before room text e z g none p =
    let q : Adds (with_room start start []) (with_room start b room) text = from_start start a (with_room start b room) before text e z p in
    let r : Adds (with_room start start []) (with_room start b []) text = subst (λ xs. Adds (with_room start start []) (with_room start b xs) text) none q in
    subst (λ o. Adds o b text) (sym e) (added_behind start b text r g)

module _ {K : Type 0} {shows : SinkShows K} where
  -- a write into the room failed
  pub wrote_part : {a b : K} {r : Result (Unit {0}) Failed} (start : Option (List ℕ)) (before room text : List ℕ) (n : ℕ)
      → shows.held a ≡ start → before ≡ [] → Grew start (shows.held b) → shows.faults a ≤ shows.faults b → IsErr r → Rose shows.last_fault (shows.faults a) (shows.faults b)
      → n ≤ length text → Adds (with_room start (shows.held a) before) (with_room start (shows.held b) room) (take n text) → Wrote shows a b r text
  wrote_part {r = Ok u} start before room text n e z g k x w l p = absurd (false≢true x)
  wrote_part {a = a} {b = b} {r = Err d} start before room text n e z g k x w l p =
      record { count = k; written = (w, front_at start (shows.held a) (shows.held b) before room text n e z g l p) }

  -- the whole text came into the room, and what waited there was sent, or a front of it
  pub wrote_whole : {a b : K} {r : Result (Unit {0}) Failed} (m : K) (start : Option (List ℕ)) (before between room text : List ℕ)
      → shows.held a ≡ start → before ≡ [] → Grew start (shows.held b) → shows.faults a ≤ shows.faults m → shows.faults m ≤ shows.faults b
      → OnErr r (Rose shows.last_fault (shows.faults m) (shows.faults b)) → OnOk r (room ≡ [])
      → Adds (with_room start (shows.held a) before) (with_room start (shows.held m) between) text
      → with_room start (shows.held b) room ≡ with_room start (shows.held m) between → Wrote shows a b r text
  wrote_whole {a = a} {b = b} {r = Ok u} m start before between room text e z g j k w s p h =
      let q : Adds (with_room start (shows.held a) before) (with_room start (shows.held b) room) text = subst (λ o. Adds (with_room start (shows.held a) before) o text) (sym h) p in
      record { count = omega (arith, j, k); written = whole_at start (shows.held a) (shows.held b) before room text e z g s q }
  wrote_whole {a = a} {b = b} {r = Err d} m start before between room text e z g j k w s p h =
      let q : Adds (with_room start (shows.held a) before) (with_room start (shows.held b) room) text = subst (λ o. Adds (with_room start (shows.held a) before) o text) (sym h) p in
      let t : Adds (with_room start (shows.held a) before) (with_room start (shows.held b) room) (take (length text) text) =
      subst (Adds (with_room start (shows.held a) before) (with_room start (shows.held b) room)) (sym (take-length text)) q in
      record {
        count = omega (arith, j, k);
        written = (Rose-before shows.last_fault (shows.faults a) (shows.faults m) (shows.faults b) j w, front_at start (shows.held a) (shows.held b) before room text (length text) e z g (omega arith) t);
      }
