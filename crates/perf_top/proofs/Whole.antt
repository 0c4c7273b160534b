-- Where no count of faults rises, all that can be done is done, or memory runs out.
use Rattle.std.specs.Prelude.{◌≡◌, ◌⊎◌, ◌<◌, ◌≤◌, ℕ, zero, suc, List, [], ◌∷◌, ◌++◌, length, take, drop, IfSome, Option, Some, None, slice_get}
use Rattle.std.proofs.{Common.{append-nil, ap, arith, inl, inr, refl, subst, sym, ◌∙◌}, lemmas.Option.{none-some, same_Some}}
use Rattle.perf_base.specs.{declared.{numbers.RingNo.{RingNo}, reasons.SReason.{SReason}}, Scripts.{Scripted}}
use Rattle.perf_base.specs.declared.acts.Act.TheVariants as act
use Rattle.perf_io.specs.Outside.{IsAtEnd, Rose, SinkShows, SourceShows, Takes}
use Rattle.stage_spec.specs.Order.{IsComplete, IsLawfulSeen}
use Rattle.ring_spec.specs.Rings.{IsLawfulOrder, sizes_in}
use Rattle.script_spec.specs.Texts.{IsRefused, StandsFor}
use Rattle.script_read.proofs.OneAnswer.{stands_one, stands_or_refused}
use Rattle.perf_ask.specs.{Asking.{DoesOrder}, Reading.{Gave, HasOpenOrder, IsRefusal}}
use Rattle.perf_top.specs.Outcome.{CanBeDone, HasBadLook, IsAnswer, IsDone, IsEnding, IsGiven}
use Rattle.perf_ask.{specs.declared.{asked.Asked.{Asked}, status.Status.{Status}}, proofs.Refusing.{reads-script}}
use Rattle.perf_ask.specs.declared.asked.Asked.TheVariants as asked
use Rattle.perf_ask.specs.declared.status.Status.TheVariants as status

-- what was read to the end is all that there was
pub given-is : (left : List ℕ) (after : Option (List ℕ)) (text : List ℕ) → Takes (Some left) after text → IsAtEnd after → text ≡ left
given-is left None text t e = absurd t
given-is left (Some rest) text t e = sym (t ∙ (ap (λ r. text ++ r) e ∙ append-nil text))

pub gave-is : (before after : Option (List ℕ)) (left text : List ℕ) → before ≡ Some left → Gave before after text → text ≡ left
gave-is before after left text is gave = given-is left after text (subst (λ (b : Option (List ℕ)). Takes b after text) is gave.taken) gave.ended

-- a text that is too long is not short
too-long : (before : Option (List ℕ)) (left : List ℕ) → before ≡ Some left → length left ≤ 4194304 → IfSome before (λ bytes. 4194304 < length bytes) → ⊥
too-long before left is short long =
    let more : 4194304 < length left = subst (λ (b : Option (List ℕ)). IfSome b (λ bytes. 4194304 < length bytes)) is long in
    omega (arith, more, short)

-- a script whose order is complete is not refused
not-refused : (a : Asked) (text : List ℕ) (s : Scripted) (line : ℕ) (reason : SReason) → StandsFor text s → (DoesOrder a → IsComplete s s.order × IsLawfulOrder s s.order)
    → IsRefused text line reason ⊎ (DoesOrder a × HasOpenOrder text line reason) → ⊥
not-refused a text s line reason stands good (inl refused) = stands_or_refused text s line reason stands refused
not-refused a text s line reason stands good (inr (order, left_open)) =
    left_open.incomplete (subst (λ (t : Scripted). IsComplete t t.order) (stands_one text s left_open.script stands left_open.stands) (good order).0)

-- an element of a list stands between those before it and those behind
at-place : {X : Type 0} (xs : List X) (i : ℕ) (x : X) → slice_get xs i ≡ Some x → xs ≡ take i xs ++ (x ∷ drop (suc i) xs)
at-place [] i x e = absurd (none-some x e)
at-place (y ∷ ys) zero x e = ap (λ z. z ∷ ys) (same_Some y x e)
at-place (y ∷ ys) (suc i) x e = ap (λ zs. y ∷ zs) (at-place ys i x e)

-- an order all of whose looks are lawful has no bad look
no-bad-look : (s : Scripted) (index : ℕ) (ring : RingNo) (last head given : ℕ) → IsLawfulOrder s s.order → HasBadLook s index ring last head given → ⊥
no-bad-look s index ring last head given lawful bad =
    bad.unlawful (subst (λ n. IsLawfulSeen (sizes_in s (take index s.order) ring) n given) (sym bad.seen_last)
    (lawful (take index s.order) (drop (suc index) s.order) (act.Seen ring given) (at-place s.order index (act.Seen ring given) bad.look)))

-- nothing that can be done is refused
whole-refused : {S : Type 0} (shows : SourceShows S) (a : Asked) (answer : Status) (before after : S)
    → IsRefusal shows a answer before after → CanBeDone a (shows.left before) → (Rose shows.last_fault (shows.faults before) (shows.faults after) → ⊥) → IsDone a answer
whole-refused shows a status.NoMemory before after h can none = inr (h.0, refl)
whole-refused shows a status.ReadFault before after h can none = absurd (none h.1)
whole-refused shows a status.TooLong before after h can none = let w = can h.0 in absurd (too-long (shows.left before) w.0 w.2 w.3 h.1)
whole-refused shows a (status.BadScript line reason) before after h can none =
    let w = can h.0 in
    let same : h.1.0 ≡ w.0 = gave-is (shows.left before) (shows.left after) w.0 h.1.0 w.2 h.1.1 in
    absurd (not-refused a w.0 w.1 line reason w.4 w.5 (subst (λ t. IsRefused t line reason ⊎ (DoesOrder a × HasOpenOrder t line reason)) same h.1.2))
whole-refused shows a other before after h can none = absurd h

-- the text of a script whose own order is done
given-text : {S : Type 0} (left : S → Option (List ℕ)) (a : Asked) (before after : S) (s : Scripted) → DoesOrder a → IsGiven left a before after s
    → (text : List ℕ) × Gave (left before) (left after) text × StandsFor text s
given-text left asked.Replay before after s order g = (g.0, g.1, g.2)
given-text left asked.Stat before after s order g = (g.0, g.1, g.2)
given-text left a before after s order g = absurd order

-- and it ends whole
whole-ended : {S K : Type 0} (left : S → Option (List ℕ)) (shows : SinkShows K) (a : Asked) (s : Scripted) (answer : Status)
    (source read : S) (sink written : K) → IsGiven left a source read s → IsEnding shows a s answer sink written → CanBeDone a (left source)
    → (Rose shows.last_fault (shows.faults sink) (shows.faults written) → ⊥) → IsDone a answer
whole-ended left shows a s status.Done source read sink written given h can none = inl refl
whole-ended left shows a s status.WriteFault source read sink written given h can none = absurd (none h.2.0)
whole-ended left shows a s (status.BadOrder index ring seen head place) source read sink written given h can none =
    let w = can (reads-script a h.0) in
    let g = given-text left a source read s h.0 given in
    let text : g.0 ≡ w.0 = gave-is (left source) (left read) w.0 g.0 w.2 g.1 in
    let same : s ≡ w.1 = stands_one w.0 s w.1 (subst (λ t. StandsFor t s) text g.2) w.4 in
    absurd (no-bad-look w.1 index ring seen head place (w.5 h.0).1 (subst (λ (t : Scripted). HasBadLook t index ring seen head place) same h.1))
whole-ended left shows a s other source read sink written given h can none = absurd h

pub whole : {S K : Type 0} (source_shows : SourceShows S) (shows : SinkShows K)
    (a : Asked) (answer : Status) (source read : S) (sink written : K) → IsAnswer source_shows shows a answer source read sink written
    → CanBeDone a (source_shows.left source) → (Rose source_shows.last_fault (source_shows.faults source) (source_shows.faults read) → ⊥) → (Rose shows.last_fault (shows.faults sink) (shows.faults written) → ⊥) → IsDone a answer
whole source_shows shows a answer source read sink written (inl h) can calm_source calm_sink =
    whole-refused source_shows a answer source read h.0 can calm_source
whole source_shows shows a answer source read sink written (inr h) can calm_source calm_sink =
    whole-ended source_shows.left shows a h.0 answer source read sink written h.1 h.2 can calm_sink

-- a fault is answered only where a count rose
pub rose-reading : {S K : Type 0} (source_shows : SourceShows S) (shows : SinkShows K)
    (a : Asked) (source read : S) (sink written : K) → IsAnswer source_shows shows a status.ReadFault source read sink written
    → Rose source_shows.last_fault (source_shows.faults source) (source_shows.faults read)
rose-reading source_shows shows a source read sink written (inl h) = h.0.1
rose-reading source_shows shows a source read sink written (inr h) = absurd h.2

pub rose-writing : {S K : Type 0} (source_shows : SourceShows S) (shows : SinkShows K)
    (a : Asked) (source read : S) (sink written : K) → IsAnswer source_shows shows a status.WriteFault source read sink written
    → Rose shows.last_fault (shows.faults sink) (shows.faults written)
rose-writing source_shows shows a source read sink written (inl h) = absurd h.0
rose-writing source_shows shows a source read sink written (inr h) = h.2.2.0

-- a count that stays the same and has no last value has not risen
pub stays : (n : ℕ) → Rose None n n → ⊥
stays n (inl more) = omega (arith, more)
stays n (inr last) = none-some n last

-- what was answered of a source and a sink as they were before
pub from-start : {S K : Type 0} (source_shows : SourceShows S) (shows : SinkShows K)
    (a : Asked) (answer : Status) (source start read : S) (sink begun written : K) → start ≡ source → begun ≡ sink
    → IsAnswer source_shows shows a answer start read begun written → IsAnswer source_shows shows a answer source read sink written
from-start source_shows shows a answer source start read sink begun written same_source same_sink h =
    subst (λ s. IsAnswer source_shows shows a answer s read sink written) same_source (subst (λ k. IsAnswer source_shows shows a answer start read k written) same_sink h)
