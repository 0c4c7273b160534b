-- What one more step does to a ring, and that all rings together get what the steps send.
use Rattle.std.specs.Prelude.{◌≡◌, ◌==◌, Bool, true, false, List, [], ◌∷◌, ◌++◌, map, filter, fold, cond, if◌then◌else◌}
use Rattle.std.proofs.{Common.{refl, sym, ap, ◌∙◌, append_assoc, append-nil}, lemmas.List.Sums.{fold-append}}
use Rattle.perf_base.proofs.FlatMaps.{flat_map_after-push}
use Rattle.perf_base.specs.declared.numbers.RingNo.{RingNo}
use Rattle.stage_spec.specs.{Hardware.{Hardware}, Stage.{Stage}, History.{Step, CpuStep, ToolStep, SeenStep}}
use Rattle.ring_spec.specs.Sending.{SentSample, sent_after, sent_from}
use Rattle.ring_spec.specs.Account.{RingEvent, Sends, Looks, account, empty_account, ring_step, is_sent}
use Rattle.ring_spec.specs.Rings.{is_to, sends_to, looks_at, events_by, events_after, events_from, events_of, account_of, AccountLaw, SendsLaw}

events_from-push : (hw : Hardware) (s : Stage) (ring : RingNo) (before steps : List Step) (x : Step)
    → events_from hw s ring before (steps ++ x ∷ []) ≡ events_from hw s ring before steps ++ events_after hw s ring (before ++ steps) x
unfolding events_from
events_from-push hw s ring before steps x = flat_map_after-push (events_after hw s ring) before steps x

-- the events of a ring over one step more
pub events_of-push : (hw : Hardware) (s : Stage) (steps : List Step) (x : Step) (ring : RingNo)
    → events_of hw s (steps ++ x ∷ []) ring ≡ events_of hw s steps ring ++ events_after hw s ring steps x
unfolding events_of
events_of-push hw s steps x ring = events_from-push hw s ring [] steps x

pub account_of-push : AccountLaw
unfolding account_of account
account_of-push hw s steps x ring = ap (fold (ring_step ring.1) empty_account) (events_of-push hw s steps x ring.0)
    ∙ fold-append (ring_step ring.1) empty_account (events_of hw s steps ring.0) (events_after hw s ring.0 steps x)

-- all rings together
filter-both : {X : Type 0} (p : X → Bool) (xs ys : List X) → filter p (xs ++ ys) ≡ filter p xs ++ filter p ys
filter-both p [] ys = refl
filter-both p (x ∷ xs) ys = one (p x) (filter-both p xs ys)
  where
    one : (b : Bool) → filter p (xs ++ ys) ≡ filter p xs ++ filter p ys → cond b (x ∷ filter p (xs ++ ys)) (filter p (xs ++ ys)) ≡ cond b (x ∷ filter p xs) (filter p xs) ++ filter p ys
    one true e = ap (λ zs. x ∷ zs) e
    one false e = e

looks-none : (ring : RingNo) (x : Step) → filter is_sent (looks_at ring x) ≡ []
looks-none ring (CpuStep cpu line) = refl
looks-none ring (ToolStep line) = refl
looks-none ring (SeenStep other place) = one (other.0 == ring.0)
  where
    one : (b : Bool) → filter is_sent (if b then Looks place ∷ [] else []) ≡ []
    one true = refl
    one false = refl

sends-all : (sents : List (RingNo × SentSample)) → filter is_sent (map (λ sent. Sends sent.1) sents) ≡ map (λ sent. Sends sent.1) sents
sends-all [] = refl
sends-all (sent ∷ sents) = ap (λ es. Sends sent.1 ∷ es) (sends-all sents)

sends_to-append : (ring : RingNo) (sents more : List (RingNo × SentSample)) → sends_to ring (sents ++ more) ≡ sends_to ring sents ++ sends_to ring more
sends_to-append ring [] more = refl
sends_to-append ring (sent ∷ sents) more = one (is_to ring sent) (sends_to-append ring sents more)
  where
    one : (b : Bool) → sends_to ring (sents ++ more) ≡ sends_to ring sents ++ sends_to ring more
        → map (λ s. Sends s.1) (cond b (sent ∷ filter (is_to ring) (sents ++ more)) (filter (is_to ring) (sents ++ more)))
        ≡ map (λ s. Sends s.1) (cond b (sent ∷ filter (is_to ring) sents) (filter (is_to ring) sents)) ++ sends_to ring more
    one true e = ap (λ es. Sends sent.1 ∷ es) e
    one false e = e

sends_by : (x : Step) (sents : List (RingNo × SentSample)) (ring : RingNo) → filter is_sent (events_by x sents ring) ≡ sends_to ring sents
sends_by x sents ring = filter-both is_sent (looks_at ring x) (sends_to ring sents) ∙ rw (looks-none ring x) (sends-all (filter (is_to ring) sents))

sends_from : (hw : Hardware) (s : Stage) (before steps : List Step) (ring : RingNo) → filter is_sent (events_from hw s ring before steps) ≡ sends_to ring (sent_from hw s before steps)
unfolding events_from sent_from
sends_from hw s before [] ring = refl
sends_from hw s before (x ∷ steps) ring =
    filter-both is_sent (events_after hw s ring before x) (events_from hw s ring (before ++ x ∷ []) steps)
    ∙ (rw (sends_by x (sent_after hw s before x) ring, sends_from hw s (before ++ x ∷ []) steps ring)
    (sym (sends_to-append ring (sent_after hw s before x) (sent_from hw s (before ++ x ∷ []) steps))))

pub sends_law : SendsLaw
unfolding events_of
sends_law hw s steps ring = sends_from hw s [] steps ring
