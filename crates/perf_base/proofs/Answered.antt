-- Answers that come one by one: each says the same when others have come.
use Rattle.std.specs.Prelude.{◌≡◌, ℕ, ◌+◌, ◌<◌, ◌≤◌, All, List, [], ◌∷◌, ◌++◌, Some, get_or, length, map, slice_get}
use Rattle.std.proofs.Common.{arith, refl, sym, ap, subst, ◌∙◌, length-append}
use Rattle.std.proofs.{lemmas.{List.{map-append, get_or_append_left, length-map, Elements.{All-head, All-map, All-push, All-tail}}, Option.{slice_get-get_or}}, Math.Seq.{get_or-append_seam}}
use Rattle.perf_base.specs.declared.{answers.{Entry.{Entry}, Short.{Short}}, reasons.Reason.{Reason}, reply.{Answer.{Answer}, Reply.{Reply}}}
use Rattle.perf_base.specs.declared.answers.Short.TheVariants as short
use Rattle.perf_base.specs.declared.reasons.Reason.TheVariants as reason
use Rattle.perf_base.specs.declared.reply.Reply.TheVariants as reply
use Rattle.perf_base.specs.Answered.{AreKept, IsShort, answer_of, reasons_in, reply_of, short_of, told_in}

module _ (reasons : List Reason) (told : List Reply) where
  -- an entry's place stays one, and says the same
  stays : (more : List Reason) (others : List Reply) (s : Short) → IsShort reasons told s → IsShort (reasons ++ more) (told ++ others) s
  stays more others short.Ok h = tt
  stays more others (short.Refused place) h = omega (arith, h, length-append reasons more)
  stays more others (short.Told place) h = omega (arith, h, length-append told others)

  says : (more : List Reason) (others : List Reply) (s : Short) → IsShort reasons told s → reply_of (reasons ++ more) (told ++ others) s ≡ reply_of reasons told s
  says more others short.Ok h = refl
  says more others (short.Refused place) h = ap reply.Refused (get_or_append_left reasons more reason.BadPeriod place h)
  says more others (short.Told place) h = get_or_append_left told others reply.Ok place h

  -- the entry that comes next says its reply
  next : (r : Reply) → IsShort (reasons ++ reasons_in r) (told ++ told_in r) (short_of reasons told r)
  next reply.Ok = tt
  next (reply.Refused why) = omega (arith, length-append reasons (why ∷ []))
  next (reply.Read words) = omega (arith, length-append told (reply.Read words ∷ []))
  next (reply.Why why) = omega (arith, length-append told (reply.Why why ∷ []))
  next (reply.Seats seats) = omega (arith, length-append told (reply.Seats seats ∷ []))

  next-says : (r : Reply) → reply_of (reasons ++ reasons_in r) (told ++ told_in r) (short_of reasons told r) ≡ r
  next-says reply.Ok = refl
  next-says (reply.Refused why) = ap reply.Refused (get_or-append_seam reasons why [] reason.BadPeriod)
  next-says (reply.Read words) = get_or-append_seam told (reply.Read words) [] reply.Ok
  next-says (reply.Why why) = get_or-append_seam told (reply.Why why) [] reply.Ok
  next-says (reply.Seats seats) = get_or-append_seam told (reply.Seats seats) [] reply.Ok

  same : (more : List Reason) (others : List Reply) (es : List Entry) → All (λ e. IsShort reasons told e.short) es
      → map (answer_of (reasons ++ more) (told ++ others)) es ≡ map (answer_of reasons told) es
  same more others [] h = refl
  same more others (e ∷ es) h =
      rw (says more others e.short (All-head (λ x. IsShort reasons told x.short) e es h), same more others es (All-tail (λ x. IsShort reasons told x.short) e es h)) refl

  still : (more : List Reason) (others : List Reply) (es : List Entry) → All (λ e. IsShort reasons told e.short) es → All (λ e. IsShort (reasons ++ more) (told ++ others) e.short) es
  still more others es h k d below = stays more others (get_or es k d).short (h k d below)

  -- a reply is one reason or one thing told at most
  few-added : (r : Reply) → (length (reasons_in r) ≤ 1) × (length (told_in r) ≤ 1)
  few-added reply.Ok = (omega arith, omega arith)
  few-added (reply.Refused why) = (omega arith, omega arith)
  few-added (reply.Read words) = (omega arith, omega arith)
  few-added (reply.Why why) = (omega arith, omega arith)
  few-added (reply.Seats seats) = (omega arith, omega arith)

  -- one answer more is kept
  pub kept-more : (es : List Entry) (room : ℕ) (e : Entry) (r : Reply) → AreKept reasons told es room → e.short ≡ short_of reasons told r → length es < room
      → AreKept (reasons ++ reasons_in r) (told ++ told_in r) (es ++ e ∷ []) room
  kept-more es room e r h is l = record {
    places = All-push (λ x. IsShort (reasons ++ reasons_in r) (told ++ told_in r) x.short) es e (still (reasons_in r) (told_in r) es h.places)
        (subst (IsShort (reasons ++ reasons_in r) (told ++ told_in r)) (sym is) (next r));
    reasons_few = omega (arith, h.reasons_few, (few-added r).0, length-append reasons (reasons_in r), length-append es (e ∷ []));
    told_few = omega (arith, h.told_few, (few-added r).1, length-append told (told_in r), length-append es (e ∷ []));
    within = omega (arith, l, length-append es (e ∷ []));
  }

  -- it says its reply, and the others say theirs
  pub answers-more : (es : List Entry) (room : ℕ) (a : Answer) (e : Entry) → AreKept reasons told es room → e.actor ≡ a.actor → e.number ≡ a.number → e.short ≡ short_of reasons told a.reply
      → map (answer_of (reasons ++ reasons_in a.reply) (told ++ told_in a.reply)) (es ++ e ∷ []) ≡ map (answer_of reasons told) es ++ a ∷ []
  answers-more es room a e h of numbered is =
      let says-it : reply_of (reasons ++ reasons_in a.reply) (told ++ told_in a.reply) e.short ≡ a.reply =
      ap (reply_of (reasons ++ reasons_in a.reply) (told ++ told_in a.reply)) is ∙ next-says a.reply in
      let one : answer_of (reasons ++ reasons_in a.reply) (told ++ told_in a.reply) e ≡ a = rw (of, numbered, says-it) refl in
      map-append (answer_of (reasons ++ reasons_in a.reply) (told ++ told_in a.reply)) es (e ∷ [])
      ∙ rw (same (reasons_in a.reply) (told_in a.reply) es h.places, one) refl

-- none are kept
pub kept-none : (room : ℕ) → AreKept [] [] [] room
kept-none room = record { places = λ k d below. absurd (omega arith); reasons_few = omega arith; told_few = omega arith; within = omega arith }

pub ruleset answered = (kept-none, length-map)
