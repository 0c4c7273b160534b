-- A session, turn after turn.
use Rattle.std.specs.Prelude.{◌≡◌, ℕ, ◌≤◌, List, [], ◌∷◌, ◌++◌, Option, Some, None, flat_map, length, take}
use Rattle.std.proofs.Common.{arith, refl, sym, ap, subst, ◌∙◌, inl, inr, append_assoc, append-nil}
use Rattle.std.proofs.lemmas.List.{length_push, Concat.{flat_map-append}}
use Rattle.perf_base.specs.{declared.reply.Reply.{Reply}, Scripts.{Scripted}}
use Rattle.perf_io.specs.{Counts.{count_after}, Outside.{Adds, IsAtEnd, Rose, SinkShows, SourceShows, Takes}, Wrote.{WroteFront}}
use Rattle.script_spec.specs.Forms.{Version}
use Rattle.given_lines.specs.declared.given.Given.{Given}
use Rattle.live_session.specs.Turns.{AreTurns, IsOne, IsSaid, Turn, answer_text, bytes_of, came_text}
use Rattle.live_session.specs.{Going.{GoesOn, HasGone, HaveCome}, Outcome.{HasWritten, flushes_after}, Sessions.{HasCome, HasNothing, HasStopped, IsFlushed, IsLiveAfter, IsOfSame, ahead_of}, Texts.{said_text}}
use Rattle.live_session.specs.declared.{session.Session.{Session}, status.Status.{Status}}
use Rattle.live_session.specs.declared.status.Status.TheVariants as status
use Rattle.perf_io.proofs.Wrote.{Rose-before, Adds-then, Adds-nothing}
use Rattle.line_input.proofs.Taking.{Takes-then}

-- ---- bytes

Takes-nothing : (a : Option (List ℕ)) → Takes a a []
Takes-nothing None = tt
Takes-nothing (Some a) = refl

-- ---- turns

no-turns : (s : Scripted) (v : Version) → AreTurns s v [] [] []
unfolding AreTurns
no-turns s v = refl

turns-push : (s : Scripted) (v : Version) (made mid now : List (Given × Reply)) (turns : List Turn) (t : Turn) → AreTurns s v made turns mid → IsOne t.came → IsSaid s v mid t.came t.said now
    → AreTurns s v made (turns ++ t ∷ []) now
unfolding AreTurns
turns-push s v made mid now [] t h one said = (now, one, subst (λ (m : List (Given × Reply)). IsSaid s v m t.came t.said now) h said, refl)
turns-push s v made mid now (u ∷ turns) t h one said = (h.0, h.1, h.2, turns-push s v h.0 mid now turns t h.3 one said)

came-push : (turns : List Turn) (t : Turn) → came_text (turns ++ t ∷ []) ≡ came_text turns ++ bytes_of t.came
came-push turns t = flat_map-append (λ (u : Turn). bytes_of u.came) turns (t ∷ []) ∙ ap (λ (x : List ℕ). came_text turns ++ x) (append-nil (bytes_of t.came))

answer-push : (turns : List Turn) (t : Turn) → answer_text (turns ++ t ∷ []) ≡ answer_text turns ++ said_text t.said
answer-push turns t = flat_map-append (λ (u : Turn). said_text u.said) turns (t ∷ []) ∙ ap (λ (x : List ℕ). answer_text turns ++ x) (append-nil (said_text t.said))

flushes-push : (calls : ℕ) (turns : List Turn) (t : Turn) → flushes_after calls (turns ++ t ∷ []) ≡ count_after (flushes_after calls turns) 1
flushes-push calls [] t = refl
flushes-push calls (u ∷ turns) t = flushes-push (count_after calls 1) turns t

module _ {S : Type 0} {source_shows : SourceShows S} where
  -- a line came after these turns
  pub come-more : (old mid new : Session) (before between after : S) (turns : List Turn) (made now : List (Given × Reply)) (t : Turn) → HaveCome source_shows old mid before between turns made []
      → IsOfSame old.machine mid.machine → HasCome source_shows mid new between after made t now → HaveCome source_shows old new before after (turns ++ t ∷ []) now []
  come-more old mid new before between after turns made now t h same c = record {
    answered = turns-push old.machine.script _ [] made now turns t h.answered c.one (rw (sym same.0, sym same.1) c.is);
    taken = subst (λ (x : List ℕ). Takes (ahead_of source_shows old before) (ahead_of source_shows new after) x) (text turns t)
        (Takes-then (ahead_of source_shows old before) (ahead_of source_shows mid between) (ahead_of source_shows new after) (came_text turns ++ []) (bytes_of t.came) h.taken c.taken);
  }
    where
      text : (turns : List Turn) (t : Turn) → (came_text turns ++ []) ++ bytes_of t.came ≡ came_text (turns ++ t ∷ []) ++ []
      text turns t = ap (λ (x : List ℕ). x ++ bytes_of t.came) (append-nil (came_text turns)) ∙ (sym (came-push turns t) ∙ sym (append-nil (came_text (turns ++ t ∷ []))))

  -- bytes of a line came that is not answered
  pub taken-more : (old mid new : Session) (before between after : S) (turns : List Turn) (made : List (Given × Reply)) (more : List ℕ) → HaveCome source_shows old mid before between turns made []
      → Takes (ahead_of source_shows mid between) (ahead_of source_shows new after) more → HaveCome source_shows old new before after turns made more
  taken-more old mid new before between after turns made more h t = record {
    answered = h.answered;
    taken = subst (λ (x : List ℕ). Takes (ahead_of source_shows old before) (ahead_of source_shows new after) x) (ap (λ (x : List ℕ). x ++ more) (append-nil (came_text turns)))
        (Takes-then (ahead_of source_shows old before) (ahead_of source_shows mid between) (ahead_of source_shows new after) (came_text turns ++ []) more h.taken t);
  }

module _ {K : Type 0} {shows : SinkShows K} where
  written-more : (sink mid written : K) (turns : List Turn) (t : Turn) → HasWritten shows sink mid turns → Adds (shows.held mid) (shows.held written) (said_text t.said) → IsFlushed shows mid written
      → HasWritten shows sink written (turns ++ t ∷ [])
  written-more sink mid written turns t h adds flushed = record {
    answers = rw (answer-push turns t) (Adds-then (shows.held sink) (shows.held mid) (shows.held written) (answer_text turns) (said_text t.said) h.answers adds);
    flushes = flushed.0 ∙ (ap (λ n. count_after n 1) h.flushes ∙ sym (flushes-push (shows.flushed sink).calls turns t));
    flushed = λ some. flushed.1;
  }

  told-same : (sink told written : K) (turns : List Turn) → written ≡ told → HasWritten shows sink told turns → HasWritten shows sink written turns
  told-same sink told written turns e h = subst (λ (k : K). HasWritten shows sink k turns) (sym e) h

module _ {S K : Type 0} {source_shows : SourceShows S} {shows : SinkShows K} where
  -- before the first turn
  pub begin : (s : Session) (source : S) (sink : K) → IsLiveAfter s.machine [] → GoesOn source_shows shows s s source source sink sink [] []
  begin s source sink live = record {
    come = record { answered = no-turns s.machine.script _; taken = Takes-nothing (ahead_of source_shows s source) };
    told = record { answers = Adds-nothing (shows.held sink); flushes = refl; flushed = λ some. absurd (omega (arith, some)) };
    live = live;
    same = (refl, refl);
    source_count = omega arith;
    sink_count = omega arith;
  }

  -- one turn more
  pub go-on : (old mid new : Session) (before between after : S) (sink told written : K) (turns : List Turn) (made now : List (Given × Reply)) (t : Turn)
      → GoesOn source_shows shows old mid before between sink told turns made → HasCome source_shows mid new between after made t now
      → Adds (shows.held told) (shows.held written) (said_text t.said) → IsFlushed shows told written
      → source_shows.faults between ≤ source_shows.faults after → shows.faults told ≤ shows.faults written
      → GoesOn source_shows shows old new before after sink written (turns ++ t ∷ []) now
  go-on old mid new before between after sink told written turns made now t h c adds flushed sources sinks = record {
    come = come-more old mid new before between after turns made now t h.come h.same c;
    told = written-more sink told written turns t h.told adds flushed;
    live = c.live;
    same = (c.same.0 ∙ h.same.0, c.same.1 ∙ h.same.1);
    source_count = omega (arith, h.source_count, sources);
    sink_count = omega (arith, h.sink_count, sinks);
  }

  -- no line was left
  pub ended : (old mid new : Session) (before between after : S) (sink told written : K) (turns : List Turn) (made : List (Given × Reply))
      → GoesOn source_shows shows old mid before between sink told turns made → HasNothing source_shows mid new between after → written ≡ told
      → HasGone source_shows shows status.Done old new before after sink written
  ended old mid new before between after sink told written turns made h nothing same = (
    turns,
    made,
    taken-more old mid new before between after turns made [] h.come nothing.taken,
    told-same sink told written turns same h.told,
    inl nothing.ended,
  )

  -- a turn stopped
  pub stopped : (s : Status) (old mid new : Session) (before between after : S) (sink told written : K) (turns : List Turn) (made : List (Given × Reply))
      → GoesOn source_shows shows old mid before between sink told turns made → HasStopped source_shows shows mid new between after told written made s
      → HasGone source_shows shows s old new before after sink written
  stopped status.ReadFault old mid new before between after sink told written turns made h stop = (
    turns,
    made,
    stop.0.1.0,
    stop.0.1.1,
    taken-more old mid new before between after turns made stop.0.1.0 h.come stop.0.1.2,
    told-same sink told written turns stop.1 h.told,
    Rose-before source_shows.last_fault (source_shows.faults before) (source_shows.faults between) (source_shows.faults after) h.source_count stop.0.0,
  )
  stopped status.WriteFault old mid new before between after sink told written turns made h stop = (
    turns,
    stop.0,
    stop.1,
    stop.3.1.0,
    come-more old mid new before between after turns made stop.1 stop.0 h.come h.same stop.2,
    stop.3.1.1,
    Adds-then (shows.held sink) (shows.held told) (shows.held written) (answer_text turns) (take stop.3.1.0 (said_text stop.0.said)) h.told.answers stop.3.1.2,
    Rose-before shows.last_fault (shows.faults sink) (shows.faults told) (shows.faults written) h.sink_count stop.3.0,
  )
  stopped s old mid new before between after sink told written turns made h stop = absurd stop.0
