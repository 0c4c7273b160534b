-- What is found for a line that came.
use Rattle.std.{specs.Prelude.{◌≡◌, ℕ, ◌<◌, ◌≤◌, List, [], ◌∷◌, ◌++◌, Option, Some, None, length}, proofs.Common.{refl, sym, ap, subst, inl, inr}}
use Rattle.perf_base.specs.declared.{reasons.SReason.{SReason}, reply.Reply.{Reply}}
use Rattle.perf_base.specs.declared.reasons.SReason.TheVariants as reason
use Rattle.perf_io.specs.Outside.{SourceShows, Takes}
use Rattle.line_forms.specs.Forms.{version_of as seen_version}
use Rattle.line_input.specs.{LineEnds.{HasLine, HasNoLF}, declared.lines.LineEnd.{LineEnd}}
use Rattle.line_input.specs.declared.lines.LineEnd.TheVariants as line_end
use Rattle.given_lines.specs.declared.given.Given.{Given}
use Rattle.live_session.specs.Turns.{Cut, IsAnswered, Turn, Whole}
use Rattle.live_session.specs.Sessions.{HasCome, IsHeard, IsLiveAfter, IsOfSame, ahead_of}
use Rattle.live_session.specs.declared.{live_machine.LiveMachine.{LiveMachine}, said.Said.{Said}, session.Session.{Session}}
use Rattle.live_session.specs.declared.said.Said.TheVariants as said

module _ {S : Type 0} {shows : SourceShows S} where
  pub whole-line : (old new : Session) (before after : S) (made now : List (Given × Reply)) (text : List ℕ) (says : Said) → HasLine (ahead_of shows old before) (ahead_of shows new after) text line_end.Ended
      → IsAnswered old.machine.script (seen_version old.machine.version) made text says now → IsLiveAfter new.machine now → IsOfSame old.machine new.machine
      → IsHeard shows old new before after made (Some says)
  whole-line old new before after made now text says h answered live same =
      (record { came = Whole text; said = says }, now, refl, record { one = h.2; taken = h.0; is = inl (h.1, answered); live = live; same = same })

  pub long-line : (old new : Session) (before after : S) (made : List (Given × Reply)) (text : List ℕ) → HasLine (ahead_of shows old before) (ahead_of shows new after) text line_end.Long
      → IsLiveAfter old.machine made → new.machine ≡ old.machine → IsHeard shows old new before after made (Some (said.Bad reason.Form))
  long-line old new before after made text h live same = (
    record { came = Whole h.0; said = said.Bad reason.Form },
    made,
    refl,
    record {
      one = h.3;
      taken = h.1;
      is = inr (h.2, (refl, refl));
      live = subst (λ (m : LiveMachine). IsLiveAfter m made) (sym same) live;
      same = (ap (λ (m : LiveMachine). m.script) same, ap (λ (m : LiveMachine). m.version) same);
    },
  )

  pub cut-line : (old new : Session) (before after : S) (made : List (Given × Reply)) (text : List ℕ) → HasLine (ahead_of shows old before) (ahead_of shows new after) text line_end.Cut
      → IsLiveAfter old.machine made → new.machine ≡ old.machine → IsHeard shows old new before after made (Some (said.Bad reason.End))
  cut-line old new before after made text h live same = (
    record { came = Cut h.0; said = said.Bad reason.End },
    made,
    refl,
    record {
      one = (h.3, h.2);
      taken = h.1;
      is = (refl, refl);
      live = subst (λ (m : LiveMachine). IsLiveAfter m made) (sym same) live;
      same = (ap (λ (m : LiveMachine). m.script) same, ap (λ (m : LiveMachine). m.version) same);
    },
  )
