-- A session as a whole, from its head on.
use Rattle.std.specs.Prelude.{◌≡◌, ℕ, ◌≤◌, ◌⊎◌, List, [], ◌++◌, Option}
use Rattle.std.proofs.Common.{arith, refl, sym, ap, subst, inl, inr, append_assoc}
use Rattle.perf_base.specs.declared.reply.Reply.{Reply}
use Rattle.perf_io.specs.Outside.{IsAtEnd, Rose, SinkShows, SourceShows, Takes}
use Rattle.script_spec.specs.{Forms.{Version}, Lines.{lines_of}, Texts.{version_of}}
use Rattle.line_forms.specs.Forms.{version_of as seen_version}
use Rattle.line_input.specs.{Ahead.{ahead}, Heads.{HasHead, HasNoEndLine, IsHeadText}}
use Rattle.given_lines.specs.declared.given.Given.{Given}
use Rattle.live_session.specs.{Going.{HasGone, HaveCome}, Outcome.{HasTaken, HasTalked}, Sessions.{HasOpened, ahead_of}, Turns.{AreTurns, Turn, came_text}}
use Rattle.live_session.specs.declared.{session.Session.{Session}, status.Status.{Status}}
use Rattle.live_session.specs.declared.status.Status.TheVariants as status
use Rattle.perf_io.proofs.Wrote.{Rose-before}
use Rattle.line_input.proofs.Taking.{Takes-then}

end-line : (head : List ℕ) (at : Option (List ℕ)) → IsHeadText head ⊎ (HasNoEndLine head × IsAtEnd at) → IsHeadText head ⊎ HasNoEndLine head
end-line head at (inl h) = inl h
end-line head at (inr h) = inr h.0

module _ {S : Type 0} {source_shows : SourceShows S} where
  taken : (before mid after : S) (old new : Session) (turns : List Turn) (made : List (Given × Reply)) (more : List ℕ) → HasOpened source_shows before mid old
      → HaveCome source_shows old new mid after turns made more → HasTaken source_shows before after new.input turns more
  taken before mid after old new turns made more o h = record {
    head = o.text;
    script = old.machine.script;
    made = made;
    up_to_end = end-line o.text (ahead_of source_shows old mid) o.come.2;
    declares = o.opened.head;
    answered = subst (λ (v : Version). AreTurns old.machine.script v [] turns made) o.opened.version h.answered;
    taken = subst (λ (x : List ℕ). Takes (source_shows.left before) (ahead_of source_shows new after) x) (sym (append_assoc o.text (came_text turns) more))
        (Takes-then (source_shows.left before) (ahead_of source_shows old mid) (ahead_of source_shows new after) o.text (came_text turns ++ more) o.come.1 h.taken);
  }

module _ {S K : Type 0} {source_shows : SourceShows S} where
  pub talked : (shows : SinkShows K) (s : Status) (before mid after : S) (old new : Session) (sink written : K) → HasOpened source_shows before mid old → source_shows.faults before ≤ source_shows.faults mid
      → HasGone source_shows shows s old new mid after sink written → HasTalked source_shows shows s before after sink written
  talked shows status.Done before mid after old new sink written o count h = (h.0, new.input, taken before mid after old new h.0 h.1 [] o h.2, h.3, h.4)
  talked shows status.ReadFault before mid after old new sink written o count h = (
    h.0,
    new.input,
    h.2,
    h.3,
    taken before mid after old new h.0 h.1 h.2 o h.4,
    h.5,
    Rose-before source_shows.last_fault (source_shows.faults before) (source_shows.faults mid) (source_shows.faults after) count h.6,
  )
  talked shows status.WriteFault before mid after old new sink written o count h = (h.0, h.1, new.input, h.3, taken before mid after old new _ h.2 [] o h.4, h.5, h.6, h.7)
  talked shows s before mid after old new sink written o count h = absurd h
