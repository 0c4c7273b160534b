-- Why nothing is done of what is asked for.
use Rattle.std.{specs.Prelude.{◌≡◌, ◌⊎◌, ℕ, List, length, IfErr, Result, Ok, Err}, proofs.Common.{inl, inr, refl, subst, sym}}
use Rattle.perf_base.specs.{declared.reasons.SReason.{SReason}, Scripts.{Scripted}}
use Rattle.perf_base.specs.declared.reasons.SReason.TheVariants as s_reason
use Rattle.script_spec.specs.{Lines.{lines_of}, Texts.{IsRefused, StandsFor}}
use Rattle.stage_spec.specs.Order.{IsComplete}
use Rattle.perf_ask.specs.{Asking.{DoesOrder, ReadsScript, TakesMemory}, Reading.{Gave, IsRefusal}}
use Rattle.perf_ask.specs.declared.{asked.Asked.{Asked}, status.Status.{Status}}
use Rattle.perf_ask.specs.declared.asked.Asked.TheVariants as asked
use Rattle.perf_ask.specs.declared.status.Status.TheVariants as status
use Rattle.perf_io.specs.Outside.{SourceShows}

-- what reads a script takes memory, and what does a script's own order reads one
pub takes-memory : (a : Asked) → ReadsScript a → TakesMemory a
takes-memory (asked.Attr bytes) h = h
takes-memory a h = tt

pub reads-script : (a : Asked) → DoesOrder a → ReadsScript a
reads-script asked.Run h = tt
reads-script (asked.Watch w) h = tt
reads-script a h = h

pub no-memory-behind : {S : Type 0} (shows : SourceShows S) (a : Asked) (text : List ℕ) (before after : S) → ReadsScript a
    → Gave (shows.left before) (shows.left after) text → IsRefusal shows a status.NoMemory before after
no-memory-behind shows a text before after reads gave = (takes-memory a reads, inr (reads, (text, gave)))

-- what was read is no script, or memory ran out
pub no-script : {S : Type 0} (shows : SourceShows S) (a : Asked) (why : Status) (text : List ℕ) (before after : S) → ReadsScript a
    → Gave (shows.left before) (shows.left after) text → (why ≡ status.NoMemory) ⊎ ((line : ℕ) × (reason : SReason) × (why ≡ status.BadScript line reason) × IsRefused text line reason)
    → IsRefusal shows a why before after
no-script shows a why text before after reads gave (inl memory) =
    subst (λ (x : Status). IsRefusal shows a x before after) (sym memory) (no-memory-behind shows a text before after reads gave)
no-script shows a why text before after reads gave (inr (line, reason, is, refused)) =
    subst (λ (x : Status). IsRefusal shows a x before after) (sym is) (reads, (text, gave, inl refused))

-- the order of the script that was read is not complete, or memory ran out
pub no-order : {S : Type 0} (shows : SourceShows S) (a : Asked) (why : Status) (text : List ℕ) (s : Scripted) (line : ℕ) (before after : S)
    → DoesOrder a → Gave (shows.left before) (shows.left after) text → StandsFor text s → line ≡ length (lines_of text)
    → (why ≡ status.NoMemory) ⊎ ((IsComplete s s.order → ⊥) × (why ≡ status.BadScript line s_reason.Order)) → IsRefusal shows a why before after
no-order shows a why text s line before after order gave stands end (inl memory) =
    subst (λ (x : Status). IsRefusal shows a x before after) (sym memory) (no-memory-behind shows a text before after (reads-script a order) gave)
no-order shows a why text s line before after order gave stands end (inr (open_order, is)) =
    subst (λ (x : Status). IsRefusal shows a x before after) (sym is)
    (reads-script a order, (text, gave, inr (order, record { script = s; stands = stands; incomplete = open_order; at_end = end; is_order = refl })))

-- what holds of an error holds of what follows from it
pub if-err : {X E : Type 0} (P Q : E → Type 0) → ((e : E) → P e → Q e) → (r : Result X E) → IfErr r P → IfErr r Q
if-err P Q k (Ok x) h = h
if-err P Q k (Err e) h = k e h
