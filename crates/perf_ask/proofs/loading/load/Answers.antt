use Rattle.std.{specs.Prelude.{◌≡◌, ◌⊎◌, ℕ, List}, proofs.Common.{subst, sym}}
use Rattle.perf_base.specs.declared.reasons.SReason.{SReason}
use Rattle.script_spec.specs.Texts.{IsRefused}
use Rattle.perf_ask.specs.{Asking.{ReadsScript}, Reading.{Gave, IsRefusal}, declared.{asked.Asked.{Asked}, status.Status.{Status}}}
use Rattle.perf_ask.proofs.Refusing.{if-err, no-script}
use Rattle.perf_ask.specs.declared.status.Status.TheVariants as status
use Rattle.perf_ask.proofs.loading.load.Goals as goal

pub returns-in-Ok-clause-refused : goal.returns-in-Ok-clause-refused
returns-in-Ok-clause-refused g c =
    let left = g.S.Source.shows.left in
    let read = c.in-Ok.ensures.ok in
    let whole : Gave (left c.args.source.now) (left c.read_text.new.source) c.in-Ok.text.items = record { short = read.0; taken = read.1; ended = read.2 } in
    let gave : Gave (left c.args.source.now) (left c.read_text.new.source) c.deref.result.now =
    subst (λ (t : List ℕ). Gave (left c.args.source.now) (left c.read_text.new.source) t) (sym c.deref.ensures.value) whole in
    if-err (λ (why : Status). (why ≡ status.NoMemory) ⊎ ((line : ℕ) × (reason : SReason) × (why ≡ status.BadScript line reason) × IsRefused c.deref.result.now line reason))
    (λ (why : Status). (a : Asked) → ReadsScript a → IsRefusal g.S.Source.shows a why c.args.source.now c.read_text.new.source)
    (λ why h a reads. no-script g.S.Source.shows a why c.deref.result.now c.args.source.now c.read_text.new.source reads gave h)
    c.script_of.result c.script_of.ensures.refused
