-- The printed text of a script stands for it.
use Rattle.std.{proofs.{Common.{◌≡◌, ◌≤◌, length, refl, subst, append_assoc}, lemmas.List.Quantifiers.{Any-push}}, specs.Prelude.{Any}}
use Rattle.perf_base.specs.{Scripts.{Scripted, IsScript, IsCovered}, Weight.{weight}}
use Rattle.script_spec.specs.{Texts.{StandsFor}, Printing.{printed_forms, printed}}
use Rattle.script_spec.specs.Forms as form
use Rattle.script_print.proofs.{Sound.{text_stands}, Run.{Run}}
use Rattle.script_print.proofs.Sections.{version_for, version_is, head_run, kinds_run, tasks_run, rings_run, readers_run, order_run, end_run}
use Rattle.script_print.proofs.Headed.{processors_run, tools_run}

-- the printed text of a script stands for it
pub printed_stands : (s : Scripted) → IsScript s → IsCovered s → weight s ≤ 65536 → StandsFor (printed s) s
unfolding printed printed_forms
printed_stands s h covered light =
    let processors = processors_run s h covered (rings_run s h covered (tasks_run s h covered (kinds_run s h covered (head_run s h covered)))) in
    let tools = tools_run s h covered processors.1 in
    let whole = end_run s h covered light (order_run s h covered (readers_run s h covered tools.1)) in
    let forms : _ ≡ printed_forms s = simp append_assoc in
    let all : Run (version_for (length s.pmus)) (printed_forms s) s processors.0 tools.0 10 = subst (λ fs. Run (version_for (length s.pmus)) fs s processors.0 tools.0 10) forms whole in
    let end : Any (λ f. f ≡ form.End) (printed_forms s) = subst (λ fs. Any (λ f. f ≡ form.End) fs) forms (Any-push (λ f. f ≡ form.End) _ form.End refl) in
    subst (StandsFor (printed s)) all.script (text_stands (version_for (length s.pmus)) (printed_forms s) all.sound (version_is s.cpus s.pmus _) end)
