use Rattle.std.proofs.{Common.{ℕ, List, [], sym, ap, ◌∙◌, get_or}, Math.ListN.{get_or-map}}
use Rattle.perf_base.specs.Flags.{flag_table}
use Rattle.script_print.proofs.flags.name_of.Goals as goal

-- the word of an entry of a table, and the word at a place of one; none past its end
abbrev word_in : List ℕ × ℕ → List ℕ
word_in entry = entry.0

abbrev word_at : List (List ℕ × ℕ) → ℕ → List ℕ
word_at words n = (get_or words n ([], 0)).0

pub returns : goal.returns
returns c = c.as_bytes.ensures.value
    ∙ (ap word_in (sym (get_or-map _ c.table.result.now c.from.result _)) ∙ (ap (λ words. word_at words c.from.result) c.table.ensures
    ∙ ap (word_at flag_table) c.from.ensures))
