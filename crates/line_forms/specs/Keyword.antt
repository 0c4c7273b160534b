-- inner
-- The first words of lines. This project's own profile.
use Rattle.std.specs.{Prelude.{ℕ, List, [], ◌∷◌, codes, Option, Some, None, if◌then◌else◌}, Str.{bytes_eq}}
use Rattle.line_forms.specs.declared.keyword.Keyword.{Keyword}
use Rattle.line_forms.specs.declared.keyword.Keyword.TheVariants as keyword

-- the keyword that a word is, by a table
abbrev pub looked_up : List (List ℕ × Keyword) → List ℕ → Option Keyword
looked_up [] word = None
looked_up (entry ∷ table) word = if bytes_eq word entry.0 then Some entry.1 else looked_up table word

abbrev pub keywords : List (List ℕ × Keyword)
keywords =
    (codes "work", keyword.Work) ∷ (codes "read", keyword.Read) ∷ (codes "switch", keyword.Switch) ∷ (codes "tick", keyword.Tick)
    ∷ (codes "open", keyword.Open) ∷ (codes "enable", keyword.Enable) ∷ (codes "disable", keyword.Disable) ∷ (codes "reset", keyword.Reset)
    ∷ (codes "fork", keyword.Fork) ∷ (codes "exit", keyword.Exit) ∷ (codes "close", keyword.Close) ∷ (codes "order", keyword.Order)
    ∷ (codes "period", keyword.Period) ∷ (codes "tool", keyword.Tool) ∷ (codes "processor", keyword.Processor) ∷ (codes "task", keyword.Task)
    ∷ (codes "kind", keyword.Kind) ∷ (codes "ring", keyword.Ring) ∷ (codes "map", keyword.Map) ∷ (codes "output", keyword.Output)
    ∷ (codes "why", keyword.Why) ∷ (codes "seats", keyword.Seats) ∷ (codes "reader", keyword.Reader) ∷ (codes "pmu", keyword.Pmu)
    ∷ (codes "machine", keyword.Machine) ∷ (codes "perf", keyword.Perf) ∷ (codes "end", keyword.End) ∷ []

abbrev pub keyword_of : List ℕ → Option Keyword
keyword_of word = looked_up keywords word
