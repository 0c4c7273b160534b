-- inner
-- What the words of a line write, and the parts of a printed text. This project's own profile.
use Rattle.std.specs.{Prelude.{ℕ, List, [], ◌∷◌, ◌++◌, length, map, flat_map, codes, decimal, ◌==◌, if◌then◌else◌}, List.{join_with_byte}}
use Rattle.perf_base.specs.{declared.acts.Act.{Act}, Scripts.{Scripted}}
use Rattle.script_spec.specs.Forms.{Form, hexadecimal, flags_text}
use Rattle.script_spec.specs.Printing.{head_forms, kind_form, task_form, ring_form, reader_form, order_forms, all_processor_forms, all_tool_forms, line_text}
use Rattle.script_spec.specs.Forms as form
use Rattle.script_print.specs.declared.words.Word.{Word}
use Rattle.script_print.specs.declared.words.Word.TheVariants as word

-- no word for what is missing
abbrev pub word_texts : Word → List (List ℕ)
word_texts word.Missing = []
word_texts (word.Plain text) = text.now ∷ []
word_texts (word.Decimal key n) = (key.now ++ decimal n) ∷ []
word_texts (word.Hexadecimal key n) = (key.now ++ hexadecimal n) ∷ []
word_texts (word.Named key name) = (key.now ++ name) ∷ []
word_texts (word.Flags flags) = (codes "flags=" ++ flags_text flags.0) ∷ []

abbrev pub all_word_texts : List Word → List (List ℕ)
all_word_texts words = flat_map word_texts words

-- words in a row, a space before each
abbrev pub spaced : List (List ℕ) → List ℕ
spaced words = flat_map (λ w. 32 ∷ w) words

-- a kind of a work line with a space before it, and nothing where it does not occur
abbrev pub hit_piece : List ℕ → ℕ → List ℕ
hit_piece name times = if times == 0 then [] else (32 ∷ (name ++ codes "=" ++ decimal times))

-- ---- parts

abbrev pub text : List Form → List ℕ
text forms = flat_map line_text forms

-- a header with its lines; nothing where there are none
abbrev pub section_text : List ℕ → ℕ → List Form → List ℕ
section_text header n [] = []
section_text header n (f ∷ forms) = (join_with_byte 32 (header ∷ decimal n ∷ []) ++ 10 ∷ []) ++ text (f ∷ forms)

-- the version, the machine, the PMUs, kinds, tasks and rings
unfoldable pub declared_text : Scripted → List ℕ
declared_text s = text (head_forms s.cpus s.pmus) ++ (text (map (kind_form (length s.pmus)) s.kinds) ++ (text (map task_form s.tasks) ++ text (map ring_form s.rings)))

-- processors, tools and readers
unfoldable pub lines_text : Scripted → List ℕ
lines_text s = text (all_processor_forms s) ++ (text (all_tool_forms s) ++ text (map reader_form s.readers))

-- the order and the end
unfoldable pub last_text : List Act → List ℕ
last_text acts = text (order_forms acts) ++ line_text form.End
