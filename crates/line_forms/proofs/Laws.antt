-- A whole line: what is read is of the form, and what is of the form is read. So a line is of at most one form.
use Rattle.std.proofs.Common.{◌≡◌, ℕ, Bool, List, [], ◌∷◌, Option, Some, None, option_map, inl, inr, refl, sym, ap, subst, ◌∙◌}
use Rattle.std.{proofs.lemmas.{Option.{same_Some, none-some}, Bool.{cases_Bool}}, specs.{Prelude.{codes, decimal}, Str.{bytes_eq}}}
use Rattle.script_spec.specs.{Acts.{act_text}, Forms.{Version, CpuForm, ToolForm, Form, IsOfForm}}
use Rattle.script_spec.specs.Forms as form
use Rattle.line_forms.specs.{declared.keyword.Keyword.{Keyword}, Keyword.{looked_up, keywords, keyword_of}}
use Rattle.line_forms.specs.{Shapes.{at_end, one_number, two_numbers, slot_and_group}, Lists.{each_word}, Acts.{act_in, order_at}}
use Rattle.line_forms.specs.{Declarations.{end_at}, CpuForms.{switch_at, work_at, tick_at, fork_at, exit_at}}
use Rattle.line_forms.specs.ToolForms.{open_at, enable_at, disable_at, reset_at, period_at, read_at, map_at, output_at, close_at, why_at, seats_at}
use Rattle.line_forms.{specs.Reading.{body_at, form_at}, proofs.Singles.{bind_some, bytes_eq-true}}
use Rattle.line_forms.proofs.Sequences.{each-takes, each-again, act-takes, act-again}
use Rattle.line_forms.proofs.Steps.{end_then, next_then, more, one-takes, one-again, two-takes, two-again}
use Rattle.line_forms.proofs.Grammar.{IsSpelled, IsCpuSpelled, perf-takes, perf-again, machine-takes, machine-again, machine_of_pmus-takes, machine_of_pmus-again, pmu-takes, pmu-again, kind-takes, kind-again, kind_of_pmu-takes, kind_of_pmu-again, ring-takes, ring-again, reader-takes, reader-again, switch-takes, switch-again, work-takes, work-again}
use Rattle.line_forms.proofs.Tools.{IsToolSpelled, open-takes, open-again_kind, open-again_attr, slot_and_group-takes, slot_and_group-again, read-takes, read-again}
use Rattle.line_forms.specs.declared.keyword.Keyword.TheVariants as keyword

-- ---- first words

keyword_text : Keyword → List ℕ
keyword_text keyword.Perf = codes "perf"
keyword_text keyword.Machine = codes "machine"
keyword_text keyword.Pmu = codes "pmu"
keyword_text keyword.Kind = codes "kind"
keyword_text keyword.Task = codes "task"
keyword_text keyword.Ring = codes "ring"
keyword_text keyword.Processor = codes "processor"
keyword_text keyword.Switch = codes "switch"
keyword_text keyword.Work = codes "work"
keyword_text keyword.Tick = codes "tick"
keyword_text keyword.Fork = codes "fork"
keyword_text keyword.Exit = codes "exit"
keyword_text keyword.Tool = codes "tool"
keyword_text keyword.Open = codes "open"
keyword_text keyword.Enable = codes "enable"
keyword_text keyword.Disable = codes "disable"
keyword_text keyword.Reset = codes "reset"
keyword_text keyword.Period = codes "period"
keyword_text keyword.Read = codes "read"
keyword_text keyword.Map = codes "map"
keyword_text keyword.Output = codes "output"
keyword_text keyword.Close = codes "close"
keyword_text keyword.Why = codes "why"
keyword_text keyword.Seats = codes "seats"
keyword_text keyword.Reader = codes "reader"
keyword_text keyword.Order = codes "order"
keyword_text keyword.End = codes "end"

-- a table's words are those of its keywords
abbrev IsRight : List (List ℕ × Keyword) → Type 0
IsRight [] = Unit {0}
IsRight (entry ∷ table) = (entry.0 ≡ keyword_text entry.1) × IsRight table

looked-takes : (table : List (List ℕ × Keyword)) (word : List ℕ) (k : Keyword) → IsRight table → looked_up table word ≡ Some k → word ≡ keyword_text k
looked-takes [] word k right e = absurd (none-some k e)
looked-takes (entry ∷ table) word k right e = elim (cases_Bool (bytes_eq word entry.0)) [
  | inl t ↦ bytes_eq-true word entry.0 t ∙ (right.0 ∙ ap keyword_text (same_Some entry.1 k (rw t at e)))
  | inr f ↦ looked-takes table word k right.1 (rw f at e)
]

keywords_right : IsRight keywords
unfolding keyword_text
keywords_right = (refl, (refl, (refl, (refl, (refl, (refl, (refl, (refl, (refl, (refl, (refl, (refl, (refl, (refl, (refl, (refl, (refl, (refl, (refl, (refl, (refl, (refl, (refl, (refl, (refl, (refl, (refl, tt)))))))))))))))))))))))))))

keyword-takes : (word : List ℕ) (k : Keyword) → keyword_of word ≡ Some k → word ≡ keyword_text k
keyword-takes word k e = looked-takes keywords word k keywords_right e

-- ---- the words behind them

-- a form made of what was read
record Made {A B : Type 0} (make : A → B) (read : Option A) (y : B) : Type 0 where
  x : A
  was : read ≡ Some x
  is : make x ≡ y

made_of : {A B : Type 0} (make : A → B) (read : Option A) (y : B) → option_map make read ≡ Some y → Made make read y
made_of make (Some x) y e = record { x = x; was = refl; is = same_Some (make x) y e }
made_of make None y e = absurd (none-some y e)

-- no word behind the first
alone-takes : {A : Type 0} (IsSpelling : A → Type 0) (words_of : A → List (List ℕ)) (made : A) (word : List ℕ) (ws : List (List ℕ)) (f : A)
    → IsSpelling made → words_of made ≡ word ∷ [] → at_end ws made ≡ Some f → IsSpelling f × (word ∷ ws ≡ words_of f)
alone-takes IsSpelling words_of made word ws f is words e =
    let z = end_then ws (λ _. Some made) f e in
    subst (λ g. IsSpelling g × (word ∷ ws ≡ words_of g)) (same_Some made f z.then) (is, more word ws [] z.words ∙ sym words)

-- one number behind the first word, two numbers, and a slot and its group
single-takes : {A : Type 0} (IsSpelling : A → Type 0) (words_of : A → List (List ℕ)) (make : ℕ → A) (word : List ℕ) (ws : List (List ℕ)) (f : A)
    → ((n : ℕ) → form.IsNumber n → IsSpelling (make n)) → ((n : ℕ) → words_of (make n) ≡ word ∷ decimal n ∷ [])
    → option_map make (one_number ws) ≡ Some f → IsSpelling f × (word ∷ ws ≡ words_of f)
single-takes IsSpelling words_of make word ws f fits words e =
    let m = made_of make (one_number ws) f e in
    let t = one-takes ws m.x m.was in
    subst (λ g. IsSpelling g × (word ∷ ws ≡ words_of g)) m.is (fits m.x t.0, more word ws _ t.1 ∙ sym (words m.x))

paired-takes : (make : ℕ → ℕ → ToolForm) (word : List ℕ) (ws : List (List ℕ)) (f : ToolForm)
    → ((n m : ℕ) → form.IsNumber n → form.IsNumber m → form.IsToolSpelling (make n m)) → ((n m : ℕ) → form.tool_words (make n m) ≡ word ∷ decimal n ∷ decimal m ∷ [])
    → option_map (λ x. make x.0 x.1) (two_numbers ws) ≡ Some f → IsToolSpelled word ws f
paired-takes make word ws f fits words e =
    let m = made_of (λ (x : ℕ × ℕ). make x.0 x.1) (two_numbers ws) f e in
    let t = two-takes ws m.x m.was in
    subst (IsToolSpelled word ws) m.is (fits m.x.0 m.x.1 t.0 t.1, more word ws _ t.2 ∙ sym (words m.x.0 m.x.1))

command-takes : (make : ℕ → Bool → ToolForm) (word : List ℕ) (ws : List (List ℕ)) (f : ToolForm)
    → ((n : ℕ) (g : Bool) → form.IsNumber n → form.IsToolSpelling (make n g)) → ((n : ℕ) (g : Bool) → form.tool_words (make n g) ≡ word ∷ decimal n ∷ form.group_words g)
    → option_map (λ x. make x.0 x.1) (slot_and_group ws) ≡ Some f → IsToolSpelled word ws f
command-takes make word ws f fits words e =
    let m = made_of (λ (x : ℕ × Bool). make x.0 x.1) (slot_and_group ws) f e in
    let t = slot_and_group-takes ws m.x m.was in
    subst (IsToolSpelled word ws) m.is (fits m.x.0 m.x.1 t.0, more word ws _ t.1 ∙ sym (words m.x.0 m.x.1))

declared-takes : (v : Version) (make : ℕ → Form) (word : List ℕ) (ws : List (List ℕ)) (f : Form)
    → ((n : ℕ) → form.IsNumber n → form.IsOfVersion v (make n) × form.IsSpelling (make n)) → ((n : ℕ) → form.form_words (make n) ≡ word ∷ decimal n ∷ [])
    → option_map make (one_number ws) ≡ Some f → form.IsOfVersion v f × IsSpelled word ws f
declared-takes v make word ws f fits words e =
    let t = single-takes (λ g. form.IsOfVersion v g × form.IsSpelling g) form.form_words make word ws f fits words e in
    (t.0.0, (t.0.1, t.1))

-- what is read under a processor, and under a tool
on_processor-takes : (v : Version) (word : List ℕ) (ws : List (List ℕ)) (read : Option CpuForm) (f : Form)
    → ((g : CpuForm) → read ≡ Some g → IsCpuSpelled word ws g) → option_map form.OnProcessor read ≡ Some f → form.IsOfVersion v f × IsSpelled word ws f
on_processor-takes v word ws read f takes e =
    let m = made_of form.OnProcessor read f e in
    subst (λ g. form.IsOfVersion v g × IsSpelled word ws g) m.is (tt, takes m.x m.was)

on_tool-takes : (v : Version) (word : List ℕ) (ws : List (List ℕ)) (read : Option ToolForm) (f : Form)
    → ((g : ToolForm) → read ≡ Some g → IsToolSpelled word ws g) → option_map form.OnTool read ≡ Some f → form.IsOfVersion v f × IsSpelled word ws f
on_tool-takes v word ws read f takes e =
    let m = made_of form.OnTool read f e in
    subst (λ g. form.IsOfVersion v g × IsSpelled word ws g) m.is (tt, takes m.x m.was)

end-takes : (v : Version) (ws : List (List ℕ)) (f : Form) → end_at ws ≡ Some f → form.IsOfVersion v f × IsSpelled (codes "end") ws f
end-takes v ws f e =
    let t = alone-takes (λ g. form.IsOfVersion v g × form.IsSpelling g) form.form_words form.End (codes "end") ws f (tt, tt) refl e in
    (t.0.0, (t.0.1, t.1))

order-takes : (v : Version) (ws : List (List ℕ)) (f : Form) → order_at ws ≡ Some f → form.IsOfVersion v f × IsSpelled (codes "order") ws f
order-takes v ws f e =
    let m = made_of form.Order (each_word act_in ws) f e in
    let t = each-takes act_in form.IsActSpelling act_text act-takes ws m.x m.was in
    subst (λ g. form.IsOfVersion v g × IsSpelled (codes "order") ws g) m.is (tt, (t.0, more (codes "order") ws _ t.1))

body-takes : (v : Version) (k : Keyword) (ws : List (List ℕ)) (f : Form) → body_at v k ws ≡ Some f → form.IsOfVersion v f × IsSpelled (keyword_text k) ws f
unfolding body_at keyword_text
body-takes v keyword.Perf ws f e = perf-takes v ws f e
body-takes form.One keyword.Machine ws f e = machine-takes ws f e
body-takes form.Two keyword.Machine ws f e = machine_of_pmus-takes ws f e
body-takes form.One keyword.Pmu ws f e = absurd (none-some f e)
body-takes form.Two keyword.Pmu ws f e = pmu-takes ws f e
body-takes form.One keyword.Kind ws f e = kind-takes ws f e
body-takes form.Two keyword.Kind ws f e = kind_of_pmu-takes ws f e
body-takes v keyword.Task ws f e = declared-takes v form.Task (codes "task") ws f (λ n h. (tt, h)) (λ n. refl) e
body-takes v keyword.Ring ws f e = ring-takes v ws f e
body-takes v keyword.Processor ws f e = declared-takes v form.Processor (codes "processor") ws f (λ n h. (tt, h)) (λ n. refl) e
body-takes v keyword.Switch ws f e = on_processor-takes v (codes "switch") ws (switch_at ws) f (switch-takes ws) e
body-takes v keyword.Work ws f e = on_processor-takes v (codes "work") ws (work_at ws) f (work-takes ws) e
body-takes v keyword.Tick ws f e = on_processor-takes v (codes "tick") ws (tick_at ws) f (λ g. alone-takes form.IsCpuSpelling form.cpu_words form.Tick (codes "tick") ws g tt refl) e
body-takes v keyword.Fork ws f e = on_processor-takes v (codes "fork") ws (fork_at ws) f (λ g. single-takes form.IsCpuSpelling form.cpu_words form.Fork (codes "fork") ws g (λ n h. h) (λ n. refl)) e
body-takes v keyword.Exit ws f e = on_processor-takes v (codes "exit") ws (exit_at ws) f (λ g. alone-takes form.IsCpuSpelling form.cpu_words form.Exit (codes "exit") ws g tt refl) e
body-takes v keyword.Tool ws f e = declared-takes v form.Tool (codes "tool") ws f (λ n h. (tt, h)) (λ n. refl) e
body-takes v keyword.Open ws f e = on_tool-takes v (codes "open") ws (open_at ws) f (open-takes ws) e
body-takes v keyword.Enable ws f e = on_tool-takes v (codes "enable") ws (enable_at ws) f (λ g. command-takes form.Enable (codes "enable") ws g (λ n b h. h) (λ n b. refl)) e
body-takes v keyword.Disable ws f e = on_tool-takes v (codes "disable") ws (disable_at ws) f (λ g. command-takes form.Disable (codes "disable") ws g (λ n b h. h) (λ n b. refl)) e
body-takes v keyword.Reset ws f e = on_tool-takes v (codes "reset") ws (reset_at ws) f (λ g. command-takes form.Reset (codes "reset") ws g (λ n b h. h) (λ n b. refl)) e
body-takes v keyword.Period ws f e = on_tool-takes v (codes "period") ws (period_at ws) f (λ g. paired-takes form.Period (codes "period") ws g (λ n m h i. (h, i)) (λ n m. refl)) e
body-takes v keyword.Read ws f e = on_tool-takes v (codes "read") ws (read_at ws) f (read-takes ws) e
body-takes v keyword.Map ws f e = on_tool-takes v (codes "map") ws (map_at ws) f (λ g. paired-takes form.Map (codes "map") ws g (λ n m h i. (h, i)) (λ n m. refl)) e
body-takes v keyword.Output ws f e = on_tool-takes v (codes "output") ws (output_at ws) f (λ g. paired-takes form.Output (codes "output") ws g (λ n m h i. (h, i)) (λ n m. refl)) e
body-takes v keyword.Close ws f e = on_tool-takes v (codes "close") ws (close_at ws) f (λ g. single-takes form.IsToolSpelling form.tool_words form.Close (codes "close") ws g (λ n h. h) (λ n. refl)) e
body-takes v keyword.Why ws f e = on_tool-takes v (codes "why") ws (why_at ws) f (λ g. single-takes form.IsToolSpelling form.tool_words form.Why (codes "why") ws g (λ n h. h) (λ n. refl)) e
body-takes v keyword.Seats ws f e = on_tool-takes v (codes "seats") ws (seats_at ws) f (λ g. single-takes form.IsToolSpelling form.tool_words form.Seats (codes "seats") ws g (λ n h. h) (λ n. refl)) e
body-takes v keyword.Reader ws f e = reader-takes v ws f e
body-takes v keyword.Order ws f e = order-takes v ws f e
body-takes v keyword.End ws f e = end-takes v ws f e

-- what was read is of the form
pub form-takes : (v : Version) (ws : List (List ℕ)) (f : Form) → form_at v ws ≡ Some f → IsOfForm v ws f
unfolding form_at
form-takes v ws f e =
    let w = next_then ws _ f e in
    let k = bind_some (keyword_of w.n) _ f w.then in
    let b = body-takes v k.0 w.rest f k.2 in
    record { of_version = b.0; spelling = b.1.0; is = w.words ∙ (ap (λ (x : List ℕ). x ∷ w.rest) (keyword-takes w.n k.0 k.1) ∙ b.1.1) }

-- ---- what is of the form is read

cpu-again : (v : Version) (f : CpuForm) → form.IsCpuSpelling f → form_at v (form.cpu_words f) ≡ Some (form.OnProcessor f)
unfolding form_at body_at
cpu-again v (form.Switch task) h = rw (switch-again task h) refl
cpu-again v (form.Work w) h = rw (work-again w h) refl
cpu-again v form.Tick h = refl
cpu-again v (form.Fork task) h = rw (one-again task h) refl
cpu-again v form.Exit h = refl

tool-again : (v : Version) (f : ToolForm) → form.IsToolSpelling f → form_at v (form.tool_words f) ≡ Some (form.OnTool f)
unfolding form_at body_at
tool-again v (form.OpenKind p n a) h = ap (option_map form.OnTool) (open-again_kind p n a h.0 h.1 h.2)
tool-again v (form.OpenAttr p bytes) h = ap (option_map form.OnTool) (open-again_attr p bytes h.0 h.1)
tool-again v (form.Enable slot group) h = rw (slot_and_group-again slot group h) refl
tool-again v (form.Disable slot group) h = rw (slot_and_group-again slot group h) refl
tool-again v (form.Reset slot group) h = rw (slot_and_group-again slot group h) refl
tool-again v (form.Period slot other) h = rw (two-again slot other h.0 h.1) refl
tool-again v (form.Map slot other) h = rw (two-again slot other h.0 h.1) refl
tool-again v (form.Output slot other) h = rw (two-again slot other h.0 h.1) refl
tool-again v (form.Close n) h = rw (one-again n h) refl
tool-again v (form.Why n) h = rw (one-again n h) refl
tool-again v (form.Seats n) h = rw (one-again n h) refl
tool-again v (form.Read slot size) h = rw (read-again slot size h.0 h.1) refl

spelled-again : (v : Version) (f : Form) → form.IsOfVersion v f → form.IsSpelling f → form_at v (form.form_words f) ≡ Some f
unfolding form_at body_at
spelled-again v (form.Perf own) o h = subst (λ u. form_at u (form.form_words (form.Perf own)) ≡ Some (form.Perf own)) o (perf-again own)
spelled-again v (form.Machine cpus counters) o h = subst (λ u. form_at u (form.form_words (form.Machine cpus counters)) ≡ Some (form.Machine cpus counters)) (sym o) (machine-again cpus counters h.0 h.1)
spelled-again v (form.MachineOfPmus cpus) o h = subst (λ u. form_at u (form.form_words (form.MachineOfPmus cpus)) ≡ Some (form.MachineOfPmus cpus)) (sym o) (machine_of_pmus-again cpus h)
spelled-again v (form.Pmu n counters cpus) o h = subst (λ u. form_at u (form.form_words (form.Pmu n counters cpus)) ≡ Some (form.Pmu n counters cpus)) (sym o) (pmu-again n counters cpus h.0 h.1 h.2)
spelled-again v (form.Kind n mask) o h = subst (λ u. form_at u (form.form_words (form.Kind n mask)) ≡ Some (form.Kind n mask)) (sym o) (kind-again n mask h.0 h.1)
spelled-again v (form.KindOfPmu n pmu mask) o h = subst (λ u. form_at u (form.form_words (form.KindOfPmu n pmu mask)) ≡ Some (form.KindOfPmu n pmu mask)) (sym o) (kind_of_pmu-again n pmu mask h.0 h.1 h.2)
spelled-again v (form.Task n) o h = rw (one-again n h) refl
spelled-again v (form.Ring n bytes) o h = ring-again n bytes h.0 h.1
spelled-again v (form.Processor n) o h = rw (one-again n h) refl
spelled-again v (form.OnProcessor line) o h = cpu-again v line h
spelled-again v (form.Tool n) o h = rw (one-again n h) refl
spelled-again v (form.OnTool line) o h = tool-again v line h
spelled-again v (form.Reader ring tries batch) o h = reader-again ring tries batch h.0 h.1 h.2
spelled-again v (form.Order acts) o h = rw (each-again act_in form.IsActSpelling act_text act-again acts h) refl
spelled-again v form.End o h = refl

pub form-again : (v : Version) (ws : List (List ℕ)) (f : Form) → IsOfForm v ws f → form_at v ws ≡ Some f
form-again v ws f h = ap (form_at v) h.is ∙ spelled-again v f h.of_version h.spelling

-- a line is of at most one form
pub one_form : (v : Version) (ws : List (List ℕ)) (f g : Form) → IsOfForm v ws f → IsOfForm v ws g → f ≡ g
one_form v ws f g a b = same_Some f g (sym (form-again v ws f a) ∙ form-again v ws g b)
