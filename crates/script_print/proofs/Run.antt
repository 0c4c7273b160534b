-- The first forms of a printed script: they are sound, and say the script so far.
use Rattle.std.proofs.Common.{◌≡◌, ℕ, ◌<◌, ◌≤◌, All, List, [], ◌∷◌, ◌++◌, map, length, None, refl, sym, ap, subst, ◌∙◌, arith, append_assoc}
use Rattle.std.{proofs.lemmas.List.{append-nil, length_push, Elements.{All-push, All-weaker}}, specs.{Prelude.{IfSome}, List.{cons_option}}}
use Rattle.perf_base.specs.Scripts.{Scripted, IsCovered}
use Rattle.script_spec.specs.Forms.{Version, Form}
use Rattle.script_spec.specs.Meaning.{processor_said, tool_said, processors_in, tools_in, cpus_in, pmus_in, kinds_in, tasks_in, rings_in, readers_in, last_of, script_of}
use Rattle.script_spec.specs.{Faults.{section, IsNoEnd, IsInOrder, IsUnder, IsPlaced, IsBehindPmus}, Saying.{said_by, IsLater}}
use Rattle.script_spec.proofs.{Snoc.{pushed}, More.{script_more}}
use Rattle.script_spec.specs.Forms as form
use Rattle.script_print.proofs.Sound.{Fits, AreSoundForms, more_sound}

-- the last headers are of the machine
abbrev pub AreLow : List ℕ → List ℕ → Type 0
AreLow ps ts = IfSome (last_of ps) (λ n. n < 8) × IfSome (last_of ts) (λ n. n < 4)

-- the forms so far are sound, say this script, have the headers of these processors and tools, and are of no later
-- section
pub record Run (v : Version) (before : List Form) (t : Scripted) (ps ts : List ℕ) (rank : ℕ) : Type 0 where
  pub sound : AreSoundForms v before
  pub script : script_of before ≡ t
  pub processors : processors_in before ≡ ps
  pub tools : tools_in before ≡ ts
  pub low : AreLow ps ts
  pub highest : All (λ g. section g ≤ rank) before
  pub long : 2 ≤ length before

-- what a form of a section adds: the script and the headers behind it
pub record Adds (f : Form) (k : ℕ) (t : Scripted) (ps ts : List ℕ) (u : Scripted) (qs us : List ℕ) : Type 0 where
  pub later : IsLater f
  pub in_section : section f ≡ k
  pub script : said_by t (last_of ps) (last_of ts) f ≡ u
  pub processors : ps ++ cons_option (processor_said f) [] ≡ qs
  pub tools : ts ++ cons_option (tool_said f) [] ≡ us
  pub low : AreLow qs us

no_end : (g : Form) → section g ≤ 9 → IsNoEnd g
no_end form.End l = absurd (omega (arith, l))
no_end other l = tt

pub higher : {v : Version} {before : List Form} {t : Scripted} {ps ts : List ℕ} {r q : ℕ} → r ≤ q → Run v before t ps ts r → Run v before t ps ts q
higher {before = before} {r = r} {q = q} l h = record {
  sound = h.sound;
  script = h.script;
  processors = h.processors;
  tools = h.tools;
  low = h.low;
  highest = All-weaker (λ g. section g ≤ r) (λ g. section g ≤ q) (λ g e. omega (arith, e, l)) before h.highest;
  long = h.long;
}

-- one form more
pub push : {v : Version} {before : List Form} {t u : Scripted} {ps ts qs us : List ℕ} {r k : ℕ} (f : Form) → (r ≤ k) × (r ≤ 9) → Run v before t ps ts r → Adds f k t ps ts u qs us
    → (IsInOrder before f → IsPlaced before f) → Fits v before f → Run v (before ++ f ∷ []) u qs us k
push {v = v} {before = before} {r = r} {k = k} f l h a placed fits =
    let low : AreLow (processors_in before) (tools_in before) = rw (h.processors, h.tools) h.low in
    let highest : All (λ g. section g ≤ k) before = All-weaker (λ g. section g ≤ r) (λ g. section g ≤ k) (λ g e. omega (arith, e, l.0)) before h.highest in
    let no_ends : All IsNoEnd before = All-weaker (λ g. section g ≤ r) IsNoEnd (λ g e. no_end g (omega (arith, e, l.1))) before h.highest in
    record {
      sound = more_sound v before f h.sound fits (placed (record { behind_machine = h.long; sections = rw a.in_section highest })) no_ends;
      script = script_more before f a.later low.0 low.1 ∙ rw (h.script, h.processors, h.tools) a.script;
      processors = pushed processor_said before f ∙ rw h.processors a.processors;
      tools = pushed tool_said before f ∙ rw h.tools a.tools;
      low = a.low;
      highest = All-push (λ g. section g ≤ k) before f highest (omega (arith, a.in_section));
      long = omega (arith, length_push before f, h.long);
    }

-- a form that is no header
pub entry : {f : Form} {k : ℕ} {t u : Scripted} {ps ts : List ℕ} → IsLater f → section f ≡ k → processor_said f ≡ None → tool_said f ≡ None → AreLow ps ts → said_by t (last_of ps) (last_of ts) f ≡ u
    → Adds f k t ps ts u ps ts
entry {ps = ps} {ts = ts} later section p t low script = record { later = later; in_section = section; script = script; processors = rw p (append-nil ps); tools = rw t (append-nil ts); low = low }

-- ---- what is asked of a form, by the script so far

pub record Says (before : List Form) (t : Scripted) : Type 0 where
  pub cpus : cpus_in before ≡ t.cpus
  pub pmus : pmus_in before ≡ t.pmus
  pub kinds : kinds_in before ≡ t.kinds
  pub tasks : tasks_in before ≡ t.tasks
  pub rings : rings_in before ≡ t.rings
  pub readers : readers_in before ≡ t.readers

parts : (before : List Form) (t : Scripted) → script_of before ≡ t → Says before t
unfolding script_of
parts before t e = record {
  cpus = ap (λ (s : Scripted). s.cpus) e;
  pmus = ap (λ (s : Scripted). s.pmus) e;
  kinds = ap (λ (s : Scripted). s.kinds) e;
  tasks = ap (λ (s : Scripted). s.tasks) e;
  rings = ap (λ (s : Scripted). s.rings) e;
  readers = ap (λ (s : Scripted). s.readers) e;
}

pub says : {v : Version} {before : List Form} {t : Scripted} {ps ts : List ℕ} {r : ℕ} → Run v before t ps ts r → Says before t
says {before = before} {t = t} h = parts before t h.script

pub behind_pmus : {v : Version} {before : List Form} {t : Scripted} {ps ts : List ℕ} {r : ℕ} {f : Form} → Run v before t ps ts r → IsCovered t → IsUnder before f → IsInOrder before f → IsBehindPmus before f
behind_pmus h covered under order = record { in_order = order; covered = λ cpu low. rw (says h).pmus (covered cpu (rw (says h).cpus at low)); under = under }

-- ---- a section, entry by entry

module _ {X : Type 0} {v : Version} {k : ℕ} {ps ts : List ℕ} (F : X → Form) (T : List X → Scripted) (whole : List X)
    (step : (before : List Form) (done : List X) (x : X) (rest : List X) → done ++ x ∷ rest ≡ whole → Run v before (T done) ps ts k → Run v (before ++ F x ∷ []) (T (done ++ x ∷ [])) ps ts k) where
  entries : (before : List Form) (done rest : List X) → done ++ rest ≡ whole → Run v before (T done) ps ts k → Run v (before ++ map F rest) (T whole) ps ts k
  entries before done [] e h = rw (append-nil before) (subst (λ d. Run v before (T d) ps ts k) (sym (append-nil done) ∙ e) h)
  entries before done (x ∷ rest) e h =
      subst (λ b. Run v b (T whole) ps ts k) (append_assoc before (F x ∷ []) (map F rest)) (entries (before ++ F x ∷ []) (done ++ x ∷ []) rest (append_assoc done (x ∷ []) rest ∙ e) (step before done x rest e h))

  pub section_run : {before : List Form} {r : ℕ} → r ≤ k → Run v before (T []) ps ts r → Run v (before ++ map F whole) (T whole) ps ts k
  section_run {before = before} l h = entries before [] whole refl (higher l h)
