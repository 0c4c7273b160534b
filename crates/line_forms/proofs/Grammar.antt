-- The forms, one by one: what is read is of the form, and what is of the form is read.
use Rattle.std.proofs.Common.{◌≡◌, ℕ, List, [], ◌∷◌, ◌++◌, map, Option, Some, None, refl, sym, ap, subst, ◌∙◌, arith}
use Rattle.std.{proofs.lemmas.{Option.{same_Some, none-some}}, specs.{Prelude.{codes, decimal, IfSome}, Str.{bytes_eq}}}
use Rattle.perf_base.specs.declared.lines.Mode.{Mode}
use Rattle.perf_base.specs.declared.lines.Mode.TheVariants as mode
use Rattle.script_spec.specs.Forms.{Version, Working, CpuForm, Form}
use Rattle.script_spec.specs.Forms as form
use Rattle.line_forms.specs.{Leaves.{number, number_at, number_if}, Lists.{each_word, hit_in}}
use Rattle.line_forms.specs.Declarations.{perf_at, machine_at, machine_of_pmus_at, pmu_at, kind_at, kind_of_pmu_at, ring_at, reader_at}
use Rattle.line_forms.{specs.CpuForms.{mode_in, stretch_at, work_at, switch_at}, proofs.Spelling.{guard_some}}
use Rattle.line_forms.proofs.Singles.{number_at-takes, bind_some, bytes_eq-true, bytes_eq_self, name_at-again, decimal_or-again}
use Rattle.line_forms.proofs.Optionals.{number_at-none, number_if-none, number_if-takes, number_if-again}
use Rattle.line_forms.proofs.Sequences.{each-takes, each-again, hit-takes, hit-again}
use Rattle.line_forms.proofs.Steps.{decimal_then, hexadecimal_then, name_then, other_then, end_then, next_then, more, decimal-again, hexadecimal-again}

-- the first word and those behind it are spelled so
abbrev pub IsSpelled : List ℕ → List (List ℕ) → Form → Type 0
IsSpelled word ws f = form.IsSpelling f × (word ∷ ws ≡ form.form_words f)

-- ---- what is declared

pub perf-takes : (v : Version) (ws : List (List ℕ)) (f : Form) → perf_at v ws ≡ Some f → form.IsOfVersion v f × IsSpelled (codes "perf") ws f
unfolding perf_at
perf-takes v ws f e =
    let w = next_then ws _ f e in
    let z = end_then w.rest _ f w.then in
    let g = guard_some (bytes_eq w.n (form.version_text v)) (form.Perf v) f z.then in
    let words : ws ≡ form.version_text v ∷ [] = w.words ∙ (ap (λ (x : List ℕ). x ∷ w.rest) (bytes_eq-true _ _ g.0) ∙ more (form.version_text v) w.rest [] z.words) in
    subst (λ g. form.IsOfVersion v g × IsSpelled (codes "perf") ws g) g.1 (refl, (tt, more (codes "perf") ws _ words))

pub perf-again : (v : Version) → perf_at v (form.version_text v ∷ []) ≡ Some (form.Perf v)
unfolding perf_at
perf-again v = rw (bytes_eq_self (form.version_text v)) refl

pub machine-takes : (ws : List (List ℕ)) (f : Form) → machine_at ws ≡ Some f → form.IsOfVersion form.One f × IsSpelled (codes "machine") ws f
unfolding machine_at
machine-takes ws f e =
    let a = decimal_then (codes "cpus=") ws _ f e in
    let b = decimal_then (codes "counters=") a.rest _ f a.then in
    let z = end_then b.rest _ f b.then in
    let words = more (codes "machine") ws _ (a.words ∙ more _ a.rest _ (b.words ∙ more _ b.rest [] z.words)) in
    subst (λ g. form.IsOfVersion form.One g × IsSpelled (codes "machine") ws g) (same_Some (form.Machine a.n b.n) f z.then) (refl, ((a.fits, b.fits), words))

pub machine-again : (cpus counters : ℕ) → form.IsNumber cpus → form.IsNumber counters
    → machine_at ((codes "cpus=" ++ decimal cpus) ∷ (codes "counters=" ++ decimal counters) ∷ []) ≡ Some (form.Machine cpus counters)
unfolding machine_at
machine-again cpus counters h k = rw (decimal-again (codes "cpus=") cpus ((codes "counters=" ++ decimal counters) ∷ []) h, decimal-again (codes "counters=") counters [] k) refl

pub machine_of_pmus-takes : (ws : List (List ℕ)) (f : Form) → machine_of_pmus_at ws ≡ Some f → form.IsOfVersion form.Two f × IsSpelled (codes "machine") ws f
unfolding machine_of_pmus_at
machine_of_pmus-takes ws f e =
    let a = decimal_then (codes "cpus=") ws _ f e in
    let z = end_then a.rest _ f a.then in
    let words = more (codes "machine") ws _ (a.words ∙ more _ a.rest [] z.words) in
    subst (λ g. form.IsOfVersion form.Two g × IsSpelled (codes "machine") ws g) (same_Some (form.MachineOfPmus a.n) f z.then) (refl, (a.fits, words))

pub machine_of_pmus-again : (cpus : ℕ) → form.IsNumber cpus → machine_of_pmus_at ((codes "cpus=" ++ decimal cpus) ∷ []) ≡ Some (form.MachineOfPmus cpus)
unfolding machine_of_pmus_at
machine_of_pmus-again cpus h = rw (decimal-again (codes "cpus=") cpus [] h) refl

pub pmu-takes : (ws : List (List ℕ)) (f : Form) → pmu_at ws ≡ Some f → form.IsOfVersion form.Two f × IsSpelled (codes "pmu") ws f
unfolding pmu_at
pmu-takes ws f e =
    let a = decimal_then [] ws _ f e in
    let b = decimal_then (codes "counters=") a.rest _ f a.then in
    let c = hexadecimal_then (codes "cpus=") b.rest _ f b.then in
    let z = end_then c.rest _ f c.then in
    let words = more (codes "pmu") ws _ (a.words ∙ more _ a.rest _ (b.words ∙ more _ b.rest _ (c.words ∙ more _ c.rest [] z.words))) in
    subst (λ g. form.IsOfVersion form.Two g × IsSpelled (codes "pmu") ws g) (same_Some (form.Pmu a.n b.n c.n) f z.then) (refl, ((a.fits, b.fits, c.fits), words))

pub pmu-again : (n counters cpus : ℕ) → form.IsNumber n → form.IsNumber counters → form.IsHexadecimal cpus
    → pmu_at (decimal n ∷ (codes "counters=" ++ decimal counters) ∷ (codes "cpus=" ++ form.hexadecimal cpus) ∷ []) ≡ Some (form.Pmu n counters cpus)
unfolding pmu_at
pmu-again n counters cpus h k l =
    rw (
      decimal-again [] n ((codes "counters=" ++ decimal counters) ∷ (codes "cpus=" ++ form.hexadecimal cpus) ∷ []) h,
      decimal-again (codes "counters=") counters ((codes "cpus=" ++ form.hexadecimal cpus) ∷ []) k,
      hexadecimal-again (codes "cpus=") cpus [] l,
    ) refl

pub kind-takes : (ws : List (List ℕ)) (f : Form) → kind_at ws ≡ Some f → form.IsOfVersion form.One f × IsSpelled (codes "kind") ws f
unfolding kind_at
kind-takes ws f e =
    let a = name_then [] ws _ f e in
    let b = hexadecimal_then (codes "mask=") a.rest _ f a.then in
    let z = end_then b.rest _ f b.then in
    let words = more (codes "kind") ws _ (a.words ∙ more _ a.rest _ (b.words ∙ more _ b.rest [] z.words)) in
    subst (λ g. form.IsOfVersion form.One g × IsSpelled (codes "kind") ws g) (same_Some (form.Kind a.n b.n) f z.then) (refl, ((a.fits, b.fits), words))

pub kind-again : (n : List ℕ) (mask : ℕ) → form.IsWord n → form.IsHexadecimal mask → kind_at (n ∷ (codes "mask=" ++ form.hexadecimal mask) ∷ []) ≡ Some (form.Kind n mask)
unfolding kind_at
kind-again n mask h k = rw (name_at-again [] n ((codes "mask=" ++ form.hexadecimal mask) ∷ []) h, hexadecimal-again (codes "mask=") mask [] k) refl

pub kind_of_pmu-takes : (ws : List (List ℕ)) (f : Form) → kind_of_pmu_at ws ≡ Some f → form.IsOfVersion form.Two f × IsSpelled (codes "kind") ws f
unfolding kind_of_pmu_at
kind_of_pmu-takes ws f e =
    let a = name_then [] ws _ f e in
    let b = decimal_then (codes "pmu=") a.rest _ f a.then in
    let c = hexadecimal_then (codes "mask=") b.rest _ f b.then in
    let z = end_then c.rest _ f c.then in
    let words = more (codes "kind") ws _ (a.words ∙ more _ a.rest _ (b.words ∙ more _ b.rest _ (c.words ∙ more _ c.rest [] z.words))) in
    subst (λ g. form.IsOfVersion form.Two g × IsSpelled (codes "kind") ws g) (same_Some (form.KindOfPmu a.n b.n c.n) f z.then) (refl, ((a.fits, b.fits, c.fits), words))

pub kind_of_pmu-again : (n : List ℕ) (pmu mask : ℕ) → form.IsWord n → form.IsNumber pmu → form.IsHexadecimal mask
    → kind_of_pmu_at (n ∷ (codes "pmu=" ++ decimal pmu) ∷ (codes "mask=" ++ form.hexadecimal mask) ∷ []) ≡ Some (form.KindOfPmu n pmu mask)
unfolding kind_of_pmu_at
kind_of_pmu-again n pmu mask h k l =
    rw (
      name_at-again [] n ((codes "pmu=" ++ decimal pmu) ∷ (codes "mask=" ++ form.hexadecimal mask) ∷ []) h,
      decimal-again (codes "pmu=") pmu ((codes "mask=" ++ form.hexadecimal mask) ∷ []) k,
      hexadecimal-again (codes "mask=") mask [] l,
    ) refl

pub ring-takes : (v : Version) (ws : List (List ℕ)) (f : Form) → ring_at ws ≡ Some f → form.IsOfVersion v f × IsSpelled (codes "ring") ws f
unfolding ring_at
ring-takes v ws f e =
    let a = decimal_then [] ws _ f e in
    let b = decimal_then (codes "bytes=") a.rest _ f a.then in
    let z = end_then b.rest _ f b.then in
    let words = more (codes "ring") ws _ (a.words ∙ more _ a.rest _ (b.words ∙ more _ b.rest [] z.words)) in
    subst (λ g. form.IsOfVersion v g × IsSpelled (codes "ring") ws g) (same_Some (form.Ring a.n b.n) f z.then) (tt, ((a.fits, b.fits), words))

pub ring-again : (n bytes : ℕ) → form.IsNumber n → form.IsNumber bytes → ring_at (decimal n ∷ (codes "bytes=" ++ decimal bytes) ∷ []) ≡ Some (form.Ring n bytes)
unfolding ring_at
ring-again n bytes h k = rw (decimal-again [] n ((codes "bytes=" ++ decimal bytes) ∷ []) h, decimal-again (codes "bytes=") bytes [] k) refl

pub reader-takes : (v : Version) (ws : List (List ℕ)) (f : Form) → reader_at ws ≡ Some f → form.IsOfVersion v f × IsSpelled (codes "reader") ws f
unfolding reader_at
reader-takes v ws f e =
    let a = decimal_then [] ws _ f e in
    let b = decimal_then (codes "tries=") a.rest _ f a.then in
    let c = decimal_then (codes "batch=") b.rest _ f b.then in
    let z = end_then c.rest _ f c.then in
    let words = more (codes "reader") ws _ (a.words ∙ more _ a.rest _ (b.words ∙ more _ b.rest _ (c.words ∙ more _ c.rest [] z.words))) in
    subst (λ g. form.IsOfVersion v g × IsSpelled (codes "reader") ws g) (same_Some (form.Reader a.n b.n c.n) f z.then) (tt, ((a.fits, b.fits, c.fits), words))

pub reader-again : (ring tries batch : ℕ) → form.IsNumber ring → form.IsNumber tries → form.IsNumber batch
    → reader_at (decimal ring ∷ (codes "tries=" ++ decimal tries) ∷ (codes "batch=" ++ decimal batch) ∷ []) ≡ Some (form.Reader ring tries batch)
unfolding reader_at
reader-again ring tries batch h k l =
    rw (
      decimal-again [] ring ((codes "tries=" ++ decimal tries) ∷ (codes "batch=" ++ decimal batch) ∷ []) h,
      decimal-again (codes "tries=") tries ((codes "batch=" ++ decimal batch) ∷ []) k,
      decimal-again (codes "batch=") batch [] l,
    ) refl

pub first_is : (x y : List ℕ) (xs ys : List (List ℕ)) → x ∷ xs ≡ y ∷ ys → x ≡ y
first_is x y xs ys e = cc

-- ---- lines of processors

abbrev pub IsCpuSpelled : List ℕ → List (List ℕ) → CpuForm → Type 0
IsCpuSpelled word ws f = form.IsCpuSpelling f × (word ∷ ws ≡ form.cpu_words f)

no_number_idle : number 10 20 (codes "idle") ≡ None
unfolding number
no_number_idle = refl

pub no_number_all : number 10 20 (codes "all") ≡ None
unfolding number
no_number_all = refl

pub no_number_any : number 10 20 (codes "any") ≡ None
unfolding number
no_number_any = refl

pub switch-takes : (ws : List (List ℕ)) (f : CpuForm) → switch_at ws ≡ Some f → IsCpuSpelled (codes "switch") ws f
unfolding switch_at
switch-takes ws f e =
    let a = other_then [] (codes "idle") ws _ f e in
    let z = end_then a.rest _ f a.then in
    let words = more (codes "switch") ws _ (a.words ∙ more _ a.rest [] z.words) in
    subst (IsCpuSpelled (codes "switch") ws) (same_Some (form.Switch a.n) f z.then) (a.fits, words)

pub switch-again : (task : Option ℕ) → IfSome task form.IsNumber → switch_at (form.number_or (codes "idle") task ∷ []) ≡ Some (form.Switch task)
unfolding switch_at
switch-again task h = rw (decimal_or-again [] (codes "idle") task [] no_number_idle h) refl

mode-takes : (word : List ℕ) (m : Mode) → mode_in word ≡ Some m → word ≡ form.mode_text m
mode-takes word m e = grind (arith, same_Some, bytes_eq-true, none-some)

mode-again : (m : Mode) → mode_in (form.mode_text m) ≡ Some m
mode-again mode.User = refl
mode-again mode.Kernel = refl

-- the length, the mode and the ip of a work line, and the words of its occurrences
record IsStretch (ws : List (List ℕ)) (x : (ℕ × Mode × Option ℕ) × List (List ℕ)) : Type 0 where
  length : form.IsNumber x.0.0
  ip : IfSome x.0.2 form.IsHexadecimal
  no_ip : x.0.2 ≡ None → number_at (codes "ip=") 16 16 x.1 ≡ None
  words : ws ≡ decimal x.0.0 ∷ form.mode_text x.0.1 ∷ (form.word_if x.0.2 form.ip_text ++ x.1)

stretch-takes : (ws : List (List ℕ)) (x : (ℕ × Mode × Option ℕ) × List (List ℕ)) → stretch_at ws ≡ Some x → IsStretch ws x
unfolding stretch_at
stretch-takes ws x e =
    let a = decimal_then [] ws _ x e in
    let w = next_then a.rest _ x a.then in
    let m = bind_some (mode_in w.n) _ x w.then in
    let ip = number_if (codes "ip=") 16 16 w.rest in
    let t = number_if-takes (codes "ip=") 16 16 w.rest (omega arith) (omega arith) (omega arith) in
    let words : ws ≡ decimal a.n ∷ form.mode_text m.0 ∷ (form.word_if ip.0 form.ip_text ++ ip.1) = a.words ∙ more (decimal a.n) a.rest _ (w.words ∙ (ap (λ (v : List ℕ). v ∷ w.rest) (mode-takes w.n m.0 m.1) ∙ more (form.mode_text m.0) w.rest _ t.1)) in
    grind (arith, same_Some, number_if-none, words)

stretch-again : (length : ℕ) (m : Mode) (ip : Option ℕ) (rest : List (List ℕ)) → form.IsNumber length → IfSome ip form.IsHexadecimal → (ip ≡ None → number_at (codes "ip=") 16 16 rest ≡ None)
    → stretch_at (decimal length ∷ form.mode_text m ∷ (form.word_if ip form.ip_text ++ rest)) ≡ Some ((length, m, ip), rest)
unfolding stretch_at
stretch-again length m ip rest l h n =
    rw (
      decimal-again [] length (form.mode_text m ∷ (form.word_if ip form.ip_text ++ rest)) l,
      mode-again m,
      number_if-again (codes "ip=") 16 16 ip rest (omega arith) (omega arith) (omega arith) (omega arith) h n,
    ) refl

ip_first : (ip : Option ℕ) (hits : List form.Hit) → IfSome ip form.IsHexadecimal → (ip ≡ None → number_at (codes "ip=") 16 16 (map form.hit_text hits) ≡ None) → form.HasIpFirst ip hits
ip_first (Some n) hits h none = h
ip_first None [] h none = tt
ip_first None (g ∷ gs) h none = λ n fits e.
    none-some (n, map form.hit_text gs) (sym (none refl) ∙ (ap (λ (w : List ℕ). number_at (codes "ip=") 16 16 (w ∷ map form.hit_text gs)) e ∙ hexadecimal-again (codes "ip=") n (map form.hit_text gs) fits))

ip_fits : (ip : Option ℕ) (hits : List form.Hit) → form.HasIpFirst ip hits → IfSome ip form.IsHexadecimal
ip_fits (Some n) hits h = h
ip_fits None hits h = tt

no_ip_first : (hits : List form.Hit) → form.IsNoIp hits → number_at (codes "ip=") 16 16 (map form.hit_text hits) ≡ None
no_ip_first [] h = number_at-none (codes "ip=") 16 16 [] tt
no_ip_first (g ∷ gs) h = go (number_at (codes "ip=") 16 16 (map form.hit_text (g ∷ gs))) refl
  where
    go : (r : Option (ℕ × List (List ℕ))) → number_at (codes "ip=") 16 16 (map form.hit_text (g ∷ gs)) ≡ r → number_at (codes "ip=") 16 16 (map form.hit_text (g ∷ gs)) ≡ None
    go None e = e
    go (Some x) e =
        let t = number_at-takes (codes "ip=") 16 16 (map form.hit_text (g ∷ gs)) x (omega arith) (omega arith) (omega arith) e in
        absurd (h x.0 t.0 (first_is (form.hit_text g) (form.ip_text x.0) (map form.hit_text gs) x.1 t.1))

no_ip_of : (ip : Option ℕ) (hits : List form.Hit) → form.HasIpFirst ip hits → ip ≡ None → number_at (codes "ip=") 16 16 (map form.hit_text hits) ≡ None
no_ip_of (Some n) hits h e = absurd cc
no_ip_of None hits h e = no_ip_first hits h

pub work-takes : (ws : List (List ℕ)) (f : CpuForm) → work_at ws ≡ Some f → IsCpuSpelled (codes "work") ws f
unfolding work_at
work-takes ws f e =
    let s = bind_some (stretch_at ws) _ f e in
    let hs = bind_some (each_word hit_in s.0.1) _ f s.2 in
    let t = stretch-takes ws s.0 s.1 in
    let h = each-takes hit_in form.IsHit form.hit_text hit-takes s.0.1 hs.0 hs.1 in
    let words : ws ≡ decimal s.0.0.0 ∷ form.mode_text s.0.0.1 ∷ (form.word_if s.0.0.2 form.ip_text ++ map form.hit_text hs.0) = t.words ∙ ap (λ (r : List (List ℕ)). decimal s.0.0.0 ∷ form.mode_text s.0.0.1 ∷ (form.word_if s.0.0.2 form.ip_text ++ r)) h.1 in
    let none : s.0.0.2 ≡ None → number_at (codes "ip=") 16 16 (map form.hit_text hs.0) ≡ None = λ n. ap (number_at (codes "ip=") 16 16) (sym h.1) ∙ t.no_ip n in
    subst (IsCpuSpelled (codes "work") ws) (same_Some _ f hs.2) (record { length = t.length; ip = ip_first s.0.0.2 hs.0 t.ip none; hits = h.0 }, more (codes "work") ws _ words)

pub work-again : (w : Working) → form.IsWorking w → work_at (decimal w.length ∷ form.mode_text w.mode ∷ (form.word_if w.ip form.ip_text ++ map form.hit_text w.hits)) ≡ Some (form.Work w)
unfolding work_at
work-again w h =
    rw (
      stretch-again w.length w.mode w.ip (map form.hit_text w.hits) h.length (ip_fits w.ip w.hits h.ip) (no_ip_of w.ip w.hits h.ip),
      each-again hit_in form.IsHit form.hit_text hit-again w.hits h.hits,
    ) refl
