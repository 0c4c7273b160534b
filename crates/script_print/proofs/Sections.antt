-- The sections of a printed script, each behind those before it: all but those of processors and tools.
use Rattle.std.proofs.Common.{◌≡◌, ◌≢◌, ℕ, zero, suc, ◌^◌, ◌<◌, ◌≤◌, cond, eqb, All, List, [], ◌∷◌, ◌++◌, map, length, get_or, replicate, inl, inr, refl, sym, ap, subst, ◌∙◌, arith, ◌-◌, false, append_assoc}
use Rattle.std.proofs.{Math.Nat.{pow-le-pow_right}, lemmas.{Bool.{cases_Bool, eqb-true, ne_eqb}, List.{append-nil, length_push}}}
use Rattle.std.proofs.lemmas.{List.Elements.{All-head, All-nil, All-cons}, Nat.Bits.{same_from_bits_below, bit_at_ones}}
use Rattle.std.specs.{Prelude.{Any}, Int.{bit_at}}
use Rattle.perf_base.specs.declared.{numbers.{RingNo.{RingNo}, TaskNo.{TaskNo}, CpuNo.{CpuNo}}, lines.{PmuLine.{PmuLine}, KindLine.{KindLine}}}
use Rattle.perf_base.specs.declared.{lines.ReaderLine.{ReaderLine}, acts.Act.{Act}}
use Rattle.perf_base.specs.Scripts.{Scripted, IsScript, IsCovered, IsPmuLine, IsKindLine, IsMaskOf, IsRingLine, IsReaderLine, AreApart, IsAct, IsStoredAct}
use Rattle.perf_base.specs.{Cpus.{HasCpu}, Weight.{weight}}
use Rattle.perf_base.proofs.Limits.{ring_small, ring_bytes, mask_small}
use Rattle.perf_base.specs.declared.acts.Act.TheVariants as act
use Rattle.script_spec.specs.{Forms.{Version, Form}, Meaning.{kinds_in, processors_in, tools_in, script_of}, Faults.{section, IsNoEnd, IsPlaced}}
use Rattle.script_spec.specs.{Acts.{IsActInRange}, Texts.{version_of}}
use Rattle.script_spec.specs.Printing.{head_forms, pmu_forms, kind_form, task_form, ring_form, reader_form, order_forms}
use Rattle.script_spec.specs.Forms as form
use Rattle.script_print.proofs.{Lists.{all_in, pairs_in, fewer}, Run.{Run, push, entry, says, behind_pmus, section_run, higher}}
use Rattle.script_print.proofs.Sound.{Fits, line_bytes, none_sound, more_sound}

-- ---- the script so far

-- with its machine and these PMUs alone
abbrev pub with_pmus : Scripted → List PmuLine → Scripted
with_pmus s done = record { cpus = s.cpus; pmus = done; kinds = []; tasks = []; rings = []; cpu_lines = replicate 8 []; tool_lines = replicate 4 []; readers = []; order = [] }

abbrev pub with_kinds : Scripted → List KindLine → Scripted
with_kinds s done = record (with_pmus s s.pmus) { kinds = done }

abbrev pub with_tasks : Scripted → List TaskNo → Scripted
with_tasks s done = record (with_kinds s s.kinds) { tasks = done }

abbrev pub with_rings : Scripted → List (RingNo × ℕ) → Scripted
with_rings s done = record (with_tasks s s.tasks) { rings = done }

abbrev pub with_readers : Scripted → List ReaderLine → Scripted
with_readers s done = record s { readers = done; order = [] }

-- ---- the sections

module _ {v : Version} (s : Scripted) (h : IsScript s) (covered : IsCovered s) where
  task_step : (before : List Form) (done : List TaskNo) (t : TaskNo) (rest : List TaskNo) → done ++ t ∷ rest ≡ s.tasks → Run v before (with_tasks s done) [] [] 4 → Run v (before ++ task_form t ∷ []) (with_tasks s (done ++ t ∷ [])) [] [] 4
  task_step before done t rest e b =
      let small : t.0 < 64 = all_in (λ t. t.0 < 64) done t rest s.tasks e h.tasks in
      push (task_form t) (omega arith, omega arith) b (entry tt refl refl refl b.low refl) (behind_pmus b covered tt) (record {
        form = (tt, omega (arith, small));
        range = (small, rw (says b).tasks (pairs_in (λ t u. t.0 < u.0) done t rest s.tasks e h.tasks_rise));
        others = (tt, tt, tt, tt);
      })

  pub tasks_run : {before : List Form} → Run v before (with_tasks s []) [] [] 3 → Run v (before ++ map task_form s.tasks) (with_tasks s s.tasks) [] [] 4
  tasks_run b = section_run task_form (with_tasks s) s.tasks task_step (omega arith) b

  ring_step : (before : List Form) (done : List (RingNo × ℕ)) (r : RingNo × ℕ) (rest : List (RingNo × ℕ)) → done ++ r ∷ rest ≡ s.rings → Run v before (with_rings s done) [] [] 5
      → Run v (before ++ ring_form r ∷ []) (with_rings s (done ++ r ∷ [])) [] [] 5
  ring_step before done r rest e b =
      let own : IsRingLine r = all_in IsRingLine done r rest s.rings e h.rings in
      push (ring_form r) (omega arith, omega arith) b (entry tt refl refl refl b.low refl) (behind_pmus b covered tt) (record {
        form = (tt, (omega (arith, own.0), omega (arith, ring_bytes r own)));
        range = (own, rw (says b).rings (pairs_in (λ q r. q.0.0 < r.0.0) done r rest s.rings e h.rings_rise));
        others = (tt, tt, tt, tt);
      })

  pub rings_run : {before : List Form} → Run v before (with_rings s []) [] [] 4 → Run v (before ++ map ring_form s.rings) (with_rings s s.rings) [] [] 5
  rings_run b = section_run ring_form (with_rings s) s.rings ring_step (omega arith) b

  module _ {ps ts : List ℕ} where
    reader_step : (before : List Form) (done : List ReaderLine) (r : ReaderLine) (rest : List ReaderLine) → done ++ r ∷ rest ≡ s.readers → Run v before (with_readers s done) ps ts 8
        → Run v (before ++ reader_form r ∷ []) (with_readers s (done ++ r ∷ [])) ps ts 8
    reader_step before done r rest e b =
        let own : IsReaderLine s.rings r = all_in (IsReaderLine s.rings) done r rest s.readers e h.readers in
        let small = ring_small s.rings r.ring h.rings own.ring in
        push (reader_form r) (omega arith, omega arith) b (entry tt refl refl refl b.low refl) (behind_pmus b covered tt) (record {
          form = (tt, (omega (arith, small), omega (arith, own.tries), omega (arith, own.batch)));
          range = (omega (arith, small), own.tries, own.batch, rw (says b).readers (pairs_in (λ q r. q.ring.0 < r.ring.0) done r rest s.readers e h.readers_rise));
          others = (tt, rw (says b).rings own.ring, tt, tt);
        })

    pub readers_run : {before : List Form} → Run v before (with_readers s []) ps ts 7 → Run v (before ++ map reader_form s.readers) (with_readers s s.readers) ps ts 8
    readers_run b = section_run reader_form (with_readers s) s.readers reader_step (omega arith) b

-- ---- kinds

-- the version in which a script is printed, by how many PMUs it has
abbrev pub version_for : ℕ → Version
version_for pmus = cond (eqb pmus 1) form.One form.Two

module _ (s : Scripted) (h : IsScript s) (covered : IsCovered s) where
  kind_step : (before : List Form) (done : List KindLine) (k : KindLine) (rest : List KindLine) → done ++ k ∷ rest ≡ s.kinds → Run (version_for (length s.pmus)) before (with_kinds s done) [] [] 3
      → Run (version_for (length s.pmus)) (before ++ kind_form (length s.pmus) k ∷ []) (with_kinds s (done ++ k ∷ [])) [] [] 3
  kind_step before done k rest e b =
      let own : IsKindLine s.pmus k = all_in (IsKindLine s.pmus) done k rest s.kinds e h.kinds in
      let m = mask_small s.pmus s.cpus k.pmu k.mask h.pmus own.mask in
      let once : All (λ j. j.name ≢ k.name) (kinds_in before) = rw (says b).kinds (pairs_in (λ j k. j.name ≢ k.name) done k rest s.kinds e h.kinds_once) in
      let few : length (kinds_in before) < 16 = rw (says b).kinds (omega (arith, fewer done k rest s.kinds e, h.kinds_few)) in
      elim (cases_Bool (eqb (length s.pmus) 1)) [
        | inl t ↦
            let first : k.pmu ≡ 0 = omega (arith, eqb-true (length s.pmus) 1 t, m.0) in
            let b1 : Run form.One before (with_kinds s done) [] [] 3 = rw t at b in
            let next_is : with_kinds s (done ++ record { name = k.name; pmu = 0; mask = k.mask } ∷ []) ≡ with_kinds s (done ++ k ∷ []) = ap (λ n. with_kinds s (done ++ record { name = k.name; pmu = n; mask = k.mask } ∷ [])) (sym first) in
            rw t (push (form.Kind k.name k.mask) (omega arith, omega arith) b1 (entry tt refl refl refl b.low next_is) (behind_pmus b1 covered tt) (record {
              form = (refl, ((own.name, own.length), omega (arith, m.1)));
              range = rw (says b).pmus (subst (λ n. IsMaskOf s.pmus n k.mask) first own.mask);
              others = (tt, record { free = own.free; once = once }, few, tt);
            }))
        | inr f ↦
            let b2 : Run form.Two before (with_kinds s done) [] [] 3 = rw f at b in
            rw f (push (form.KindOfPmu k.name k.pmu k.mask) (omega arith, omega arith) b2 (entry tt refl refl refl b.low refl) (behind_pmus b2 covered tt) (record {
              form = (refl, ((own.name, own.length), omega (arith, m.0, h.pmus_few), omega (arith, m.1)));
              range = rw (says b).pmus own.mask;
              others = (tt, record { free = own.free; once = once }, few, tt);
            }))
      ]

  pub kinds_run : {before : List Form} → Run (version_for (length s.pmus)) before (with_kinds s []) [] [] 2 → Run (version_for (length s.pmus)) (before ++ map (kind_form (length s.pmus)) s.kinds) (with_kinds s s.kinds) [] [] 3
  kinds_run b = section_run (kind_form (length s.pmus)) (with_kinds s) s.kinds kind_step (omega arith) b

-- ---- the first lines

-- the one PMU of a script is on all its processors
all_cpus : (s : Scripted) (p : PmuLine) → s.cpus ≤ 8 → IsPmuLine s.cpus p → s.pmus ≡ p ∷ [] → IsCovered s → p.cpus.0 ≡ 2 ^ s.cpus - 1
all_cpus s p few own e covered =
    let some : 1 ≤ 2 ^ s.cpus = omega (arith, own.cpus.1) in
    same_from_bits_below s.cpus p.cpus.0 (2 ^ s.cpus - 1) own.cpus.1 (omega (arith, some)) (λ i l. bit i l ∙ sym (bit_at_ones s.cpus i l))
  where
    the_one : (p : PmuLine) (cpu : CpuNo) → Any (λ q. HasCpu q.cpus cpu) (p ∷ []) → HasCpu p.cpus cpu
    the_one p cpu (zero, x, l, at, has) = subst (λ (q : PmuLine). HasCpu q.cpus cpu) (sym at) has
    the_one p cpu (suc i, x, l, at, has) = absurd (omega (arith, l))

    bit : (i : ℕ) → i < s.cpus → bit_at p.cpus.0 i ≡ 1
    bit i l = the_one p (record { 0 = i }) (subst (λ pmus. Any (λ q. HasCpu q.cpus (record { 0 = i })) pmus) e (covered (record { 0 = i }) l))

-- the version and a machine
first_two : (v : Version) (m : Form) (t : Scripted) → Fits v (form.Perf v ∷ []) m → IsPlaced (form.Perf v ∷ []) m → section m ≤ 2 → script_of (form.Perf v ∷ m ∷ []) ≡ t
    → processors_in (form.Perf v ∷ m ∷ []) ≡ [] → tools_in (form.Perf v ∷ m ∷ []) ≡ [] → Run v (form.Perf v ∷ m ∷ []) t [] [] 2
first_two v m t fits placed low script processors tools =
    let first = more_sound v [] (form.Perf v) (none_sound v) (record { form = (refl, tt); range = tt; others = (tt, tt, tt, tt) }) refl (All-nil IsNoEnd) in
    record {
      sound = more_sound v (form.Perf v ∷ []) m first fits placed (All-cons IsNoEnd (form.Perf v) [] tt (All-nil IsNoEnd));
      script = script;
      processors = processors;
      tools = tools;
      low = (tt, tt);
      highest = All-cons (λ g. section g ≤ 2) (form.Perf v) (m ∷ []) (omega arith) (All-cons (λ g. section g ≤ 2) m [] low (All-nil (λ g. section g ≤ 2)));
      long = omega arith;
    }

module _ (s : Scripted) (h : IsScript s) (covered : IsCovered s) where
  one_run : (p : PmuLine) → s.pmus ≡ p ∷ [] → Run form.One (form.Perf form.One ∷ form.Machine s.cpus p.counters ∷ []) (with_kinds s []) [] [] 2
  unfolding script_of
  one_run p e =
      let own : IsPmuLine s.cpus p = All-head (IsPmuLine s.cpus) p [] (subst (All (IsPmuLine s.cpus)) e h.pmus) in
      let pmu : record { counters = p.counters; cpus = record { 0 = 2 ^ s.cpus - 1 } } ∷ [] ≡ s.pmus = ap (λ m. record { counters = p.counters; cpus = record { 0 = m } } ∷ []) (sym (all_cpus s p h.cpus.1 own e covered)) ∙ sym e in
      let fits : Fits form.One (form.Perf form.One ∷ []) (form.Machine s.cpus p.counters) = record { form = (refl, (omega (arith, h.cpus), omega (arith, own.counters))); range = (h.cpus, own.counters); others = (tt, tt, tt, tt) } in
      first_two form.One (form.Machine s.cpus p.counters) (with_kinds s []) fits refl (omega arith) (ap (with_pmus s) pmu) refl refl

  several_run : Run form.Two (form.Perf form.Two ∷ form.MachineOfPmus s.cpus ∷ []) (with_pmus s []) [] [] 2
  unfolding script_of
  several_run = first_two form.Two (form.MachineOfPmus s.cpus) (with_pmus s []) (record { form = (refl, omega (arith, h.cpus)); range = h.cpus; others = (tt, tt, tt, tt) }) refl (omega arith) refl refl refl

  pmus_run : (before : List Form) (done rest : List PmuLine) → done ++ rest ≡ s.pmus → Run form.Two before (with_pmus s done) [] [] 2 → Run form.Two (before ++ pmu_forms (length done) rest) (with_kinds s []) [] [] 2
  pmus_run before done [] e b = rw (append-nil before) (subst (λ d. Run form.Two before (with_pmus s d) [] [] 2) (sym (append-nil done) ∙ e) b)
  pmus_run before done (p ∷ rest) e b =
      let f = form.Pmu (length done) p.counters p.cpus.0 in
      let own : IsPmuLine s.cpus p = all_in (IsPmuLine s.cpus) done p rest s.pmus e h.pmus in
      let few : length done < 4 = omega (arith, fewer done p rest s.pmus e, h.pmus_few) in
      let power : 2 ^ s.cpus ≤ 2 ^ 8 = pow-le-pow_right {n = 2} (omega arith) h.cpus.1 in
      let next = push f (omega arith, omega arith) b (entry tt refl refl refl b.low refl) (λ order. order) (record {
        form = (refl, (omega (arith, few), omega (arith, own.counters), omega (arith, own.cpus, power)));
        range = record {
          next = sym (ap length (says b).pmus);
          few = omega (arith, few);
          line = rw (says b).cpus own;
          apart = rw (says b).pmus (pairs_in AreApart done p rest s.pmus e h.pmus_apart);
        };
        others = (tt, tt, tt, tt);
      }) in
      subst (λ n. Run form.Two (before ++ f ∷ pmu_forms n rest) (with_kinds s []) [] [] 2) (length_push done p)
      (subst (λ g. Run form.Two g (with_kinds s []) [] [] 2) (append_assoc before (f ∷ []) (pmu_forms (length (done ++ p ∷ [])) rest)) (pmus_run (before ++ f ∷ []) (done ++ p ∷ []) rest (append_assoc done (p ∷ []) rest ∙ e) next))

  -- all first lines
  pub head_run : Run (version_for (length s.pmus)) (head_forms s.cpus s.pmus) (with_kinds s []) [] [] 2
  head_run = by_pmus s.pmus refl
    where
      by_pmus : (pmus : List PmuLine) → s.pmus ≡ pmus → Run (version_for (length pmus)) (head_forms s.cpus pmus) (with_kinds s []) [] [] 2
      by_pmus [] e =
          let none : Any (λ p. HasCpu p.cpus (record { 0 = 0 })) [] = subst (λ pmus. Any (λ p. HasCpu p.cpus (record { 0 = 0 })) pmus) e (covered (record { 0 = 0 }) (omega (arith, h.cpus))) in
          absurd (omega (arith, none.2))
      by_pmus (p ∷ []) e = one_run p e
      by_pmus (p ∷ q ∷ pmus) e =
          let two : eqb (length (p ∷ q ∷ pmus)) 1 ≡ false = ne_eqb (length (p ∷ q ∷ pmus)) 1 (λ k. omega (arith, k)) in
          rw two (pmus_run (form.Perf form.Two ∷ form.MachineOfPmus s.cpus ∷ []) [] (p ∷ q ∷ pmus) (sym e) several_run)

pub version_is : (n : ℕ) (pmus : List PmuLine) (rest : List Form) → version_of (map line_bytes (head_forms n pmus ++ rest)) ≡ version_for (length pmus)
version_is n [] rest = refl
version_is n (p ∷ []) rest = refl
version_is n (p ∷ q ∷ pmus) rest = let two : eqb (length (p ∷ q ∷ pmus)) 1 ≡ false = ne_eqb (length (p ∷ q ∷ pmus)) 1 (λ k. omega (arith, k)) in rw two refl

-- ---- the order and the end

busy_in : {X : Type 0} (xs : List (List X)) (i : ℕ) → 0 < length (get_or xs i []) → i < length xs
busy_in [] i l = absurd (omega (arith, l))
busy_in (x ∷ xs) zero l = omega arith
busy_in (x ∷ xs) (suc i) l = let r = busy_in xs i l in omega (arith, r)

-- an act is spelled, in range and named
act_fits : (s : Scripted) → IsScript s → (a : Act) → IsAct s a → IsStoredAct a → form.IsActSpelling a × IsActInRange a × IsAct (with_readers s s.readers) a
act_fits s h (act.Processor cpu) is k = let l = busy_in s.cpu_lines cpu.0 is in (omega (arith, l, h.processors), omega (arith, l, h.processors), is)
act_fits s h (act.Tool tool) is k = let l = busy_in s.tool_lines tool.0 is in (omega (arith, l, h.tools), omega (arith, l, h.tools), is)
act_fits s h (act.Seen ring place) is k = let l = ring_small s.rings ring h.rings is in ((omega (arith, l), omega (arith, k)), (l, k), is)

module _ {v : Version} (s : Scripted) (h : IsScript s) (covered : IsCovered s) {ps ts : List ℕ} where
  pub order_run : {before : List Form} → Run v before (with_readers s s.readers) ps ts 8 → Run v (before ++ order_forms s.order) s ps ts 9
  order_run {before = before} b = by_order s.order refl
    where
      fits : (k : ℕ) (d : Act) → k < length s.order → form.IsActSpelling (get_or s.order k d) × IsActInRange (get_or s.order k d) × IsAct (with_readers s s.readers) (get_or s.order k d)
      fits k d l = act_fits s h (get_or s.order k d) (h.order k d l) (h.stored.order k d l)

      by_order : (acts : List Act) → s.order ≡ acts → Run v (before ++ order_forms acts) s ps ts 9
      by_order [] e = rw (append-nil before) (subst (λ o. Run v before (record s { order = o }) ps ts 9) (sym e) (higher (omega arith) b))
      by_order (a ∷ acts) e =
          subst (λ o. Run v (before ++ form.Order o ∷ []) s ps ts 9) e (push (form.Order s.order) (omega arith, omega arith) b (entry tt refl refl refl b.low refl) (behind_pmus b covered tt) (record {
            form = (tt, λ k d l. (fits k d l).0);
            range = λ k d l. (fits k d l).1;
            others = (tt, rw b.script (λ k d l. (fits k d l).2), tt, tt);
          }))

  pub end_run : weight s ≤ 65536 → {before : List Form} → Run v before s ps ts 9 → Run v (before ++ form.End ∷ []) s ps ts 10
  end_run light b = push form.End (omega arith, omega arith) b (entry tt refl refl refl b.low refl) (behind_pmus b covered tt) (record { form = (tt, tt); range = tt; others = (tt, tt, tt, rw b.script light) })
