-- Without rings no event writes to one, and work sends nothing and leaves the ends that send.
use Rattle.std.specs.Prelude.{◌≡◌, ℕ, ◌+◌, ◌*◌, ◌^◌, ◌<◌, All, List, [], ◌∷◌, ◌++◌, flat_map, length, map, slice_index_or, Option, Some, None}
use Rattle.std.{proofs.{Common.{arith, get_or, refl, sym, ap, subst, ◌∙◌, inl}, lemmas.List.Elements.{All-nil, All-weaker}}}
use Rattle.std.proofs.lemmas.List.Folds.{Any-from_list_any}
use Rattle.perf_base.specs.{declared.{lines.Work.{Work}, numbers.{CpuNo.{CpuNo}, EventNo.{EventNo}, RingNo.{RingNo}}}, Scripts.{Scripted, HasRing}}
use Rattle.stage_spec.specs.{declared.instance.Instance.{Instance}, Hardware.{Hardware, hardware_of}, History.{Step, opening_stage, stage_after}}
use Rattle.stage_spec.specs.{Stage.{Stage, all_instances, is_original, original_of}, Verdict.{on_instances}}
use Rattle.stage_laws.{specs.Sound.{AreMapped, IsSound}, proofs.Found.{found_has}}
use Rattle.ring_spec.specs.{Rings.{lost_count}, Running.{RingAccount, Running}}
use Rattle.ring_spec.{specs.Sending.{fields_of, overflows_by, sent_at, sent_by_family, sent_of, to_ring}, proofs.Running.{in_account, record_law}}
use Rattle.ring_words.specs.Ends.{head_place}
use Rattle.sample_ring.specs.{OutEnds.{OutEnd}, RingLists.{OutList, RingList}}
use Rattle.world_spec.specs.{Kept.{IsKept}, StageOf.{stage_of}, Value.{World, instance_at}}
use Rattle.work_account.specs.{Ends.{AreAccounts, AreTogether}, Sampling.{HasInstance, HaveRings, HaveSpaceToSend, ends_of, sent_by}}
use Rattle.machine.{specs.{Given.{IsLedBy, record_by}, Leading.{Kept}}, proofs.{Mapped.{mapped-by}, RingsThere.{of-live}}}
use Rattle.machine.proofs.Roomy.{slot-open, stage-by}

-- no instance writes to a ring
abbrev WritesNowhere : Instance → Type 0
WritesNowhere i = (ring : RingNo) → i.ring ≡ Some ring → ⊥

no-ring : (rings : List (RingNo × ℕ)) (ring : RingNo) → rings ≡ [] → HasRing rings ring → ⊥
no-ring rings ring none h = grind arith

nowhere : (s : Stage) (rings : List (RingNo × ℕ)) → rings ≡ [] → All (HasRing rings) s.mapped → AreMapped s → All WritesNowhere (all_instances s)
nowhere s rings none declared mapped = grind (arith, All-weaker, Any-from_list_any, no-ring, get_or)

silent-instances : (s : Scripted) (steps : List Step) (m : Kept) → s.rings ≡ [] → IsLedBy s steps m → IsSound m.world.hardware (stage_of m.world)
    → All WritesNowhere (all_instances (stage_of m.world))
silent-instances s steps m none led sound =
    let stage : stage_of m.world ≡ stage_after (hardware_of s) (opening_stage s) steps = stage-by s steps m.world led.agrees in
    nowhere (stage_of m.world) s.rings none (subst (λ (st : Stage). All (HasRing s.rings) st.mapped) (sym stage) (mapped-by s steps led.within)) sound.rings

pub no-rings-there : (s : Scripted) (steps : List Step) (m : Kept) (numbers : List RingNo) → s.rings ≡ [] → IsLedBy s steps m → IsKept m.world.hardware m.world
    → IsSound m.world.hardware (stage_of m.world) → HaveRings m.world numbers
no-rings-there s steps m numbers none led kept sound k live ring writes =
    absurd (of-live m.world.hardware m.world WritesNowhere k kept (silent-instances s steps m none led sound) live ring writes)

-- so no record is sent
none-of : (o : Option RingNo) → ((ring : RingNo) → o ≡ Some ring → ⊥) → o ≡ None
none-of None h = refl
none-of (Some ring) h = absurd (h ring refl)

silent-family : (o : Option Instance) (s : Stage) (cpu : CpuNo) (w : Work) (clock count : ℕ) (i : Instance) → ((original : Instance) → o ≡ Some original → WritesNowhere original)
    → sent_by_family o s cpu w clock count i ≡ []
silent-family None s cpu w clock count i h = refl
silent-family (Some original) s cpu w clock count i h =
    ap (λ (ring : Option RingNo). to_ring ring count (sent_of original w i (fields_of s cpu w clock original.id i))) (none-of original.ring (h original refl))

all-silent : {X Y : Type 0} (f : X → List Y) (xs : List X) → ((x : X) → f x ≡ []) → flat_map f xs ≡ []
all-silent f [] h = refl
all-silent f (x ∷ xs) h = ap (λ ys. ys ++ flat_map f xs) (h x) ∙ all-silent f xs h

none-sent : (hw : Hardware) (s : Stage) (left : ℕ → ℕ) (clock : ℕ) (cpu : CpuNo) (w : Work) → All WritesNowhere (all_instances s) → sent_at hw s left clock cpu w ≡ []
none-sent hw s left clock cpu w nowhere =
    all-silent (λ (i : Instance). sent_by_family (original_of s i.event) s cpu w clock (overflows_by w (left i.id) i) i) (on_instances hw s cpu)
    (λ i. silent-family (original_of s i.event) s cpu w clock (overflows_by w (left i.id) i) i
    (λ original is. found_has WritesNowhere (is_original i.event) (all_instances s) original nowhere is))

-- there is no end to send to, and no loss to count
no-ends : (numbers : List RingNo) (outs : List OutEnd) (accounts : List RingAccount) → accounts ≡ [] → AreAccounts numbers outs accounts → outs ≡ []
no-ends [] [] accounts none h = refl
no-ends [] (o ∷ outs) [] none h = absurd h
no-ends [] (o ∷ outs) (a ∷ accounts) none h = absurd h
no-ends (n ∷ numbers) [] accounts none h = absurd h
no-ends (n ∷ numbers) (o ∷ outs) [] none h = absurd h
no-ends (n ∷ numbers) (o ∷ outs) (a ∷ accounts) none h = absurd (omega (arith, ap length none))

no-accounts : (s : Scripted) (steps : List Step) → s.rings ≡ [] → (record_by s steps).rings ≡ []
no-accounts s steps none = grind (arith, record_law, in_account)

lost-nowhere : (hw : Hardware) (stage : Stage) (steps : List Step) (e : EventNo) → lost_count hw stage [] steps e ≡ 0
unfolding lost_count
lost-nowhere hw stage steps e = refl

no-losses : (s : Scripted) (steps : List Step) (e : EventNo) → s.rings ≡ [] → (record_by s steps).lost e ≡ 0
no-losses s steps e none = grind (arith, record_law, lost-nowhere)

none-lost : (s : Scripted) (steps : List Step) (m : Kept) (slot : ℕ) → s.rings ≡ [] → IsLedBy s steps m → IsKept m.world.hardware m.world → HasInstance m.world slot
    → slice_index_or m.world.lost slot 0 ≡ 0
none-lost s steps m slot none led kept has =
    let e : EventNo = (instance_at m.world has.0).event in
    omega (
      arith,
      ap (λ (n : ℕ). slice_index_or m.world.lost n 0) has.2,
      led.agrees.lost e (inl (slot-open m.world.hardware m.world has.0 kept has.1)),
      no-losses s steps e none,
    )

pub space-alone : (s : Scripted) (steps : List Step) (m : Kept) (cpu : CpuNo) (work : Work) → s.rings ≡ [] → IsLedBy s steps m → IsKept m.world.hardware m.world
    → IsSound m.world.hardware (stage_of m.world) → HaveSpaceToSend m.world (ends_of m.outs m.world) cpu work
space-alone s steps m cpu work none led kept sound =
    let r : Running = record_by s steps in
    let outs : m.outs.outs ≡ [] = no-ends m.outs.numbers m.outs.outs r.rings (no-accounts s steps none) led.ends.each in
    let sent : sent_by m.world r.left cpu work ≡ [] = search (none-sent, silent-instances) in
    let count : ℕ = length (sent_by m.world r.left cpu work) in
    record {
      left = r.left;
      are_left = led.agrees.left;
      space = record {
        heads = subst (All (λ (o : OutEnd). head_place o.producer + count * o.producer.ring.bytes < 2 ^ 63)) (sym outs) (All-nil (λ (o : OutEnd). head_place o.producer + count * o.producer.ring.bytes < 2 ^ 63));
        losses = subst (All (λ (o : OutEnd). o.lost + count < 2 ^ 63)) (sym outs) (All-nil (λ (o : OutEnd). o.lost + count < 2 ^ 63));
        lost = λ slot has. omega (arith, none-lost s steps m slot none led kept has, ap length sent);
      };
    }

-- and the ends stay
no-images : (outs : List OutEnd) → map (λ (o : OutEnd). o.producer.ring) outs ≡ [] → outs ≡ []
no-images [] e = refl
no-images (o ∷ outs) e = absurd (omega (arith, ap length e))

pub ends-stay : (s : Scripted) (steps : List Step) (m : Kept) (rings : RingList) (sent : OutList) → s.rings ≡ [] → IsLedBy s steps m → AreTogether rings m.outs → AreTogether rings sent
    → sent ≡ m.outs
ends-stay s steps m rings sent none led before then =
    let outs : m.outs.outs ≡ [] = no-ends m.outs.numbers m.outs.outs (record_by s steps).rings (no-accounts s steps none) led.ends.each in
    let tables : map (λ (o : OutEnd). o.producer.ring) sent.outs ≡ map (λ (o : OutEnd). o.producer.ring) m.outs.outs = then.tables ∙ sym before.tables in
    let few : sent.outs ≡ [] = no-images sent.outs (tables ∙ ap (map (λ (o : OutEnd). o.producer.ring)) outs) in
    λ i. record { numbers = (sym then.numbers ∙ before.numbers) i; outs = (few ∙ sym outs) i }

pub rest-is : (m now : Kept) (counts : List ℕ) (after : World) (sent : OutList) → m ≡ now → sent ≡ m.outs
    → ◌≡◌ {A = Kept} (record { cpus = counts; tools = m.tools; world = after; outs = sent }) (record now { cpus = counts; world = after })
rest-is m now counts after sent is same = λ i. record { cpus = counts; tools = (is i).tools; world = after; outs = (same ∙ ap (λ (k : Kept). k.outs) is) i }
