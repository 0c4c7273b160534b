-- The machine serves its calls, one after another.
use Rattle.std.{specs.Prelude.{◌≡◌, ℕ, ◌<◌, ◌≤◌, List, [], ◌∷◌, ◌++◌, count_by, length, map}, proofs.Common.{arith, sym, subst}}
use Rattle.std.proofs.lemmas.List.{length-map, map-append, Sums.{count_by-le-length}}
use Rattle.perf_base.specs.{declared.{numbers.RingNo.{RingNo}, reply.Reply.{Reply}}, Scripts.{Scripted, IsCovered, IsScript}}
use Rattle.stage_spec.specs.{Hardware.{hardware_of}, History.{Step, opening_stage, steps_from}, Replies.{AreReplies}}
use Rattle.stage_laws.specs.Bounds.{is_line}
use Rattle.ring_spec.specs.{Rings.{lost_count}, Running.{empty_ring}}
use Rattle.sample_ring.specs.RingLists.{AreNew, InList, OutList, RingList}
use Rattle.work_account.specs.Ends.{AreTogether, HaveAccounts}
use Rattle.machine.{specs.{Given.{IsLedBy, IsNext, IsReplyAfter, Takes, TakesAlone}, Leading.{Kept, LeadTo}}, proofs.Answers.{replies-append}}
use Rattle.machine.proofs.{Led.{led-by-acts}, New.{new-accounts, new-together}}
use Rattle.shared_object.specs.Histories.{most_calls}
use Rattle.perf_share.specs.{Calls.{AreLegal, Fits, none_legal, replies_in, step_of, steps_in}, Served.{IsAfter}, declared.call.Call.{Call}}
use Rattle.perf_share.specs.declared.served.Served.{Served}
use Rattle.perf_share.specs.declared.call.Call.TheVariants as call

-- the rings of a script, made just now
pub made-accounts : (s : Scripted) (sizes : List (RingNo × ℕ)) (words : ℕ) (rings : RingList) (outs : OutList) (ins : InList) → IsScript s → sizes ≡ s.rings
    → AreNew sizes words rings outs ins → HaveAccounts outs (map empty_ring s.rings)
made-accounts s sizes words rings outs ins h same new = new-accounts s words rings outs ins h (subst (λ l. AreNew l words rings outs ins) same new)

-- before its first call
unfolded-led : (s : Scripted) (m : Kept) → IsScript s → LeadTo s [] m → IsLedBy s [] m
unfolding steps_from
unfolded-led s m h led = led-by-acts s [] m h led

pub first-served : (s : Scripted) (sizes : List (RingNo × ℕ)) (words : ℕ) (rings : RingList) (outs : OutList) (ins : InList) (m : Kept) → IsScript s → IsCovered s → s.rings ≡ []
    → sizes ≡ s.rings → AreNew sizes words rings outs ins → LeadTo s [] m → m.outs ≡ outs → IsAfter s (record { machine = m; rings = rings }) []
first-served s sizes words rings outs ins m h covered none same new led outs-are = record {
  script = h;
  covered = covered;
  no_rings = none;
  led = unfolded-led s m h led;
  together = subst (AreTogether rings) (sym outs-are) (new-together s words rings outs ins (subst (λ l. AreNew l words rings outs ins) same new));
  legal = none_legal s;
}

-- each call is a line that the machine takes
all-lines : (calls : List (Call × Reply)) → count_by is_line (steps_in calls) ≤ length calls
all-lines calls = omega (arith, count_by-le-length is_line (steps_in calls), length-map calls (λ (c : Call × Reply). step_of c.0))

next-call : (s : Scripted) (served : Served) (calls : List (Call × Reply)) (c : Call) → length calls < most_calls → IsAfter s served calls → Fits s c
    → IsNext s (steps_in calls) served.machine (step_of c)
next-call s served calls (call.Tool line) few after fits = record { led = after.led; few = omega (arith, few, all-lines calls); within = fits.1 }
next-call s served calls (call.Cpu cpu line) few after fits = record { led = after.led; few = omega (arith, few, all-lines calls); within = fits.1 }

pub takes-call : (s : Scripted) (served : Served) (calls : List (Call × Reply)) (c : Call) → length calls < most_calls → IsAfter s served calls → Fits s c → Takes served.machine (step_of c)
takes-call s served calls c few after fits =
    record { script = s; steps = steps_in calls; sound = after.script; covered = after.covered; next = next-call s served calls c few after fits }

pub takes-alone : (s : Scripted) (served : Served) (calls : List (Call × Reply)) (c : Call) → length calls < most_calls → IsAfter s served calls → Fits s c
    → TakesAlone served.machine (step_of c)
takes-alone s served calls c few after fits = record {
  takes = record { script = s; steps = steps_in calls; sound = after.script; covered = after.covered; next = next-call s served calls c few after fits };
  no_rings = after.no_rings;
}

-- with it the history is legal
legal-more : (s : Scripted) (calls : List (Call × Reply)) (c : Call) (reply : Reply) → AreLegal s calls → IsReplyAfter s (steps_in calls) (step_of c) reply
    → AreLegal s (calls ++ (c, reply) ∷ [])
legal-more s calls c reply legal answer =
    subst (λ (steps : List Step). AreReplies (hardware_of s) (opening_stage s) (lost_count (hardware_of s) (opening_stage s) s.rings) [] steps (replies_in (calls ++ (c, reply) ∷ [])))
    (sym (map-append (λ (d : Call × Reply). step_of d.0) calls ((c, reply) ∷ [])))
    (subst (AreReplies (hardware_of s) (opening_stage s) (lost_count (hardware_of s) (opening_stage s) s.rings) [] (steps_in calls ++ step_of c ∷ []))
    (sym (map-append (λ (d : Call × Reply). d.1) calls ((c, reply) ∷ [])))
    (replies-append (hardware_of s) (opening_stage s) (lost_count (hardware_of s) (opening_stage s) s.rings) [] (steps_in calls) (step_of c ∷ []) (replies_in calls) (reply ∷ []) legal answer))

-- and the machine is as after it
pub served-more : (s : Scripted) (served : Served) (calls : List (Call × Reply)) (c : Call) (reply : Reply) (m : Kept) → length calls < most_calls → IsAfter s served calls → Fits s c
    → (IsLedBy s (steps_in calls) served.machine → IsReplyAfter s (steps_in calls) (step_of c) reply)
    → (IsNext s (steps_in calls) served.machine (step_of c) → IsLedBy s (steps_in calls ++ step_of c ∷ []) m) → m.outs ≡ served.machine.outs
    → IsAfter s (record { machine = m; rings = served.rings }) (calls ++ (c, reply) ∷ []) × AreLegal s (calls ++ (c, reply) ∷ [])
served-more s served calls c reply m few after fits answers leads same =
    let legal : AreLegal s (calls ++ (c, reply) ∷ []) = legal-more s calls c reply after.legal (answers after.led) in (
      record {
        script = after.script;
        covered = after.covered;
        no_rings = after.no_rings;
        led = subst (λ (steps : List Step). IsLedBy s steps m) (sym (map-append (λ (d : Call × Reply). step_of d.0) calls ((c, reply) ∷ []))) (leads (next-call s served calls c few after fits));
        together = subst (AreTogether served.rings) (sym same) after.together;
        legal = legal;
      },
      legal,
    )
