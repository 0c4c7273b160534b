-- Given lines as calls.
use Rattle.std.{specs.Prelude.{◌≡◌, ℕ, ◌<◌, ◌+◌, ◌≤◌, List, [], ◌∷◌, ◌++◌, length, map}, proofs.Common.{arith, refl, sym, ap, subst, ◌∙◌, inl, inr}}
use Rattle.std.proofs.lemmas.List.{length-map, length_push, map-append}
use Rattle.perf_base.specs.{declared.{lines.ToolLine.{ToolLine}, numbers.RingNo.{RingNo}, reply.Reply.{Reply}}, Scripts.{Scripted, HasRing, IsToolLine}}
use Rattle.perf_base.specs.declared.lines.ToolLine.TheVariants as tool_line
use Rattle.perf_base.specs.declared.reasons.SReason.{SReason}
use Rattle.script_spec.specs.Forms.{Version}
use Rattle.shared_object.specs.Histories.{most_calls}
use Rattle.perf_share.specs.{Calls.{AreLegal, Fits, MapsNone}, Served.{IsAfter}, declared.call.Call.{Call}}
use Rattle.given_lines.specs.{Given.{IsBadLine, IsGivenLine, IsLineFor}, declared.given.Given.{Given}}
use Rattle.given_lines.specs.declared.given.Given.TheVariants as given
use Rattle.live_session.specs.{Sessions.{IsLiveAfter, IsMade}, Turns.{IsAnswered, call_of, calls_in}, declared.{live_machine.LiveMachine.{LiveMachine}, said.Said.{Said}}}
use Rattle.live_session.specs.declared.said.Said.TheVariants as said

no-ring : (ring : RingNo) → HasRing [] ring → ⊥
no-ring ring h = absurd (omega (arith, h.2))

maps-none : (s : Scripted) (line : ToolLine) → s.rings ≡ [] → IsToolLine s.cpus (length s.kinds) s.rings line → MapsNone line
maps-none s (tool_line.Map event ring) none h = no-ring ring (subst (λ (rings : List (RingNo × ℕ)). HasRing rings ring) none h.1)
maps-none s other none h = tt

pub fits : (s : Scripted) (g : Given) → s.rings ≡ [] → IsLineFor s g → Fits s (call_of g)
fits s (given.Tool tool line) none h = (maps-none s line none h.1, h.1)
fits s (given.Cpu cpu line) none h = (tt, h)

pub calls-push : (made : List (Given × Reply)) (g : Given) (reply : Reply) → calls_in (made ++ (g, reply) ∷ []) ≡ calls_in made ++ (call_of g, reply) ∷ []
calls-push made g reply = map-append (λ (c : Given × Reply). (call_of c.0, c.1)) made ((g, reply) ∷ [])

pub as-many : (made : List (Given × Reply)) → length (calls_in made) ≡ length made
as-many made = length-map made (λ (c : Given × Reply). (call_of c.0, c.1))

-- ---- a call that is made

pub few-calls : (m : LiveMachine) (made : List (Given × Reply)) → IsLiveAfter m made → m.given < 16384 → length (calls_in made) < most_calls
few-calls m made h few = omega (arith, as-many made, h.counted, few)

pub made-more : (m n : LiveMachine) (made : List (Given × Reply)) (g : Given) (reply : Reply) → IsLiveAfter m made → m.given < 16384 → n.given ≡ m.given + 1 → n.script ≡ m.script
    → IsAfter m.script n.served (calls_in made ++ (call_of g, reply) ∷ []) × AreLegal m.script (calls_in made ++ (call_of g, reply) ∷ [])
    → (now : List (Given × Reply)) × IsMade m.script made g (said.Replied reply) now × IsLiveAfter n now
made-more m n made g reply h few counted same after =
    let now = made ++ (g, reply) ∷ [] in
    let calls : calls_in made ++ (call_of g, reply) ∷ [] ≡ calls_in now = sym (calls-push made g reply) in (
      now,
      inl (omega (arith, h.counted, few), (reply, subst (AreLegal m.script) calls after.1, refl, refl)),
      record {
        after = subst (λ (s : Scripted). IsAfter s n.served (calls_in now)) (sym same) (subst (IsAfter m.script n.served) calls after.0);
        counted = omega (arith, counted, h.counted, length_push made (g, reply));
      },
    )

pub made-none : (m : LiveMachine) (made : List (Given × Reply)) (g : Given) → IsLiveAfter m made → 16384 ≤ m.given
    → (now : List (Given × Reply)) × IsMade m.script made g said.Full now × IsLiveAfter m now
made-none m made g h full = (made, inr (omega (arith, h.counted, full), refl, refl), h)

-- a line that was given, by what was made of it
pub answered : (s : Scripted) (v : Version) (made now : List (Given × Reply)) (line : List ℕ) (g : Given) (says : Said) → IsGivenLine s v line g → IsMade s made g says now
    → IsAnswered s v made line says now
answered s v made now line g says is (inl m) =
    inl (record { given = g; reply = m.1.0; is_given = is; few = m.0; legal = m.1.1; added = m.1.2; said = m.1.3 })
answered s v made now line g says is (inr full) = inr (inl (record { given = g; is_given = is; full = full.0; same = full.1; said = full.2 }))

pub bad-line : (s : Scripted) (v : Version) (made : List (Given × Reply)) (line : List ℕ) (r : SReason) → IsBadLine s v line r → IsAnswered s v made line (said.Bad r) made
bad-line s v made line r bad = inr (inr (record { reason = r; bad = bad; same = refl; said = refl }))
