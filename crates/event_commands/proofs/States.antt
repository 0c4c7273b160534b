-- Own states that are set one after the other: what is left, that the stage has the command, and that processors that
-- are not reached stand as they stood.
use Rattle.std.specs.Prelude.{◌≡◌, ◌<◌, ◌≤◌, ◌==◌, Bool, true, false, All, List, [], ◌∷◌, None, Some, Result, Ok, Err, IsErr, IfErr, if◌then◌else◌}
use Rattle.std.proofs.{Common.{arith, refl, sym, ap, subst, ◌∙◌, inl, inr}, lemmas.Bool.{cases_eq, false≢true, Decides.{nat_tests}}}
use Rattle.std.proofs.lemmas.List.Folds.{list_any_none}
use Rattle.perf_base.specs.declared.{numbers.{CpuNo.{CpuNo}, CpuSet.{CpuSet}, EventNo.{EventNo}, Key.{Key}}, reasons.Reason.{Reason}, standing.Own.{Own}}
use Rattle.perf_base.specs.declared.standing.Own.TheVariants as own
use Rattle.stage_spec.specs.{declared.instance.Instance.{Instance}, Commands.{closed_refusal, command_each, disabled, enabled, is_reached, targets}, Hardware.{Hardware}, History.{ToolStep}}
use Rattle.stage_laws.proofs.{EachSettled.{briefs-of_passes}, Others.{passes-same}, Untouched.{command-reaches}}
use Rattle.stage_laws.specs.{Narrowing.{has_context, reaches}, Standings.{briefs}}
use Rattle.world_spec.specs.{Value.{World, Entry, no_instance, is_live, entry_at, instance_at, standing_at, seats_at, times}, StageOf.{stage_of}}
use Rattle.world_spec.{specs.{Kept.{leads, post_at, IsKept}, Lines.{HasChanged, IsAnswered}, Rescheduled.{AreUntouchedOutside, IsUntouched}}, proofs.Renaming.{dead-entry, renamed-all}}
use Rattle.world_spec.proofs.{Lines.{KeepsAll, all-shares, all-slots, slots-changed}, Standing.{left-untouched}, Tables.{post_of, entry-here, entry-there, live-written}}
use Rattle.event_commands.specs.{declared.changing.Switch.{Switch}, Changing.{change, changed, keys_named, line_of, state_of, switched}}
use Rattle.event_commands.{specs.Commands.{commanded, AreReached, HaveStates}, proofs.InTurn.{Updates, updates-in, updates-out, keys-stay}}
use Rattle.event_commands.proofs.Named.{named-reached, reached-named}
use Rattle.event_commands.specs.declared.changing.Command.TheVariants as command
use Rattle.event_commands.specs.declared.changing.Switch.TheVariants as switch

-- a switch sets one own state, whatever was there
one-state : (s : Switch) (o : Own) → switched s o ≡ state_of s
one-state switch.On own.Off = refl
one-state switch.On own.Ready = refl
one-state switch.On (own.Error cause) = refl
one-state switch.Off own.Off = refl
one-state switch.Off own.Ready = refl
one-state switch.Off (own.Error cause) = refl

-- entries alone change
states-shape : (s : Switch) (keys : List Key) (w : World) → changed (command.Switch s) keys w ≡ record w { entries = (changed (command.Switch s) keys w).entries }
unfolding changed
states-shape s [] w = refl
states-shape s (k ∷ keys) w = states-shape s keys (change (command.Switch s) w k)

-- one entry
abbrev with_state : (Own → Own) → Entry → Entry
with_state f e = record e { instance = record e.instance { own = f e.instance.own } }

abbrev new_entry : Switch → World → Key → Entry
new_entry s w k = record (entry_at w k) { instance = record (instance_at w k) { own = state_of s } }

state-updates : (s : Switch) → Updates Entry (command.Switch s) entry_at (with_state (switched s))
state-updates s = record {
  own = λ w k. entry-here w k (new_entry s w k) k refl
      ∙ ap (λ o. record (entry_at w k) { instance = record (instance_at w k) { own = o } }) (sym (one-state s (instance_at w k).own));
  other = λ w k q apart. entry-there w k (new_entry s w k) q apart;
  twice = λ e. ap (λ o. record e { instance = record e.instance { own = o } }) (one-state s (switched s e.instance.own) ∙ sym (one-state s e.instance.own));
}

-- a key that names nothing is not reached
far-slot : (n : EventNo) → n.0 < 256 → (256 == n.0) ≡ false
far-slot n low = grind (arith, nat_tests, low)

none-reached : (events : List EventNo) → All (λ e. e.0 < 256) events → is_reached events no_instance ≡ false
none-reached events low = list_any_none (λ e. 256 == e.0) events (λ i d there. far-slot _ (low i d there))

all-entries : (s : Switch) (hw : Hardware) (w : World) (events : List EventNo) (k : Key) → IsKept hw w → All (λ e. e.0 < 256) events
    → entry_at (changed (command.Switch s) (keys_named w events) w) k ≡ record (entry_at w k) { instance = commanded (switched s) events (instance_at w k) }
all-entries s hw w events k h low =
    let keys : List Key = keys_named w events in
    let by_test : Bool → Entry = λ b. record (entry_at w k) { instance = if b then record (instance_at w k) { own = switched s (instance_at w k).own } else instance_at w k } in
    elim (cases_eq (times k keys) 0) [
      | inl none ↦
          let off : is_reached events (instance_at w k) ≡ false = grind (arith, nat_tests, reached-named, dead-entry, none-reached) in
          updates-out (command.Switch s) entry_at (with_state (switched s)) (state-updates s) k keys w none ∙ sym (ap by_test off)
      | inr more ↦
          let some : 1 ≤ times k keys = omega (arith, more) in
          updates-in (command.Switch s) entry_at (with_state (switched s)) (state-updates s) k keys w some ∙ sym (ap by_test (named-reached hw w events k h some).1)
    ]

pub have-states : (s : Switch) (hw : Hardware) (w new : World) (events named : List EventNo) → IsKept hw w → All (λ e. e.0 < 256) events → events ≡ named
    → new ≡ changed (command.Switch s) (keys_named w events) w → HaveStates (switched s) named w new
have-states s hw w new events named h low same is = subst (λ es. HaveStates (switched s) es w new) same (subst (HaveStates (switched s) events w) (sym is) (record {
  world = states-shape s (keys_named w events) w;
  live = keys-stay (command.Switch s) is_live (λ v k live q. live-written v k (new_entry s v k) live q) (keys_named w events) w (λ q some. (named-reached hw w events q h some).0);
  entries = λ k. all-entries s hw w events k h low;
}))

-- the stage
pub states-stage : (f : Own → Own) (w new : World) (events : List EventNo) → HaveStates f events w new → stage_of new ≡ command_each f events (stage_of w)
unfolding command_each
states-stage f w new events h = grind (arith, nat_tests, renamed-all)

-- processors that are not reached
post-kept : (f : Own → Own) (b live : Bool) (e : Entry) → post_of live (record e { instance = if b then record e.instance { own = f e.instance.own } else e.instance }) ≡ post_of live e
post-kept f true live e = refl
post-kept f false live e = refl

states-posts : (f : Own → Own) (w new : World) (events : List EventNo) → HaveStates f events w new → post_at new ≡ post_at w
states-posts f w new events h = grind (arith, nat_tests, post_of, post-kept)

pub states-others : (f : Own → Own) (hw : Hardware) (w new : World) (events : List EventNo) (cpu : CpuNo) → HaveStates f events w new → cpu.0 < 8 → reaches (stage_of w) events cpu ≡ false
    → IsUntouched hw w new cpu
states-others f hw w new events cpu h low off =
    let posts : post_at new ≡ post_at w = states-posts f w new events h in
    left-untouched hw w new cpu low (record {
      briefs = ap (λ s. briefs hw s cpu) (states-stage f w new events h)
          ∙ briefs-of_passes hw cpu (stage_of w) (command_each f events (stage_of w))
          (passes-same (stage_of w) (command_each f events (stage_of w)) cpu (command-reaches f events (stage_of w) cpu off));
      seats = ap (λ (x : World). seats_at x cpu) h.world;
      groups = λ q lead has. (
        ap (λ at. leads at q) (sym posts) ∙ lead,
        sym (λ t. has_context (stage_of (record w { quiet = (h.world t).quiet })) cpu (posts t q).context) ∙ has,
        ap (λ at. (at q).id) posts,
        ap (λ (x : World). standing_at x q) h.world,
      );
    })

-- all else is left, so the command's line has made its change, or is refused
commanded-id : (f : Own → Own) (events : List EventNo) (i : Instance) → (commanded f events i).id ≡ i.id
commanded-id f events i = elim (is_reached events i) as (λ b. (if b then record i { own = f i.own } else i).id ≡ i.id) [ true ↦ refl | false ↦ refl ]

states-keep : (f : Own → Own) (w new : World) (events : List EventNo) → HaveStates f events w new → KeepsAll w new
states-keep f w new events h = grind (arith, commanded-id)

pub has-switched : (s : Switch) (w new : World) (e : EventNo) (group : Bool) (set : CpuSet) → IsKept w.hardware w → IsKept new.hardware new → closed_refusal (stage_of w) e ≡ None
    → HaveStates (switched s) (targets (stage_of w) e group) w new → AreReached (targets (stage_of w) e group) w set → AreUntouchedOutside set w new
    → HasChanged (ToolStep (line_of s e group)) w new set
has-switched switch.On w new e group set h h_then accepted states reached others =
    let keeps : KeepsAll w new = states-keep enabled w new (targets (stage_of w) e group) states in
    slots-changed w new (line_of switch.On e group) set h h_then (all-slots w new keeps) (λ k. all-shares w new (ToolStep (line_of switch.On e group)) k h refl keeps) accepted
    (states-stage enabled w new (targets (stage_of w) e group) states) reached.reaching reached.within others
has-switched switch.Off w new e group set h h_then accepted states reached others =
    let keeps : KeepsAll w new = states-keep disabled w new (targets (stage_of w) e group) states in
    slots-changed w new (line_of switch.Off e group) set h h_then (all-slots w new keeps) (λ k. all-shares w new (ToolStep (line_of switch.Off e group)) k h refl keeps) accepted
    (states-stage disabled w new (targets (stage_of w) e group) states) reached.reaching reached.within others

pub no-switch : (s : Switch) (w : World) (e : EventNo) (group : Bool) (answer : Result CpuSet Reason) → IsErr answer → IfErr answer (λ r. closed_refusal (stage_of w) e ≡ Some r)
    → IsAnswered (ToolStep (line_of s e group)) w w answer
no-switch s w e group (Ok set) failed refused = absurd (false≢true failed)
no-switch switch.On w e group (Err r) failed refused = record { refused = refused; same = refl }
no-switch switch.Off w e group (Err r) failed refused = record { refused = refused; same = refl }
