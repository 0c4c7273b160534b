use Rattle.std.proofs.Common.{arith, ◌≡◌, ◌+◌, ◌<◌, ◌≤◌, ◌∙◌, true, false, [], ◌∷◌, ◌++◌, List, refl, ap, sym, subst, drop, length, slice_index_or, slice_set}
use Rattle.std.{proofs.lemmas.List.{length-set, get_or-set_same}, specs.List.{fold}}
use Rattle.perf_base.specs.declared.numbers.Key.{Key}
use Rattle.world_spec.{specs.{Value.{Leaders, no_leaders, times, is_key}, Changes.{in_list}}, proofs.Keys.{times-cons, once-true, is_key-same}}
use Rattle.world_tables.specs.Columns.{Columns, is_there}
use Rattle.perf_world.{specs.Parts.{free_one, behind, HaveRoomBehind}, proofs.Tables.{freed-keys, not-there, room-left, next-behind, split-rest}}
use Rattle.perf_world.proofs.going.free_siblings.Goals as goal

pub free-requires : goal.free-requires
free-requires c =
    let rest = split-rest c.args.siblings.now c.loop-sibling.sibling-index (record { 0 = 0 }) c.loop-sibling-test.true in
    let s : Key = slice_index_or c.args.siblings.now c.loop-sibling.sibling-index (record { 0 = 0 }) in
    c.loop-sibling.invariant.there s (subst (λ (keys : List Key). 1 ≤ times s keys) (sym rest) (omega (arith, times-cons s s (drop (c.loop-sibling.sibling-index + 1) c.args.siblings.now), once-true (is_key s s) (is_key-same s s refl))))

pub push-requires-clause-new : goal.push-requires-clause-new
push-requires-clause-new c =
    let rest = split-rest c.args.siblings.now c.loop-sibling.sibling-index (record { 0 = 0 }) c.loop-sibling-test.true in
    not-there (slice_index_or c.args.siblings.now c.loop-sibling.sibling-index (record { 0 = 0 })) (drop (c.loop-sibling.sibling-index + 1) c.args.siblings.now) (slice_index_or c.loop-sibling.contexts c.args.at no_leaders)
    (subst (λ (keys : List Key). HaveRoomBehind keys (slice_index_or c.loop-sibling.contexts c.args.at no_leaders)) rest c.loop-sibling.invariant.room)

pub loop-sibling-preserved : goal.loop-sibling-preserved
loop-sibling-preserved c =
    let i = c.loop-sibling.invariant in
    let s : Key = slice_index_or c.args.siblings.now c.loop-sibling.sibling-index (record { 0 = 0 }) in
    let more : List Key = drop (c.loop-sibling.sibling-index + 1) c.args.siblings.now in
    let rest : drop c.loop-sibling.sibling-index c.args.siblings.now ≡ s ∷ more = split-rest c.args.siblings.now c.loop-sibling.sibling-index (record { 0 = 0 }) c.loop-sibling-test.true in
    let l : Leaders = slice_index_or c.loop-sibling.contexts c.args.at no_leaders in
    let here : is_there c.loop-sibling.events s ≡ true =
    i.there s (subst (λ (keys : List Key). 1 ≤ times s keys) (sym rest) (omega (arith, times-cons s s more, once-true (is_key s s) (is_key-same s s refl)))) in
    record {
      there = λ k in_rest.
          ap (λ (t : Columns). is_there t k) c.free.ensures ∙ (freed-keys c.loop-sibling.events s here k
          ∙ i.there k (subst (λ (keys : List Key). 1 ≤ times k keys) (sym rest) (omega (arith, in_rest, times-cons k s more))));
      place = subst (λ (x : List Leaders). c.args.at < length x) (sym c.push.ensures) (omega (arith, i.place, length-set c.loop-sibling.contexts c.args.at (in_list false (λ keys. keys ++ s ∷ []) l)));
      room = subst (λ (x : Leaders). HaveRoomBehind more x)
          (sym (ap (λ (x : List Leaders). slice_index_or x c.args.at no_leaders) c.push.ensures ∙ get_or-set_same c.loop-sibling.contexts c.args.at (in_list false (λ keys. keys ++ s ∷ []) l) no_leaders i.place))
          (room-left s more l (subst (λ (keys : List Key). HaveRoomBehind keys l) rest i.room));
      events = ap (λ (t : Columns). fold free_one t more) c.free.ensures ∙ (sym (ap (λ (keys : List Key). fold free_one c.loop-sibling.events keys) rest) ∙ i.events);
      contexts = ap (λ (x : List Leaders). slice_set x c.args.at (behind more (slice_index_or x c.args.at no_leaders))) c.push.ensures
          ∙ (next-behind c.loop-sibling.contexts c.args.at s more i.place
          ∙ (sym (ap (λ (keys : List Key). slice_set c.loop-sibling.contexts c.args.at (behind keys l)) rest) ∙ i.contexts));
    }
