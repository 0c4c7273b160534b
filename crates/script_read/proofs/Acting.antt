-- Acts of an order, one after the other.
use Rattle.std.proofs.Common.{◌≡◌, All, List, [], ◌∷◌, ◌++◌, refl, sym, ap, subst, ◌∙◌, append_assoc}
use Rattle.std.proofs.lemmas.List.{append-nil, Elements.{All-nil, All-push}}
use Rattle.script_read.proofs.Counting.{middle}
use Rattle.perf_base.specs.{declared.acts.Act.{Act}, Scripts.{Scripted, IsAct}}
use Rattle.perf_base.specs.declared.acts.Act.TheVariants as act

-- the order of acts says nothing of who has lines
with_order : (s : Scripted) (order : List Act) (a : Act) → IsAct s a → IsAct (record s { order = order }) a
with_order s order (act.Processor cpu) h = h
with_order s order (act.Tool tool) h = h
with_order s order (act.Seen ring place) h = h

without_order : (s : Scripted) (order : List Act) (a : Act) → IsAct (record s { order = order }) a → IsAct s a
without_order s order (act.Processor cpu) h = h
without_order s order (act.Tool tool) h = h
without_order s order (act.Seen ring place) h = h

-- the acts are behind those of the old script, and each is one of it
pub record HasAdded (old new : Scripted) (acts : List Act) : Type 0 where
  pub named : All (IsAct old) acts
  pub script : new ≡ record old { order = old.order ++ acts }

pub none_added : (s : Scripted) → HasAdded s s []
none_added s = record { named = All-nil (IsAct s); script = ap (λ (order : List Act). record s { order = order }) (sym (append-nil s.order)) }

-- the next act
module _ (old new : Scripted) (front : List Act) (a : Act) (h : HasAdded old new front) where
  pub act_is_none : (acts rest : List Act) → front ++ (a ∷ rest) ≡ acts → (IsAct new a → ⊥) → All (IsAct old) acts → ⊥
  act_is_none acts rest is not all = not (rw h.script (with_order old (old.order ++ front) a (middle (IsAct old) front a rest (subst (All (IsAct old)) (sym is) all))))

  pub one_added : (newer : Scripted) → IsAct new a → newer ≡ record new { order = new.order ++ a ∷ [] } → HasAdded old newer (front ++ a ∷ [])
  one_added newer named then = record {
    named = All-push (IsAct old) front a h.named (without_order old (old.order ++ front) a (rw h.script at named));
    script = then ∙ (ap (λ (s : Scripted). record s { order = s.order ++ a ∷ [] }) h.script
        ∙ ap (λ (order : List Act). record old { order = order }) (append_assoc old.order front (a ∷ [])));
  }

-- some acts were added, and these are left
pub record IsAdding (old new : Scripted) (acts rest : List Act) : Type 0 where
  pub front : List Act
  pub is : front ++ rest ≡ acts
  pub added : HasAdded old new front

pub adding_none : (s : Scripted) (acts : List Act) → IsAdding s s acts acts
adding_none s acts = record { front = []; is = refl; added = none_added s }

pub adding_fails : (old new : Scripted) (acts rest : List Act) (a : Act) → IsAdding old new acts (a ∷ rest) → (IsAct new a → ⊥) → All (IsAct old) acts → ⊥
adding_fails old new acts rest a h not all = act_is_none old new h.front a h.added acts rest h.is not all

pub adding_more : (old new newer : Scripted) (acts rest : List Act) (a : Act) → IsAdding old new acts (a ∷ rest) → IsAct new a → newer ≡ record new { order = new.order ++ a ∷ [] } → IsAdding old newer acts rest
adding_more old new newer acts rest a h named then = record { front = h.front ++ a ∷ []; is = append_assoc h.front (a ∷ []) rest ∙ h.is; added = one_added old new h.front a h.added newer named then }

pub all_added : (old new : Scripted) (acts : List Act) → IsAdding old new acts [] → All (IsAct old) acts × (new ≡ record old { order = old.order ++ acts })
all_added old new acts h =
    let all : h.front ≡ acts = sym (append-nil h.front) ∙ h.is in
    (subst (All (IsAct old)) all h.added.named, h.added.script ∙ ap (λ (l : List Act). record old { order = old.order ++ l }) all)
