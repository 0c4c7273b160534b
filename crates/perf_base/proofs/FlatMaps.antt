-- What entries give, each after those before it, with more of them.
use Rattle.std.specs.Prelude.{◌≡◌, List, [], ◌∷◌, ◌++◌}
use Rattle.std.proofs.Common.{sym, ap, ◌∙◌, append_assoc, append-nil}
use Rattle.perf_base.specs.FlatMaps.{flat_map_after}

module _ {X Y : Type 0} (f : List X → X → List Y) where
  pub flat_map_after-append : (before front rest : List X) → flat_map_after f before (front ++ rest) ≡ flat_map_after f before front ++ flat_map_after f (before ++ front) rest
  flat_map_after-append before [] rest = ap (λ done. flat_map_after f done rest) (sym (append-nil before))
  flat_map_after-append before (x ∷ front) rest =
      ap (λ ys. f before x ++ ys) (flat_map_after-append (before ++ x ∷ []) front rest ∙ ap (λ done. flat_map_after f (before ++ x ∷ []) front ++ flat_map_after f done rest) (append_assoc before (x ∷ []) front))
      ∙ sym (append_assoc (f before x) (flat_map_after f (before ++ x ∷ []) front) (flat_map_after f (before ++ x ∷ front) rest))

  -- one entry more
  pub flat_map_after-push : (before entries : List X) (x : X) → flat_map_after f before (entries ++ x ∷ []) ≡ flat_map_after f before entries ++ f (before ++ entries) x
  flat_map_after-push before entries x =
      flat_map_after-append before entries (x ∷ []) ∙ ap (λ ys. flat_map_after f before entries ++ ys) (append-nil (f (before ++ entries) x))
