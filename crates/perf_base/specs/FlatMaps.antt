-- believed
-- What the entries of a list give, one after the other, where what each gives depends on those before it. This
-- project's own profile.
use Rattle.std.specs.Prelude.{List, [], ◌∷◌, ◌++◌}

-- what entries give, each after those before it, the first of them after some others
abbrev pub flat_map_after : {X Y : Type 0} → (List X → X → List Y) → (before entries : List X) → List Y
flat_map_after f before [] = []
flat_map_after f before (x ∷ entries) = f before x ++ flat_map_after f (before ++ x ∷ []) entries
