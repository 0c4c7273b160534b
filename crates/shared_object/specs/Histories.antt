-- inner
-- What contracts see of a shared object and of the passes to it.
use Rattle.std.specs.Prelude.{◌≡◌, ℕ, ◌+◌, ◌<◌, List, Option, Some, [], ◌∷◌, ◌++◌, length, nat_lt, Contains, if◌then◌else◌}
use Rattle.atomic_table.specs.Seated.{TableId}

-- the most calls that a history has (this project's own profile)
abbrev pub most_calls : ℕ
most_calls = 16384

-- which shared object it is, and the key of the object in it (this project's own profile)
pub record SharedId (K : Type 0) : Type 0 where
  pub table : TableId
  pub key : K

-- what a pass knows: which shared object it goes to, and that object's key; its name, and how many passes were parted
-- from it; the calls that it has seen, each with its reply; the places of its own calls among them; and the words that
-- its compare_exchanges found (this project's own profile)
pub record PassView (K C R : Type 0) : Type 0 where
  pub table : TableId
  pub key : Option K
  pub name : List ℕ
  pub parted : ℕ
  pub seen : List (C × R)
  pub own : List ℕ
  pub found : List ℕ

-- the pass goes to this shared object (this project's own profile)
abbrev pub BelongsTo : {K C R : Type 0} → PassView K C R → SharedId K → Type 0
BelongsTo pass share = (pass.table ≡ share.table) × (pass.key ≡ Some share.key)

-- the longer of two lists, and the first where they are of one length (this project's own profile)
abbrev pub longer : {A : Type 0} → List A → List A → List A
longer xs ys = if nat_lt (length xs) (length ys) then ys else xs

-- the first pass, which has seen nothing; its name is empty, and no pass was parted from it (this project's own
-- profile)
abbrev pub new_pass : {K C R : Type 0} → SharedId K → PassView K C R
new_pass share = record { table = share.table; key = Some share.key; name = []; parted = 0; seen = []; own = []; found = [] }

-- the pass from which one more was parted (this project's own profile)
abbrev pub having_parted : {K C R : Type 0} → PassView K C R → PassView K C R
having_parted pass = record pass { parted = pass.parted + 1 }

-- the pass that was parted from it: it has seen the same, made no call, found no word, and nothing was parted from it;
-- its name is the other's, and behind it how many had been parted from that before (this project's own profile)
abbrev pub part_of : {K C R : Type 0} → PassView K C R → PassView K C R
part_of pass = record pass { name = pass.name ++ pass.parted ∷ []; parted = 0; own = []; found = [] }

-- the calls of a shared object that was closed, and the pass that closed it (this project's own profile)
pub record Closed (K C R : Type 0) : Type 0 where
  pub calls : List (C × R)
  pub pass : PassView K C R

-- Some passes to one object are all that there are: the first is among them, and with each all that were parted from it
-- (this project's own profile).
pub record AreAll {K C R : Type 0} (passes : List (PassView K C R)) : Type 0 where
  pub first : (p : PassView K C R) × Contains passes p × (p.name ≡ [])
  pub parts : (p : PassView K C R) → Contains passes p → (number : ℕ) → number < p.parted
      → (q : PassView K C R) × Contains passes q × (q.name ≡ p.name ++ number ∷ [])
