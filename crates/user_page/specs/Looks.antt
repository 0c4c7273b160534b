-- believed
-- What contracts see of a page and of its two ends.
use Rattle.std.specs.Prelude.{◌≡◌, ℕ, ◌-◌, ◌<◌, ◌≤◌, List, [], ◌∷◌, length, slice_get, IfSome, Option, AllPairs}
use Rattle.atomic_table.specs.Seated.{TableId}
use Rattle.user_page.specs.declared.look.Look.{Look}

-- which page it is: the name of its table (this project's own profile)
abbrev pub PageName : Type 0
PageName = TableId

-- the table of a page has one word, and three places for a look (this project's own profile)
abbrev pub IsPageTable : PageName → Type 0
IsPageTable id = (id.words ≡ 1) × (id.slots ≡ 3)

-- the first look of each page (this project's own profile)
abbrev pub zero_look : Look
zero_look = record { at = 0; count = 0; enabled = 0; running = 0 }

-- the last entry, of a list that has one
abbrev pub last_look : List Look → Option Look
last_look looks = slice_get looks (length looks - 1)

-- a look may be published behind these where it is of no fewer acts than the last of them (this project's own profile)
abbrev pub MayFollow : List Look → Look → Type 0
MayFollow looks look = IfSome (last_look looks) (λ last. last.at ≤ look.at)

-- no look is of fewer acts than one before it (this project's own profile)
abbrev pub NeverFalls : List Look → Type 0
NeverFalls looks = AllPairs (λ a b. a.at ≤ b.at) looks

-- a list of looks as an end of a page knows it (this project's own profile)
pub record IsLookList (looks : List Look) : Type 0 where
  pub some : 0 < length looks
  pub rises : NeverFalls looks

-- the end that publishes: its page, the looks published, and how many steps it has made on the page's word
-- (this project's own profile)
pub record WriterEnd : Type 0 where
  pub page : PageName
  pub published : List Look
  pub steps : ℕ

-- the end that reads: its page, the looks published as far as it has seen them, and how many steps it has made on the
-- page's word (this project's own profile)
pub record WatcherEnd : Type 0 where
  pub page : PageName
  pub seen : List Look
  pub steps : ℕ

-- the writer of a new page (this project's own profile)
abbrev pub new_writer : PageName → WriterEnd
new_writer page = record { page = page; published = zero_look ∷ []; steps = 0 }

-- the watcher of a new page (this project's own profile)
abbrev pub new_watcher : PageName → WatcherEnd
new_watcher page = record { page = page; seen = zero_look ∷ []; steps = 0 }
