-- believed
-- The flags of an attribute: those bits of perf_event_attr (perf_event_open(2)) that this project's profile knows.
use Rattle.std.specs.Prelude.{ℕ, List, [], ◌∷◌, codes, Bool, not, ◌==◌, bit_and}
use Rattle.perf_base.specs.declared.flags.AttrFlags.{AttrFlags}

-- the word of each flag in a script with the flag's bit, in the order of a script's text
abbrev pub flag_table : List (List ℕ × ℕ)
flag_table =
    (codes "disabled", 1) ∷ (codes "inherit", 2) ∷ (codes "pinned", 4) ∷ (codes "exclusive", 8)
    ∷ (codes "exclude_user", 16) ∷ (codes "exclude_kernel", 32) ∷ (codes "sample_id_all", 64) ∷ []

-- whether the flag of this bit is set
abbrev pub has_flag : ℕ → AttrFlags → Bool
has_flag bit flags = not (bit_and flags.0 bit == 0)

-- the event is off at first
abbrev pub is_disabled : AttrFlags → Bool
is_disabled flags = has_flag 1 flags

-- tasks that are forked later are counted too
abbrev pub is_inherited : AttrFlags → Bool
is_inherited flags = has_flag 2 flags

-- its group is to be on whenever that is possible
abbrev pub is_pinned : AttrFlags → Bool
is_pinned flags = has_flag 4 flags

-- its group is to be the only hardware group on its processor
abbrev pub is_exclusive : AttrFlags → Bool
is_exclusive flags = has_flag 8 flags

-- occurrences in user mode, and in kernel mode, are left out
abbrev pub excludes_user : AttrFlags → Bool
excludes_user flags = has_flag 16 flags

abbrev pub excludes_kernel : AttrFlags → Bool
excludes_kernel flags = has_flag 32 flags

-- each record of another kind than a sample ends with the fields that tell its event
abbrev pub identifies_all : AttrFlags → Bool
identifies_all flags = has_flag 64 flags
