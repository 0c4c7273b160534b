-- Lists of groups, sets of processors and the table of flags, worked out by hand.
use Rattle.std.{specs.Prelude.{◌≡◌, ℕ, ◌^◌, List, [], ◌∷◌, ◌++◌, map, bit_or, codes}, proofs.Common.{refl}}
use Rattle.perf_base.specs.{Flags.{flag_table}, Cpus.{HasCpu}, declared.numbers.{Key.{Key}, CpuSet.{CpuSet}}}
use Rattle.group_lists.specs.Groups.{without}
use Rattle.worked_theorems.proofs.answers.Words.{cpu}

abbrev key : ℕ → Key
key n = record { 0 = n }

-- A list gets two groups. The first goes to its end, the other is taken out, and a third is put last.
abbrev two : List Key
two = ([] ++ key 4 ∷ []) ++ key 7 ∷ []

abbrev moved : List Key
moved = without (key 4) two ++ key 4 ∷ []

abbrev three : List Key
three = without (key 7) moved ++ key 9 ∷ []

pub both_are_in_order : two ≡ key 4 ∷ key 7 ∷ []
both_are_in_order = refl

pub the_first_is_last : moved ≡ key 7 ∷ key 4 ∷ []
the_first_is_last = refl

pub the_third_is_last : three ≡ key 4 ∷ key 9 ∷ []
the_third_is_last = refl

-- A set into which the first and the last processor were put, and its union with one of the fourth.
abbrev one : CpuSet
one = record { 0 = bit_or (bit_or 0 (2 ^ 0)) (2 ^ 7) }

abbrev both : CpuSet
both = record { 0 = bit_or one.0 (bit_or 0 (2 ^ 3)) }

pub the_first_is_in_one : HasCpu one (cpu 0)
the_first_is_in_one = refl

pub the_first_is_in_both : HasCpu both (cpu 0)
the_first_is_in_both = refl

pub the_fourth_is_not_in_one : ¬ HasCpu one (cpu 3)
the_fourth_is_not_in_one has = cc

pub the_fourth_is_in_both : HasCpu both (cpu 3)
the_fourth_is_in_both = refl

pub the_seventh_is_not_in_one : ¬ HasCpu one (cpu 6)
the_seventh_is_not_in_one has = cc

pub the_seventh_is_not_in_both : ¬ HasCpu both (cpu 6)
the_seventh_is_not_in_both has = cc

pub the_last_is_in_one : HasCpu one (cpu 7)
the_last_is_in_one = refl

pub the_last_is_in_both : HasCpu both (cpu 7)
the_last_is_in_both = refl

-- the names of the flags and their bits
pub the_names_of_the_flags : map (λ row. row.0) flag_table
    ≡ codes "disabled" ∷ codes "inherit" ∷ codes "pinned" ∷ codes "exclusive"
    ∷ codes "exclude_user" ∷ codes "exclude_kernel" ∷ codes "sample_id_all" ∷ []
the_names_of_the_flags = refl

pub the_bits_of_the_flags : map (λ row. row.1) flag_table ≡ 1 ∷ 2 ∷ 4 ∷ 8 ∷ 16 ∷ 32 ∷ 64 ∷ []
the_bits_of_the_flags = refl
