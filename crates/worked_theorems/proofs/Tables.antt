-- Estimates, shares and the text of small tables, worked out by hand.
use Rattle.std.specs.{Prelude.{◌≡◌, ℕ, Bool, true, false, [], ◌∷◌, ◌++◌, codes, Some, None}, Fmt.{digits}}
use Rattle.std.proofs.Common.{refl}
use Rattle.stat_table.specs.{declared.row.StatRow.{StatRow}, Estimates.{estimate_of, share_of}, Table.{table_text}}
use Rattle.worked_theorems.proofs.answers.Words.{slot}

-- An event that was on for half of its time, one that was never on, and one that was never enabled.
pub half_the_time : estimate_of 100 20 10 ≡ Some 200
half_the_time = refl

pub half_the_time_is_half : share_of 20 10 ≡ Some 5000
half_the_time_is_half = refl

pub never_on : estimate_of 0 50 0 ≡ None
never_on = refl

pub never_on_is_nothing : share_of 50 0 ≡ Some 0
never_on_is_nothing = refl

pub never_enabled : estimate_of 7 0 0 ≡ None
never_enabled = refl

pub never_enabled_has_no_share : share_of 0 0 ≡ None
never_enabled_has_no_share = refl

-- Both are rounded down.
pub rounded_down : estimate_of 1 3 2 ≡ Some 1
rounded_down = refl

pub rounded_down_share : share_of 3 2 ≡ Some 6666
rounded_down_share = refl

-- One more than a double can tell.
pub beyond_a_double : estimate_of 9007199254740993 20 20 ≡ Some 9007199254740993
beyond_a_double = refl

pub all_the_time : share_of 20 20 ≡ Some 10000
all_the_time = refl

-- The greatest numbers of a script, and of the type.
pub the_greatest_of_a_script : estimate_of 17592186044415 17592186044415 1 ≡ Some 309485009821309884352692225
the_greatest_of_a_script = refl

pub the_greatest_of_a_script_has_no_share : share_of 17592186044415 1 ≡ Some 0
the_greatest_of_a_script_has_no_share = refl

pub the_greatest_of_all : estimate_of 18446744073709551615 18446744073709551615 1 ≡ Some 340282366920938463426481119284349108225
the_greatest_of_all = refl

pub the_greatest_of_all_has_no_share : share_of 18446744073709551615 1 ≡ Some 0
the_greatest_of_all_has_no_share = refl

-- a row of the kind `a`
abbrev row : (number count enabled running : ℕ) (error : Bool) → StatRow
row number count enabled running error =
    record { event = slot number; name = codes "a"; sums = record { count = count; enabled = enabled; running = running }; error = error }

pub no_rows : table_text [] ≡ codes "stat 0\nend\n"
unfolding digits
no_rows = refl

pub one_row : table_text (row 0 0 50 0 false ∷ [])
    ≡ codes "stat 1\n  0 a                                            0             50              0                           -   0.00%\nend\n"
unfolding digits
one_row = refl

pub two_rows : table_text (row 255 9 0 0 true ∷ row 1 9007199254740993 3 2 false ∷ [])
    ≡ codes "stat 2\n255 a                                            9              0              0                       error       -\n"
    ++ codes "  1 a                               9007199254740993              3              2           13510798882111489  66.66%\nend\n"
unfolding digits
two_rows = refl
