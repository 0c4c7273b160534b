-- inner
-- What the lists of ends are once an end that they lent comes back. This project's own profile.
use Rattle.std.specs.{Prelude.{ℕ, slice_set, Option, Some}, Borrow.{Lends, MutBor, Fml}, contracts.option.Option.{the_row as option_row}}
use Rattle.sample_ring.specs.{OutEnds.{OutEnd}, InEnds.{InEnd}, RingLists.{OutList, InList, with_slot}, contracts.sender.Out.{the_row as out_row}}
use Rattle.sample_ring.specs.contracts.{reader.In.{the_row as in_row}, rings.{Outs.{the_row as outs_row}, Ins.{the_row as ins_row}}}

-- the list with another end at a place
abbrev pub with_out : OutList → ℕ → OutEnd → OutList
with_out s i o = record s { outs = slice_set s.outs i o }

abbrev pub with_reader : InList → ℕ → InEnd → InList
with_reader s i r = with_slot s i (Some r)

-- the list ends with the last end behind `r` at that place
abbrev pub LendsOut : MutBor OutList → ℕ → MutBor OutEnd → Fml
LendsOut s i r = Lends outs_row out_row s r (with_out s.now i)

abbrev pub LendsReader : MutBor InList → ℕ → MutBor InEnd → Fml
LendsReader s i r = Lends ins_row in_row s r (with_reader s.now i)

-- the slot ends with the last reader behind `r`
abbrev pub LendsSlot : MutBor (Option InEnd) → MutBor InEnd → Fml
LendsSlot s r = Lends (option_row in_row) in_row s r Some
