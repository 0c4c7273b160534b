-- believed
-- The faults of bytes that are no attribute: their order, and their words.
use Rattle.std.specs.Prelude.{ℕ, nat_lt, ◌==◌, ◌||◌, ◌&&◌, not, Bool, if◌then◌else◌, List, length, slice_range, Option, Some, None, codes, bit_and}
use Rattle.std.specs.{List.{list_any}, Option.{option_or}}
use Rattle.attr_bytes.specs.declared.fault.AttrFault.{AttrFault, TheVariants.{Short, TooBig, BadClass, BadFlags, BadField}}
use Rattle.attr_bytes.specs.{Layout.{type_in, flag_word_in, bp_type_in, config1_in, attr_size}, Flags.{read_bits}}

-- the word of a fault
abbrev pub word_of : AttrFault → List ℕ
word_of Short = codes "ESHORT"
word_of TooBig = codes "E2BIG"
word_of BadClass = codes "ECLASS"
word_of BadFlags = codes "EFLAGBITS"
word_of BadField = codes "EFIELD"

-- a byte from 64 up to the size is not 0: this project's own profile has no field there, and refuses as
-- perf_copy_attr of kernel/events/core.c does
abbrev pub has_unknown : List ℕ → Bool
has_unknown bytes = list_any (λ byte. not (byte == 0)) (slice_range bytes 64 (attr_size bytes))

-- the first fault of the frame, after perf_copy_attr (kernel/events/core.c) and in this project's own
-- order: the size field is cut off, the size is out of range, the bytes that it takes are cut off, an
-- unknown byte is set
abbrev pub frame_fault : List ℕ → Option AttrFault
frame_fault bytes =
    if nat_lt (length bytes) 8 then Some Short else
    if nat_lt (attr_size bytes) 64 || nat_lt 4096 (attr_size bytes) then Some TooBig else
    if nat_lt (length bytes) (attr_size bytes) then Some Short else
    if has_unknown bytes then Some TooBig else None

-- the first fault of the fields, in this project's own order: the type, the flag bits, and bp_type and
-- config1, which have to be 0
abbrev pub field_fault : List ℕ → Option AttrFault
field_fault bytes =
    if not (type_in bytes == 0 || type_in bytes == 1 || type_in bytes == 4) then Some BadClass else
    if not (bit_and (flag_word_in bytes) read_bits == flag_word_in bytes) then Some BadFlags else
    if not (bp_type_in bytes == 0 && config1_in bytes == 0) then Some BadField else None

-- the first fault of the bytes: those of the frame come before those of the fields
abbrev pub fault_of : List ℕ → Option AttrFault
fault_of bytes = option_or (frame_fault bytes) (field_fault bytes)
