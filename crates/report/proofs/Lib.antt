pub mod Digits
pub mod Entries
pub mod MadeOrder
pub mod SummedUp
pub mod Told
