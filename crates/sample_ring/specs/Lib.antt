pub mod InEnds
pub mod Ins
pub mod Lending
pub mod OutEnds
pub mod Outs
pub mod RingLists
pub mod Sends
pub mod Taking
