pub mod Answering
mod Commands1
mod Commands2
mod Commands3
mod Counting1
mod Counting2
mod Counting3
mod Named1
mod Named2
mod Named3
mod Named4
mod Named5
mod Named6
mod Sampling1
pub mod Seats
pub mod Words
