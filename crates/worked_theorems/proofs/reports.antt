pub mod Answering
pub mod Looking
mod Named1
mod Named2
mod Sampling1
mod Sampling2
mod Trailers1
mod Unlawful1
