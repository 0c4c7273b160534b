pub mod Answers
pub mod Laws
pub mod Published
pub mod Report
