mod Answered
mod Answering
mod Attributes
mod FewOn
mod Fitting
mod Lists
mod Machines
mod Numbered
mod Printing
mod Ruled
mod Runs
mod Shapes
mod Sums
mod Tables
mod Unlawful
mod Watched
mod Weights
mod Whole
pub mod answers
pub mod reports
