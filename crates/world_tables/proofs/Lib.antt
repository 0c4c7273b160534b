mod Listed
mod Marked
mod Parts
mod Retained
mod Sampling
mod Tables
mod Tallies
mod Written
