mod Ending
mod Going
mod Hearing
mod Journal
mod Making
mod Noting
mod Opening
mod Telling
