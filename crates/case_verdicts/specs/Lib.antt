pub mod Expectations
pub mod Printed
pub mod Words
pub mod Written
