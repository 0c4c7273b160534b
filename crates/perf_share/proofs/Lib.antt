pub mod Deciding
pub mod Serving
