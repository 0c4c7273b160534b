pub mod Pmus
