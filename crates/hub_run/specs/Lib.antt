pub mod Held
pub mod Values
