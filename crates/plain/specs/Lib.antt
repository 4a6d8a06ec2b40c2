pub mod Lookup
pub mod Accepted
