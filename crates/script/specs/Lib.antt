pub mod Strings
pub mod Records
