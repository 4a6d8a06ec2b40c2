pub mod State
pub mod Steps
pub mod Schedule
pub mod Cipher
pub mod Equivalent
pub mod Trace
