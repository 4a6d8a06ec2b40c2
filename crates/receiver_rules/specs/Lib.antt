pub mod Receiver
pub mod Runs
pub mod Examples
