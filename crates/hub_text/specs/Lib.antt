pub mod Cuts
pub mod Requests
