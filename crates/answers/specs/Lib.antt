pub mod Rows
pub mod Table
pub mod Refusals
pub mod Calls
