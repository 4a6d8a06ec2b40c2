pub mod Rules
pub mod Columns
