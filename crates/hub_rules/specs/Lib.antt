pub mod Answers
pub mod Whole
pub mod Stream
pub mod Summary
pub mod Examples
pub mod Calls
