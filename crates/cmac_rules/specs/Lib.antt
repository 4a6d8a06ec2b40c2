pub mod Cmac
pub mod Marks
pub mod Examples
pub mod Theorems
