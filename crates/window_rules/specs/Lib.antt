pub mod Window
pub mod Theorems
pub mod Examples
