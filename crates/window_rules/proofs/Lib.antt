pub mod Examples
pub mod BitLaws
pub mod WindowLaws
pub mod HighestLaws
pub mod Theorems
