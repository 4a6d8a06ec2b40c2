pub mod Examples
pub mod LedgerLaws
pub mod Runs
pub mod FillingLaws
pub mod Theorems
