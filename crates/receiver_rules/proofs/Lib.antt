pub mod Examples
pub mod ReceiverLaws
pub mod Runs
pub mod Theorems
