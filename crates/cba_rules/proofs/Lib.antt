pub mod Examples
pub mod SetLaws
pub mod RefusalLaws
pub mod Demands
