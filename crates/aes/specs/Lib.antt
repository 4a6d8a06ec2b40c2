pub mod Tables
pub mod Context
pub mod Pairs
