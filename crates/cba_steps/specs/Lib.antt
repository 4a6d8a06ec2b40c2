pub mod Halves
pub mod Walk
pub mod Endings
