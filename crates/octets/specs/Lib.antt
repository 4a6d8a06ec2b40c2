pub mod Strings
pub mod Xor
pub mod Numbers
pub mod Blocks
pub mod Count
