pub mod Strings
pub mod Tests
pub mod Xor
pub mod Numbers
pub mod Blocks
pub mod Parts
pub mod Count
pub mod CompareLaws
