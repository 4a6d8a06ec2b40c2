pub mod Words
pub mod Boxes
pub mod Place
