pub mod PieceLaws
pub mod BlockLaws
pub mod TailLaws
pub mod BeginLaws
pub mod SealForms
