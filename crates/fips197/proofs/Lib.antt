pub mod StateLaws
pub mod StepLaws
pub mod ScheduleLaws
pub mod CipherLaws
mod EqFigure
pub mod EquivalentLaws
pub mod Inverses
pub mod Equivalent
mod Examples
pub mod TraceLaws
pub mod Traces
