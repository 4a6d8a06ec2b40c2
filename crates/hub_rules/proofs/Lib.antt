pub mod Examples
pub mod AnswerLaws
pub mod Example
pub mod StreamLaws
pub mod CuttingLaws
pub mod BufferLaws
pub mod UsedLaws
pub mod SummaryLaws
