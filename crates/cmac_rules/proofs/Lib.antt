mod Examples
pub mod MarkLaws
