pub mod SetLaws
pub mod AnswerLaws
pub mod GroupLaws
