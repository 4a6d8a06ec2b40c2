pub mod TableLaws
pub mod ContextLaws
pub mod FillLaws
pub mod PairLaws
