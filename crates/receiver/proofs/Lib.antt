pub mod MarkLaws
pub mod NonceLaws
pub mod CallLaws
