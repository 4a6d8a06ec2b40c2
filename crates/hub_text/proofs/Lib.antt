pub mod CutLaws
pub mod RequestLaws
