pub mod StateLaws
pub mod ChunkLaws
pub mod SummaryLaws
