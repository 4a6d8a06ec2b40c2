pub mod NumeralLaws
pub mod DecimalLaws
pub mod HexLaws
pub mod WritingLaws
