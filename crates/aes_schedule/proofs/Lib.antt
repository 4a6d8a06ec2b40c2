pub mod WordLaws
pub mod ExpandLaws
