pub mod WordLaws
pub mod Grammar
