pub mod WordLaws
pub mod StartLaws
pub mod DataLaws
