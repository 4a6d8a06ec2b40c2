pub mod AttemptLaws
pub mod OpenForms
