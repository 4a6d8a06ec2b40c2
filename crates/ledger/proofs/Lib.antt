pub mod CheckLaws
pub mod ValueLaws
pub mod CallLaws
pub mod HeadingLaws
