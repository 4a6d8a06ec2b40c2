pub mod Examples
pub mod OffsetLaws
pub mod FormLaws
pub mod SealLaws
pub mod Reference
pub mod Undoing
pub mod RoundTrip
