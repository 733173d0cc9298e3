pub mod Failures
pub mod BodySearch
pub mod Verdicts
