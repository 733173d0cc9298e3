pub mod Verdict
pub mod Places
pub mod Bodies
pub mod Answer
