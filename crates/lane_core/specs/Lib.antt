pub mod Lane
pub mod SameLane
pub mod Words
pub mod Replies
pub mod Inputs
