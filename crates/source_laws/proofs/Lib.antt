pub mod Extending
pub mod Continuing
pub mod Places
pub mod Forms
pub mod Expressions
pub mod Statements
pub mod Programs
pub mod Examples
