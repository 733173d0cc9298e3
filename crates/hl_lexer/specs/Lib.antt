pub mod Bytes
pub mod Laws
pub mod Numbers
pub mod Reading
pub mod Scanning
pub mod Spellings
pub mod Terminals
pub mod Tokens
