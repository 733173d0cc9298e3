pub mod Follows
