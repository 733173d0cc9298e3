pub mod HeldPlaces
pub mod HeldWorks
pub mod Marks
pub mod Operands
pub mod Registers
pub mod Runs
