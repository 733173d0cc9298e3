pub mod Form
pub mod Fields
pub mod Contents
pub mod Faults
pub mod Programs
pub mod ProgramFaults
pub mod Contained
