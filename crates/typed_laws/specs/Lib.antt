pub mod Operands
pub mod Fitting
pub mod Laws
