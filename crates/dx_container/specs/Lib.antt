pub mod Container
pub mod Laws
