pub mod Choice
pub mod Views
pub mod Best
pub mod Laws
