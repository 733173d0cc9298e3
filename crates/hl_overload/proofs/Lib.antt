pub mod CostLemmas
pub mod FitLemmas
pub mod BestLemmas
pub mod Turns
pub mod OneChoice
pub mod Computed
