pub mod Runs
pub mod SoundModules
pub mod SteadyMachine
