pub mod Levels
pub mod Entering
pub mod Keepers
pub mod Laws
