pub mod Records
pub mod Chain
pub mod Regions
pub mod Faults
pub mod Sounds
