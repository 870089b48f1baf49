pub mod Flows
pub mod Grows
pub mod Missing
