pub mod Faults
pub mod Words
pub mod Flows
pub mod Offers
pub mod Handovers
pub mod Laws
