pub mod States
pub mod Channels
pub mod Offers
pub mod Calls
pub mod Follows
pub mod Kept
pub mod Runs
pub mod Laws
