pub mod Claims
pub mod Shelved
pub mod Turns
pub mod Verdicts
pub mod Follows
pub mod Kept
pub mod Runs
pub mod Laws
