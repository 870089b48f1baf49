pub mod Halves
pub mod Places
pub mod Orders
pub mod Lookups
pub mod Edits
