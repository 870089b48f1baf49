pub mod Keys
pub mod Numbers
pub mod Orders
pub mod Lookups
