pub mod Sizes
pub mod Tabled
pub mod Keepers
pub mod Laws
pub mod Laying
