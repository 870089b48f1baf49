pub mod Hands
pub mod Desks
