pub mod Ladders
pub mod Tables
pub mod Laws
