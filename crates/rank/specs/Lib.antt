pub mod Keys
pub mod Rows
pub mod Laws
