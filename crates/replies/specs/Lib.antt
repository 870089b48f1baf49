pub mod Hex
pub mod Calls
pub mod Reads
