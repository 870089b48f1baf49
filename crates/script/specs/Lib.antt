pub mod Words
pub mod Hex
pub mod Numbers
pub mod Faults
pub mod Fields
pub mod Commands
pub mod Answers
