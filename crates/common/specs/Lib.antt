pub mod Lengths
pub mod Texts
