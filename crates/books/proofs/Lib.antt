pub mod Parts
pub mod Rows
pub mod Filling
pub mod Limits
pub mod Told
mod Stale
mod Behind
