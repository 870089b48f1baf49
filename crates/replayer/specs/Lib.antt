pub mod Filters
pub mod Replays
pub mod Histories
