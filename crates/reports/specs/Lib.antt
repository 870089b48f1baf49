pub mod Each
pub mod Counts
pub mod GapLog
pub mod DayBook
pub mod Executed
pub mod Headers
pub mod Lines
pub mod Preview
