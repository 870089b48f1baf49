pub mod Columns
pub mod EachMore
pub mod Numbered
pub mod Padding
pub mod Sums
pub mod Written
