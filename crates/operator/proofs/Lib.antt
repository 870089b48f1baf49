pub mod Hands
pub mod Calls
pub mod Lists
