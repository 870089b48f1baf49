pub mod Sides
pub mod Books
pub mod Prices
pub mod Orders
