pub mod Plain
pub mod Maps
pub mod Numbers
pub mod Order
pub mod Rises
pub mod Keeping
pub mod Books
