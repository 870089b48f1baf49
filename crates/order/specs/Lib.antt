pub mod Maps
pub mod Machine
pub mod Promise
pub mod Books
