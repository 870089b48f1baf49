pub mod Events
pub mod Views
