pub mod Table
pub mod Sample
pub mod Cases
