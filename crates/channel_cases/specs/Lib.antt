pub mod Packets
pub mod Table
pub mod Sample
pub mod Cases
