pub mod Slots
pub mod Shelved
pub mod Lending
