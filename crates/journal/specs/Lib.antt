pub mod Tails
pub mod RunTexts
pub mod LossTexts
pub mod Laws
pub mod Worked
pub mod Columns
