mod Cases
mod Deliver
mod Pieces
mod Tags
