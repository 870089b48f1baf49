mod Decimals
mod Places
mod Splits
