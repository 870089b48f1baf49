mod Digits
mod Keys
mod Numerals
mod Others
mod Verbs
