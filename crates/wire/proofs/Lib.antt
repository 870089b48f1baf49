pub mod Pointing
mod Firsts
mod Requests
mod Chunks
mod Judging
mod Rescaled
