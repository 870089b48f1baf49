mod Found
mod Steps
