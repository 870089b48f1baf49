pub mod Kept
pub mod Quotas
