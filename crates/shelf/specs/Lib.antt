pub mod Store
pub mod Laws
pub mod Quotas
