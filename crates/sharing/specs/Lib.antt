pub mod Shares
pub mod Limits
pub mod Faults
pub mod Outcomes
pub mod Laws
pub mod Claims
