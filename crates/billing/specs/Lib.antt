pub mod Limits
pub mod Volumes
pub mod Filling
pub mod Faults
pub mod Bills
pub mod Tables
pub mod Laws
